-- Offers that are drawn: what they would be, were the promises kept.
use Rattle.std.specs.Prelude.{◌≡◌, ℕ, ◌+◌, ◌-◌, ◌≤◌, ◌==◌, if◌then◌else◌, List, [], ◌∷◌, Option, Some, None}
use Rattle.ride_model.specs.declared.offer.Joins.{Joins}
use Rattle.ride_model.specs.declared.offer.Offer.{Offer}
use Rattle.ride_model.specs.declared.vehicle.Ride.{Ride}
use Rattle.ride_model.specs.declared.vehicle.Stop.{Stop}
use Rattle.ride_model.specs.declared.vehicle.Vehicle.{Vehicle}
use Rattle.ride_model.specs.Road.{RoadMap}
use Rattle.ride_model.specs.Keeps.{keeps}
use Rattle.ride_model.specs.Offers.{leg_at}
use Rattle.ride_model.specs.declared.limits.TheConstants.{LATEST_READY}
use Rattle.stop_plans.specs.inner.Change.{InsertsInto}

-- how long a vehicle stands more with two stops more, up to the last arrival
abbrev pub stands_more : ℕ → List Stop → ℕ
stands_more dwell [] = dwell
stands_more dwell (stop ∷ stops) = dwell + dwell

-- the seconds that a plan becomes longer: the new legs and stands, without the legs that they replace
abbrev pub drives_more : ℕ → List Stop → ℕ → ℕ → Joins → ℕ
drives_more dwell stops i j joins =
    joins.to_pickup + joins.after_pickup + joins.to_dropoff + joins.after_dropoff + stands_more dwell stops
    - leg_at stops j - (if i == j then joins.to_dropoff else leg_at stops i)

-- legs of at most 5 x 10^14 seconds
pub record AreShort (joins : Joins) : Type 0 where
  pub to_pickup : joins.to_pickup ≤ 500000000000000
  pub after_pickup : joins.after_pickup ≤ 500000000000000
  pub to_dropoff : joins.to_dropoff ≤ 500000000000000
  pub after_dropoff : joins.after_dropoff ≤ 500000000000000

-- over a map the drawn one is for the plan with the ride, and it is the offer where that plan keeps its promises; else there is none
pub record IsDrawn (roads : RoadMap) (v : Vehicle) (ride : Ride) (dwell : ℕ) (drawn : Offer) (offer : Option Offer) : Type 0 where
  pub new : Vehicle
  pub inserts : InsertsInto roads v ride drawn new
  pub start_limit : drawn.start ≤ LATEST_READY
  pub offer_is : offer ≡ (if keeps new drawn.start dwell then Some drawn else None)

-- where none is drawn there is no offer
abbrev pub IsDrawnFor : RoadMap → Vehicle → Ride → ℕ → Option Offer → Option Offer → Type 0
IsDrawnFor roads v ride dwell None offer = None ≡ offer
IsDrawnFor roads v ride dwell (Some drawn) offer = IsDrawn roads v ride dwell drawn offer
