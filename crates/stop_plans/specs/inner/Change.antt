-- What is asked of a change of a plan.
use Rattle.std.specs.Prelude.{◌≡◌, ℕ, ◌+◌, ◌≤◌, List, ◌∷◌, ◌++◌, length, Some, None}
use Rattle.ride_model.specs.declared.offer.Offer.{Offer}
use Rattle.ride_model.specs.declared.vehicle.Ride.{Ride}
use Rattle.ride_model.specs.declared.vehicle.Stop.{Stop}
use Rattle.ride_model.specs.declared.vehicle.Vehicle.{Vehicle}
use Rattle.ride_model.specs.Road.{RoadMap, IsRoadMap}
use Rattle.ride_model.specs.Vehicle.{IsRide, IsLawful}
use Rattle.ride_model.specs.inner.Vehicle.{IsFresh}
use Rattle.ride_model.specs.declared.vehicle.Kind.TheVariants.{Pickup, Dropoff}
use Rattle.ride_model.specs.Insertion.{inserted, without_ride}
use Rattle.ride_model.specs.Offers.{joins_of, leg_at}

-- over a map, a lawful vehicle has room for a ride that waits, at the places of the offer, and the offer has the legs of the
-- plan with the ride, which is new
pub record InsertsInto (roads : RoadMap) (v : Vehicle) (ride : Ride) (offer : Offer) (new : Vehicle) : Type 0 where
  pub map_fits : IsRoadMap roads
  pub lawful : IsLawful roads v
  pub ride_fits : IsRide roads ride
  pub waits : ride.picked ≡ None
  pub fresh : IsFresh v.rides.items ride.id
  pub stops_room : length v.stops.items ≤ 14
  pub rides_room : length v.rides.items ≤ 15
  pub in_order : offer.i ≤ offer.j
  pub in_range : offer.j ≤ length v.stops.items
  pub inserted_is : inserted roads v ride offer.i offer.j ≡ Some new
  pub joins_are : offer.joins ≡ joins_of new offer.i offer.j

-- over a map, a lawful vehicle has a ride that is not aboard: its pickup and its drop-off stand among its stops with these
-- before, between and after them, and first and second are the legs to the stops behind the two in the plan that is left, 0
-- where none is
pub record RemovesFrom (roads : RoadMap) (v : Vehicle) (id first second : ℕ) : Type 0 where
  pub map_fits : IsRoadMap roads
  pub lawful : IsLawful roads v
  pub before : List Stop
  pub pickup : Stop
  pub between : List Stop
  pub dropoff : Stop
  pub after : List Stop
  pub stops_are : v.stops.items ≡ before ++ pickup ∷ (between ++ dropoff ∷ after)
  pub pickup_is : (pickup.ride ≡ id) × (pickup.kind ≡ Pickup)
  pub dropoff_is : (dropoff.ride ≡ id) × (dropoff.kind ≡ Dropoff)
  pub first_is : first ≡ leg_at (without_ride roads v id).stops.items (length before)
  pub second_is : second ≡ leg_at (without_ride roads v id).stops.items (length before + length between)

-- the vehicle has a first stop, and is at its node
abbrev pub HasFirstStopAt : Vehicle → Type 0
HasFirstStopAt v = (stop : Stop) × (rest : List Stop) × (v.stops.items ≡ stop ∷ rest) × (v.at ≡ stop.node)
