-- Arrivals at the visits of a ride.
use Rattle.std.specs.Prelude.{ℕ, ◌+◌, ◌≤◌, ◌&&◌, ◌||◌, not, if◌then◌else◌, nat_lt, Bool, false, List, ◌∷◌, Option, Some, None, is_some, IfSome}
use Rattle.ride_model.specs.declared.vehicle.Kind.{Kind}
use Rattle.ride_model.specs.declared.vehicle.Kind.TheVariants.{Pickup, Dropoff}
use Rattle.ride_model.specs.declared.vehicle.Ride.{Ride}
use Rattle.ride_model.specs.declared.vehicle.Stop.{Stop}
use Rattle.ride_model.specs.declared.limits.TheConstants.{LATEST_READY, LONGEST_RIDE}
use Rattle.stop_plans.specs.inner.First.{is_visit}

-- the first arrival at a visit of this kind of a ride
abbrev pub arrival_of : ℕ → Kind → List Stop → List ℕ → Option ℕ
arrival_of id kind (stop ∷ stops) (time ∷ times) = if is_visit id kind stop then Some time else arrival_of id kind stops times
arrival_of id kind _ _ = None

-- when a rider boards: at the arrival at the pickup, or as noted where the rider is aboard
abbrev pub boarding_of : Ride → Option ℕ → List Stop → List ℕ → Option ℕ
boarding_of ride None stops times = arrival_of ride.id Pickup stops times
boarding_of ride (Some picked) stops times = Some picked

-- whether a boarding and an arrival at the drop-off break a limit of the ride
abbrev pub breaks_between : Ride → ℕ → ℕ → Bool
breaks_between ride boarding dropoff =
    (not (is_some ride.picked) && nat_lt ride.latest boarding) || nat_lt (boarding + ride.longest) dropoff

abbrev pub breaks_trip : Ride → Option ℕ → Option ℕ → Bool
breaks_trip ride (Some boarding) (Some dropoff) = breaks_between ride boarding dropoff
breaks_trip ride _ _ = false

-- whether the arrivals at these stops break a limit of the ride
abbrev pub breaks_along : List Stop → List ℕ → Ride → Bool
breaks_along stops times ride =
    breaks_trip ride (boarding_of ride ride.picked stops times) (arrival_of ride.id Dropoff stops times)

-- a ride of at most 10^6 seconds, of a rider who boarded by the end of the last day
pub record IsLimited (ride : Ride) : Type 0 where
  pub longest_limit : ride.longest ≤ LONGEST_RIDE
  pub picked_limit : IfSome ride.picked (λ picked. picked ≤ LATEST_READY)
