-- Promises to riders: kept, or broken.
use Rattle.std.specs.Prelude.{ℕ, ◌+◌, ◌==◌, ◌&&◌, ◌||◌, Bool, false, not, nat_le, nat_lt, List, [], ◌∷◌, length, filter, Option, Some, None}
use Rattle.std.specs.List.{list_all}
use Rattle.ride_model.specs.declared.vehicle.Ride.{Ride}
use Rattle.ride_model.specs.declared.vehicle.Stop.{Stop}
use Rattle.ride_model.specs.declared.vehicle.Vehicle.{Vehicle}
use Rattle.ride_model.specs.Loads.{is_pickup, loads_fit}
use Rattle.ride_model.specs.Times.{visits_of}
use Rattle.ride_model.specs.Vehicle.{ride_ids}
use Rattle.ride_model.specs.declared.limits.TheConstants.{MOST_STOPS}

-- whether it is a pickup at this node
abbrev pub is_pickup_at : ℕ → Stop → Bool
is_pickup_at node stop = is_pickup stop.kind && stop.node == node

-- whether it is a drop-off at this node
abbrev pub is_dropoff_at : ℕ → Stop → Bool
is_dropoff_at node stop = not (is_pickup stop.kind) && stop.node == node

-- whether a ride's stops are those that it needs and keep its limits: one that is not aboard has a pickup, not after
-- latest, and later a drop-off, at most longest seconds after the pickup; one aboard has a drop-off, at most longest
-- seconds after it was picked up
abbrev pub keeps_visits : Ride → Option ℕ → List (Stop × ℕ) → Bool
keeps_visits ride None (pickup ∷ dropoff ∷ []) = is_pickup_at ride.from pickup.0 && is_dropoff_at ride.to dropoff.0
    && nat_le pickup.1 ride.latest && nat_le dropoff.1 (pickup.1 + ride.longest)
keeps_visits ride (Some picked) (dropoff ∷ []) = is_dropoff_at ride.to dropoff.0 && nat_le dropoff.1 (picked + ride.longest)
keeps_visits _ _ _ = false

-- whether the promise to a ride is kept from a start
abbrev pub keeps_ride : Vehicle → ℕ → ℕ → Ride → Bool
keeps_ride v start dwell ride = keeps_visits ride ride.picked (visits_of v start dwell ride.id)

-- whether a vehicle keeps its promises from a start: at most 16 stops, each ride's promise, and all loads fit
abbrev pub keeps : Vehicle → ℕ → ℕ → Bool
keeps v start dwell = nat_le (length v.stops.items) MOST_STOPS && list_all (keeps_ride v start dwell) v.rides.items && loads_fit v

-- whether a stop's time breaks a limit of the ride
abbrev pub breaks_visits : Ride → Option ℕ → List (Stop × ℕ) → Bool
breaks_visits ride None (pickup ∷ dropoff ∷ []) = nat_lt ride.latest pickup.1 || nat_lt (pickup.1 + ride.longest) dropoff.1
breaks_visits ride (Some picked) (dropoff ∷ []) = nat_lt (picked + ride.longest) dropoff.1
breaks_visits _ _ _ = false

-- whether a time of the vehicle, which leaves when it is ready, breaks a limit of the ride
abbrev pub breaks_ride : Vehicle → ℕ → Ride → Bool
breaks_ride v dwell ride = breaks_visits ride ride.picked (visits_of v v.ready dwell ride.id)

-- the rides that the vehicle's times break, in order of confirmation
abbrev pub broken_of : Vehicle → ℕ → List ℕ
broken_of v dwell = ride_ids (filter (breaks_ride v dwell) v.rides.items)
