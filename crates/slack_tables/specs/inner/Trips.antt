-- Riders' trips in a plan, and by how much each may be delayed.
use Rattle.std.specs.Prelude.{ℕ, ◌+◌, ◌-◌, ◌&&◌, if◌then◌else◌, min, nat_lt, nat_le, List, [], ◌∷◌, Option, Some, None, option_map}
use Rattle.ride_model.specs.declared.vehicle.Kind.{Kind}
use Rattle.ride_model.specs.declared.vehicle.Kind.TheVariants.{Pickup, Dropoff}
use Rattle.ride_model.specs.declared.vehicle.Ride.{Ride}
use Rattle.ride_model.specs.declared.vehicle.Stop.{Stop}
use Rattle.stop_plans.specs.inner.First.{is_visit}
use Rattle.slack_tables.specs.declared.trips.Trip.{Trip}
use Rattle.slack_tables.specs.declared.trips.Visit.{Visit}

-- the first visit of this kind of a ride at these stops, where the first of them has this place, and the arrivals at them
abbrev pub first_visit : ℕ → ℕ → Kind → List Stop → List ℕ → Option Visit
first_visit place id kind (stop ∷ stops) (time ∷ times) =
    if is_visit id kind stop then Some (record { place = place; time = time }) else first_visit (place + 1) id kind stops times
first_visit place id kind _ _ = None

-- how many stops are served when a rider is aboard, and when that is: after the pickup, or from the start on
abbrev pub boarding_visit : Ride → Option ℕ → List Stop → List ℕ → Option Visit
boarding_visit ride None stops times =
    option_map (λ (visit : Visit). record visit { place = visit.place + 1 }) (first_visit 0 ride.id Pickup stops times)
boarding_visit ride (Some picked) stops times = Some (record { place = 0; time = picked })

-- the trip from a boarding to a drop-off: the pickup may be later by what is left until the ride's latest, and the drop-off
-- may be later, where the boarding is not, by what is left of its longest
abbrev pub trip_between : Ride → Option Visit → Option Visit → Option Trip
trip_between ride (Some boarding) (Some dropoff) = Some (record {
  boarded = boarding.place;
  dropoff = dropoff.place;
  wait_room = ride.latest - boarding.time;
  ride_room = boarding.time + ride.longest - dropoff.time;
})
trip_between ride _ _ = None

-- the trip of a ride in a plan with these stops and arrivals
abbrev pub trip_of : Ride → List Stop → List ℕ → Option Trip
trip_of ride stops times =
    trip_between ride (boarding_visit ride ride.picked stops times) (first_visit 0 ride.id Dropoff stops times)

-- more than any delay
abbrev pub no_limit : ℕ
no_limit = 18446744073709551615

-- by how much the stops from a place on may be later for this trip, where those before the place of the change come as they
-- did: a rider who boards at one of them by the wait, one who boarded before the change and leaves at one of them by the ride
abbrev pub room_in : Trip → ℕ → ℕ → ℕ
room_in trip change place =
    if nat_lt place trip.boarded then trip.wait_room
    else if nat_le trip.boarded change && nat_le place trip.dropoff then trip.ride_room
    else no_limit

-- by how much they may be later for all these trips
abbrev pub room_of : List Trip → ℕ → ℕ → ℕ
room_of [] change place = no_limit
room_of (trip ∷ trips) change place = min (room_in trip change place) (room_of trips change place)
