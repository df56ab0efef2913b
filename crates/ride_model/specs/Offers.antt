-- Offers of vehicles to requests.
use Rattle.std.specs.Prelude.{ℕ, ◌+◌, ◌-◌, ◌*◌, ◌==◌, ◌&&◌, ◌||◌, if◌then◌else◌, Bool, max, nat_le, List, length, map, flat_map, slice_get, slice_index, Option, Some, None, option_map, option_and_then, unwrap_or}
use Rattle.std.specs.List.{filter_map, range_with_len}
use Rattle.ride_model.specs.declared.offer.Joins.{Joins}
use Rattle.ride_model.specs.declared.offer.Offer.{Offer}
use Rattle.ride_model.specs.declared.settings.Settings.{Settings}
use Rattle.ride_model.specs.declared.vehicle.Ride.{Ride}
use Rattle.ride_model.specs.declared.vehicle.Stop.{Stop}
use Rattle.ride_model.specs.declared.vehicle.Vehicle.{Vehicle}
use Rattle.ride_model.specs.Road.{RoadMap, least_of}
use Rattle.ride_model.specs.Times.{times_of, drive_of}
use Rattle.ride_model.specs.Keeps.{keeps}
use Rattle.ride_model.specs.Insertion.{inserted}

-- whether a vehicle has no stops
abbrev pub is_idle : Vehicle → Bool
is_idle v = length v.stops.items == 0

-- when a vehicle would start for a batch of this time: an idle one not before the time and the lead
abbrev pub start_of : Vehicle → ℕ → ℕ → ℕ
start_of v lead time = if is_idle v then max v.ready (time + lead) else v.ready

-- whether a vehicle is open to a batch of this time: on duty, and idle or not yet at its next node
abbrev pub is_open : Vehicle → ℕ → Bool
is_open v time = v.duty && (is_idle v || nat_le time v.ready)

-- the cost of a plan for a ride whose pickup stands at place i, in place of the old one
abbrev pub cost_of : Settings → Vehicle → Vehicle → ℕ → ℕ → ℕ → ℕ
cost_of settings old new i start time = settings.drive * (drive_of new settings.dwell - drive_of old settings.dwell)
    + settings.wait * (slice_index (times_of new start settings.dwell) i - time)

-- the legs into and out of the new stops of a plan whose pickup was put before old place i and whose drop-off before old
-- place j, 0 for a leg out of the last stop
abbrev pub leg_at : List Stop → ℕ → ℕ
leg_at stops place = unwrap_or (option_map (λ (stop : Stop). stop.leg) (slice_get stops place)) 0

abbrev pub joins_of : Vehicle → ℕ → ℕ → Joins
joins_of new i j = let leg : ℕ → ℕ = leg_at new.stops.items in
    record { to_pickup = leg i; after_pickup = leg (i + 1); to_dropoff = leg (j + 1); after_dropoff = leg (j + 2) }

-- the offer of the plan new, where it keeps its promises
abbrev pub offer_of_plan : Settings → Vehicle → ℕ → ℕ → ℕ → Vehicle → Option Offer
offer_of_plan settings old i j time new = let start = start_of old settings.lead time in
    if keeps new start settings.dwell
    then Some (record { i = i; j = j; cost = cost_of settings old new i start time; start = start; joins = joins_of new i j })
    else None

-- the offer of a vehicle to a ride at the places i and j at a time; absent where the vehicle is not open, a place is out
-- of range, or the plan would break a promise
unfoldable pub offer_of : RoadMap → Settings → Vehicle → Ride → ℕ → ℕ → ℕ → Option Offer
offer_of map settings v ride time i j = if is_open v time && nat_le i j && nat_le j (length v.stops.items)
    then option_and_then (offer_of_plan settings v i j time) (inserted map v ride i j)
    else None

-- the place pairs of a plan with so many stops
abbrev pub place_pairs : ℕ → List (ℕ × ℕ)
place_pairs stops = flat_map (λ i. map (λ j. (i, j)) (range_with_len i (stops + 1 - i))) (range_with_len 0 (stops + 1))

-- all offers of a vehicle to a ride at a time
abbrev pub offers : RoadMap → Settings → Vehicle → Ride → ℕ → List Offer
offers map settings v ride time =
    filter_map (λ (place : ℕ × ℕ). offer_of map settings v ride time place.0 place.1) (place_pairs (length v.stops.items))

-- the price of a vehicle for a ride at a time: the least cost of its offers, absent where there is none
abbrev pub price : RoadMap → Settings → Vehicle → Ride → ℕ → Option ℕ
price m settings v ride time = least_of (map (λ (offer : Offer). Some offer.cost) (offers m settings v ride time))
