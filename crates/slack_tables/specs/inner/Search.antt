-- What a ride costs at a pair of places, by the tables of a plan and the times near the ride.
use Rattle.std.specs.Prelude.{◌≡◌, ℕ, zero, suc, ◌+◌, ◌-◌, ◌*◌, ◌≤◌, ◌==◌, ◌&&◌, if◌then◌else◌, Bool, nat_le, List, [], ◌∷◌, length, map, slice_index, All, Option, Some, None, option_map, option_and_then, IfSome}
use Rattle.std.specs.List.{list_all, range_with_len}
use Rattle.ride_model.specs.declared.settings.Settings.{Settings}
use Rattle.ride_model.specs.declared.vehicle.Load.{Load}
use Rattle.ride_model.specs.declared.vehicle.Ride.{Ride}
use Rattle.ride_model.specs.declared.vehicle.Vehicle.{Vehicle}
use Rattle.ride_model.specs.Road.{least_of}
use Rattle.ride_model.specs.declared.limits.TheConstants.{GREATEST_WEIGHT, LATEST_READY, LATEST_TIME, LONGEST_DWELL, LONGEST_RIDE}
use Rattle.insertion.specs.declared.near.Near.{Near}
use Rattle.insertion.specs.declared.near.NearStop.{NearStop}
use Rattle.insertion.specs.inner.Joined.{leg_before, leg_after}
use Rattle.slack_tables.specs.declared.terms.Terms.{Terms}
use Rattle.slack_tables.specs.declared.found.Found.{Found}
use Rattle.slack_tables.specs.inner.Tables.{PlanSlack, load_at, room_at}
use Rattle.slack_tables.specs.inner.SlackOf.{AreTables}

-- the terms of a search for places of a ride in the plan of a vehicle that leaves at a start
abbrev pub terms_of : Vehicle → Ride → ℕ → ℕ → Settings → Terms
terms_of v ride start now settings = record {
  time = now;
  start = start;
  dwell = settings.dwell;
  drive = settings.drive;
  wait = settings.wait;
  latest = ride.latest;
  longest = ride.longest;
  takes = record { seats = ride.seats; chairs = ride.chairs };
  most = record { seats = v.seats; chairs = v.chairs };
}

-- when a vehicle with these arrivals leaves for a place
abbrev pub leave_at : ℕ → ℕ → List ℕ → ℕ → ℕ
leave_at start dwell times zero = start
leave_at start dwell [] (suc place) = start
leave_at start dwell (time ∷ times) (suc place) = leave_at (time + dwell) dwell times place

-- the last arrival, or the start where there is none
abbrev pub last_time : ℕ → List ℕ → ℕ
last_time start [] = start
last_time start (time ∷ times) = last_time time times

-- whether the ride's load fits beside a load
abbrev pub has_room : Terms → Load → Bool
has_room terms load =
    nat_le (load.seats + terms.takes.seats) terms.most.seats && nat_le (load.chairs + terms.takes.chairs) terms.most.chairs

-- whether it fits from one place to another
abbrev pub has_room_between : Terms → PlanSlack → ℕ → ℕ → Bool
has_room_between terms slack i j = list_all (has_room terms) (map (load_at slack) (range_with_len i (j + 1 - i)))

-- a number, where it is not above a limit
abbrev pub at_most : ℕ → ℕ → Option ℕ
at_most limit number = if nat_le number limit then Some number else None

-- the arrival at a pickup before place i, where it is not too late
abbrev pub pickup_at : Terms → PlanSlack → Near → ℕ → Option ℕ
pickup_at terms slack near i =
    option_and_then (λ leg. at_most terms.latest (leave_at terms.start terms.dwell slack.times i + leg))
    (leg_before near.at_from (λ (stop : NearStop). stop.to_from) near.stops.items i)

-- by how much the stops behind that pickup are later, where it is no more than their room
abbrev pub lateness : Terms → PlanSlack → Near → ℕ → ℕ → Option ℕ
lateness terms slack near i pickup =
    option_and_then (λ leg. at_most (room_at slack i i) (pickup + terms.dwell + leg - slice_index slack.times i))
    (leg_after (λ (stop : NearStop). stop.from_here) near.stops.items i)

-- the seconds by which the plan becomes longer where the stops behind a drop-off before place j are later by delay, and those
-- between it and the pickup before place i by late; absent where that is more than their room
abbrev pub within_rooms : PlanSlack → ℕ → ℕ → ℕ → ℕ → Option ℕ
within_rooms slack i j late delay =
    if nat_le delay (room_at slack i j) && nat_le (delay - late) (room_at slack j j) then Some delay else None

-- the seconds by which the plan becomes longer for a drop-off at this time before place j
abbrev pub added : Terms → PlanSlack → Near → ℕ → ℕ → ℕ → ℕ → Option ℕ
added terms slack near i j late dropoff =
    if j == length slack.times
    then Some (dropoff - last_time terms.start slack.times)
    else option_and_then (λ leg. within_rooms slack i j late (dropoff + terms.dwell + leg - slice_index slack.times j))
    (leg_after (λ (stop : NearStop). stop.to_here) near.stops.items j)

-- the cost of so many seconds more of driving, and of a pickup at this time
abbrev pub cost_of : Terms → ℕ → ℕ → ℕ
cost_of terms pickup seconds = terms.drive * seconds + terms.wait * (pickup - terms.time)

-- the cost for a drop-off that is reached by a leg, where it is there, after leaving at this time
abbrev pub cost_of_dropoff : Terms → PlanSlack → Near → ℕ → ℕ → ℕ → ℕ → ℕ → Option ℕ → Option ℕ
cost_of_dropoff terms slack near i j late pickup leave leg =
    option_and_then (λ dropoff. option_map (cost_of terms pickup) (added terms slack near i j late dropoff))
    (option_and_then (λ seconds. at_most (pickup + terms.longest) (leave + seconds)) leg)

-- the cost with the drop-off directly behind the pickup
abbrev pub cost_together : Terms → PlanSlack → Near → ℕ → ℕ → Option ℕ
cost_together terms slack near i pickup =
    cost_of_dropoff terms slack near i i 0 pickup (pickup + terms.dwell) near.direct

-- the cost with the drop-off before a later place, the stops between later by late
abbrev pub cost_apart : Terms → PlanSlack → Near → ℕ → ℕ → ℕ → ℕ → Option ℕ
cost_apart terms slack near i j late pickup =
    cost_of_dropoff terms slack near i j late pickup (leave_at terms.start terms.dwell slack.times j + late)
    (leg_before near.at_to (λ (stop : NearStop). stop.to_to) near.stops.items j)

-- the cost with the pickup before place i and the drop-off before place j; absent where a limit or a load would be broken, or a
-- leg is not there
abbrev pub cost_at : Terms → PlanSlack → Near → ℕ → ℕ → Option ℕ
cost_at terms slack near i j =
    if has_room_between terms slack i j
    then option_and_then (λ pickup.
    if i == j
    then cost_together terms slack near i pickup
    else option_and_then (λ late. cost_apart terms slack near i j late pickup) (lateness terms slack near i pickup))
    (pickup_at terms slack near i)
    else None

-- the least cost with the pickup before place i and the drop-off before a place from j on
abbrev pub least_at : Terms → PlanSlack → Near → ℕ → ℕ → Option ℕ
least_at terms slack near i j =
    least_of (map (cost_at terms slack near i) (range_with_len j (length slack.times + 1 - j)))

-- the least cost with the pickup before a place from i on
abbrev pub least_from : Terms → PlanSlack → Near → ℕ → Option ℕ
least_from terms slack near i =
    least_of (map (λ k. least_at terms slack near k k) (range_with_len i (length slack.times + 1 - i)))

-- what a pair of places costs that was found
abbrev pub cost_found : Option Found → Option ℕ
cost_found found = option_map (λ (f : Found). f.cost) found

-- a pair of places in order and in range, with its cost
pub record IsFound (terms : Terms) (slack : PlanSlack) (near : Near) (found : Found) : Type 0 where
  pub in_order : found.i ≤ found.j
  pub in_range : found.j ≤ length slack.times
  pub cost_is : cost_at terms slack near found.i found.j ≡ Some found.cost

-- a leg that is there is at most 5 x 10^14 seconds
abbrev pub IsShort : Option ℕ → Type 0
IsShort leg = IfSome leg (λ seconds. seconds ≤ 500000000000000)

-- the legs near a stop are short
pub record IsNearStop (stop : NearStop) : Type 0 where
  pub to_from : IsShort stop.to_from
  pub from_here : IsShort stop.from_here
  pub to_to : IsShort stop.to_to
  pub to_here : IsShort stop.to_here

-- the ranges of the terms
pub record AreTerms (terms : Terms) : Type 0 where
  pub start_limit : terms.start ≤ LATEST_READY
  pub dwell_limit : terms.dwell ≤ LONGEST_DWELL
  pub drive_limit : terms.drive ≤ GREATEST_WEIGHT
  pub wait_limit : terms.wait ≤ GREATEST_WEIGHT
  pub latest_limit : terms.latest ≤ LATEST_TIME
  pub longest_limit : terms.longest ≤ LONGEST_RIDE
  pub few_seats : terms.takes.seats ≤ 8
  pub few_chairs : terms.takes.chairs ≤ 4

-- a search whose numbers are in their ranges, with one item near the ride for each stop
pub record IsSearch (terms : Terms) (slack : PlanSlack) (near : Near) : Type 0 where
  pub terms_fit : AreTerms terms
  pub tables : AreTables slack
  pub one_each : length near.stops.items ≡ length slack.times
  pub first_leg : IsShort near.at_from
  pub other_leg : IsShort near.at_to
  pub direct : IsShort near.direct
  pub legs : All IsNearStop near.stops.items
