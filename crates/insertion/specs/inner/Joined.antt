-- The legs into and out of two new stops, from the times near a ride.
use Rattle.std.specs.Prelude.{ℕ, zero, suc, ◌==◌, if◌then◌else◌, List, [], ◌∷◌, Option, Some, None}
use Rattle.ride_model.specs.declared.offer.Joins.{Joins}
use Rattle.insertion.specs.declared.near.Near.{Near}
use Rattle.insertion.specs.declared.near.NearStop.{NearStop}

-- the time from the stop before a place, or from the first node
abbrev pub leg_before : Option ℕ → (NearStop → Option ℕ) → List NearStop → ℕ → Option ℕ
leg_before first time_of stops zero = first
leg_before first time_of [] (suc place) = None
leg_before first time_of (stop ∷ stops) (suc place) = leg_before (time_of stop) time_of stops place

-- the time to the stop at a place, 0 where none is there
abbrev pub leg_after : (NearStop → Option ℕ) → List NearStop → ℕ → Option ℕ
leg_after time_of [] place = Some 0
leg_after time_of (stop ∷ stops) zero = time_of stop
leg_after time_of (stop ∷ stops) (suc place) = leg_after time_of stops place

abbrev pub to_pickup_of : Near → ℕ → Option ℕ
to_pickup_of near i = leg_before near.at_from (λ (stop : NearStop). stop.to_from) near.stops.items i

abbrev pub after_pickup_of : Near → ℕ → ℕ → Option ℕ
after_pickup_of near i j = if i == j then near.direct else leg_after (λ (stop : NearStop). stop.from_here) near.stops.items i

abbrev pub to_dropoff_of : Near → ℕ → ℕ → Option ℕ
to_dropoff_of near i j = if i == j then near.direct else leg_before near.at_to (λ (stop : NearStop). stop.to_to) near.stops.items j

abbrev pub after_dropoff_of : Near → ℕ → Option ℕ
after_dropoff_of near j = leg_after (λ (stop : NearStop). stop.to_here) near.stops.items j

-- the four legs, where each is there
abbrev pub four_legs : Option ℕ → Option ℕ → Option ℕ → Option ℕ → Option Joins
four_legs (Some a) (Some b) (Some c) (Some d) =
    Some (record { to_pickup = a; after_pickup = b; to_dropoff = c; after_dropoff = d })
four_legs _ _ _ _ = None

-- the legs with the pickup at place i and the drop-off at place j, where each is there
abbrev pub joins_near : Near → ℕ → ℕ → Option Joins
joins_near near i j = four_legs (to_pickup_of near i) (after_pickup_of near i j) (to_dropoff_of near i j) (after_dropoff_of near j)
