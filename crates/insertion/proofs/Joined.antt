-- The legs that a map gives a plan with a ride more are those of the times near the ride.
use Rattle.insertion.proofs.Common.{◌≡◌, ℕ, zero, suc, ◌<◌, ◌≤◌, List, [], ◌∷◌, length, refl, ◌∙◌, ap, arith, map, Option, Some, None, option_map, option_and_then, insert, Joins, Ride, Stop, RoadMap, travel, HasLegs, routed, pickup_of, dropoff_of, stops_with, leg_at, NearStop, leg_before, leg_after, four_legs}
use Rattle.model_laws.proofs.Routes.{with_leg, routed-own}

-- the travel time from the node before a place, and that to the stop at a place, 0 where none is there
abbrev pub before_place : RoadMap → ℕ → ℕ → List Stop → ℕ → Option ℕ
before_place roads at node stops zero = travel roads at node
before_place roads at node [] (suc place) = None
before_place roads at node (s ∷ stops) (suc place) = before_place roads s.node node stops place

abbrev pub after_place : RoadMap → ℕ → List Stop → ℕ → Option ℕ
after_place roads node [] place = Some 0
after_place roads node (s ∷ stops) zero = travel roads node s.node
after_place roads node (s ∷ stops) (suc place) = after_place roads node stops place

-- near the ride they are noted
pub before-noted : (roads : RoadMap) (at node : ℕ) (time_of : NearStop → Option ℕ) (note : Stop → NearStop) (stops : List Stop) (place : ℕ)
    → ((s : Stop) → time_of (note s) ≡ travel roads s.node node)
    → leg_before (travel roads at node) time_of (map note stops) place ≡ before_place roads at node stops place
before-noted roads at node time_of note stops zero is = refl
before-noted roads at node time_of note [] (suc place) is = refl
before-noted roads at node time_of note (s ∷ stops) (suc place) is =
    ap (λ o. leg_before o time_of (map note stops) place) (is s) ∙ before-noted roads s.node node time_of note stops place is

pub after-noted : (roads : RoadMap) (node : ℕ) (time_of : NearStop → Option ℕ) (note : Stop → NearStop) (stops : List Stop) (place : ℕ)
    → ((s : Stop) → time_of (note s) ≡ travel roads node s.node)
    → leg_after time_of (map note stops) place ≡ after_place roads node stops place
after-noted roads node time_of note [] place is = refl
after-noted roads node time_of note (s ∷ stops) zero is = is s
after-noted roads node time_of note (s ∷ stops) (suc place) is = after-noted roads node time_of note stops place is

-- the first leg of stops behind a new one
first-leg : (roads : RoadMap) (at node : ℕ) (stops : List Stop) → HasLegs roads at stops
    → option_map (λ out. leg_at out 0) (routed roads node stops) ≡ after_place roads node stops 0
first-leg roads at node [] legs = refl
first-leg roads at node (s ∷ stops) (there, rest) =
    ap (λ o. option_map (λ out. leg_at out 0)
    (option_and_then (λ leg. option_map (λ more. with_leg leg s ∷ more) o) (travel roads node s.node))) (routed-own roads s.node stops rest)
    ∙ elim (travel roads node s.node) as (λ o. option_map (λ out. leg_at out 0)
    (option_and_then (λ leg. option_map (λ more. with_leg leg s ∷ more) (Some stops)) o) ≡ o) [ None ↦ refl | Some leg ↦ refl ]

-- two legs, where each is there
abbrev pub both : Option ℕ → Option ℕ → Option (ℕ × ℕ)
both (Some a) (Some b) = Some (a, b)
both _ _ = None

-- the legs into and out of one new stop
abbrev legs_around : ℕ → List Stop → ℕ × ℕ
legs_around place out = (leg_at out place, leg_at out (suc place))

one-joined : (roads : RoadMap) (at place : ℕ) (x : Stop) (stops : List Stop) → HasLegs roads at stops → place ≤ length stops
    → option_map (legs_around place) (routed roads at (insert stops place x))
    ≡ both (before_place roads at x.node stops place) (after_place roads x.node stops place)
one-joined roads at zero x stops legs within =
    elim (travel roads at x.node) as (λ o. option_map (legs_around 0) (option_and_then (λ leg. option_map (λ more. with_leg leg x ∷ more) (routed roads x.node stops)) o)
    ≡ both o (after_place roads x.node stops 0)) [
      | None ↦ refl
      | Some leg ↦
          elim (routed roads x.node stops) as (λ o. option_map (legs_around 0) (option_map (λ more. with_leg leg x ∷ more) o)
          ≡ both (Some leg) (option_map (λ out. leg_at out 0) o)) [ None ↦ refl | Some out ↦ refl ]
          ∙ ap (both (Some leg)) (first-leg roads at x.node stops legs)
    ]
one-joined roads at (suc place) x [] legs within = absurd (omega arith)
one-joined roads at (suc place) x (s ∷ stops) (there, rest) within =
    ap (λ o. option_map (legs_around (suc place)) (option_and_then (λ leg. option_map (λ more. with_leg leg s ∷ more) (routed roads s.node (insert stops place x))) o)) there
    ∙ elim (routed roads s.node (insert stops place x)) as (λ o. option_map (legs_around (suc place)) (option_map (λ more. with_leg s.leg s ∷ more) o)
    ≡ option_map (legs_around place) o) [ None ↦ refl | Some out ↦ refl ]
    ∙ one-joined roads s.node place x stops rest (omega arith)

-- the legs into and out of two new stops
abbrev pub legs_of_two : ℕ → ℕ → List Stop → Joins
legs_of_two i j out = record {
  to_pickup = leg_at out i;
  after_pickup = leg_at out (suc i);
  to_dropoff = leg_at out (suc j);
  after_dropoff = leg_at out (suc (suc j));
}

pub two-joined-together : (roads : RoadMap) (at i : ℕ) (ride : Ride) (stops : List Stop) → HasLegs roads at stops → i ≤ length stops
    → option_map (legs_of_two i i) (routed roads at (stops_with ride i i stops))
    ≡ four_legs (before_place roads at ride.from stops i) (travel roads ride.from ride.to) (travel roads ride.from ride.to) (after_place roads ride.to stops i)
two-joined-together roads at zero ride stops legs within =
    elim (travel roads at ride.from) as (λ o. option_map (legs_of_two 0 0)
    (option_and_then (λ leg. option_map (λ more. with_leg leg (pickup_of ride) ∷ more) (routed roads ride.from (dropoff_of ride ∷ stops))) o)
    ≡ four_legs o (travel roads ride.from ride.to) (travel roads ride.from ride.to) (after_place roads ride.to stops 0)) [
      | None ↦ refl
      | Some a ↦
          elim (travel roads ride.from ride.to) as (λ o. option_map (legs_of_two 0 0) (option_map (λ more. with_leg a (pickup_of ride) ∷ more)
          (option_and_then (λ leg. option_map (λ more. with_leg leg (dropoff_of ride) ∷ more) (routed roads ride.to stops)) o))
          ≡ four_legs (Some a) o o (after_place roads ride.to stops 0)) [
            | None ↦ refl
            | Some b ↦
                elim (routed roads ride.to stops) as (λ o. option_map (legs_of_two 0 0) (option_map (λ more. with_leg a (pickup_of ride) ∷ more)
                (option_map (λ more. with_leg b (dropoff_of ride) ∷ more) o))
                ≡ four_legs (Some a) (Some b) (Some b) (option_map (λ out. leg_at out 0) o)) [ None ↦ refl | Some out ↦ refl ]
                ∙ ap (four_legs (Some a) (Some b) (Some b)) (first-leg roads at ride.to stops legs)
          ]
    ]
two-joined-together roads at (suc i) ride [] legs within = absurd (omega arith)
two-joined-together roads at (suc i) ride (s ∷ stops) (there, rest) within =
    ap (λ o. option_map (legs_of_two (suc i) (suc i))
    (option_and_then (λ leg. option_map (λ more. with_leg leg s ∷ more) (routed roads s.node (stops_with ride i i stops))) o)) there
    ∙ elim (routed roads s.node (stops_with ride i i stops)) as (λ o. option_map (legs_of_two (suc i) (suc i)) (option_map (λ more. with_leg s.leg s ∷ more) o)
    ≡ option_map (legs_of_two i i) o) [ None ↦ refl | Some out ↦ refl ]
    ∙ two-joined-together roads s.node i ride stops rest (omega arith)

-- two legs more
abbrev with_two : ℕ → ℕ → ℕ × ℕ → Joins
with_two a b more = record { to_pickup = a; after_pickup = b; to_dropoff = more.0; after_dropoff = more.1 }

four-both : (a b : ℕ) (c d : Option ℕ) → option_map (with_two a b) (both c d) ≡ four_legs (Some a) (Some b) c d
four-both a b None d = refl
four-both a b (Some c) None = refl
four-both a b (Some c) (Some d) = refl

pub two-joined-apart : (roads : RoadMap) (at i j : ℕ) (ride : Ride) (stops : List Stop) → HasLegs roads at stops → i < j → j ≤ length stops
    → option_map (legs_of_two i j) (routed roads at (stops_with ride i j stops))
    ≡ four_legs (before_place roads at ride.from stops i) (after_place roads ride.from stops i) (before_place roads at ride.to stops j) (after_place roads ride.to stops j)
two-joined-apart roads at i zero ride stops legs in_order within = absurd (omega arith)
two-joined-apart roads at i (suc j) ride [] legs in_order within = absurd (omega arith)
two-joined-apart roads at zero (suc j) ride (s ∷ stops) (there, rest) in_order within =
    elim (travel roads at ride.from) as (λ o. option_map (legs_of_two 0 (suc j))
    (option_and_then (λ leg. option_map (λ more. with_leg leg (pickup_of ride) ∷ more) (routed roads ride.from (s ∷ insert stops j (dropoff_of ride)))) o)
    ≡ four_legs o (travel roads ride.from s.node) (before_place roads s.node ride.to stops j) (after_place roads ride.to stops j)) [
      | None ↦ refl
      | Some a ↦
          elim (travel roads ride.from s.node) as (λ o. option_map (legs_of_two 0 (suc j)) (option_map (λ more. with_leg a (pickup_of ride) ∷ more)
          (option_and_then (λ leg. option_map (λ more. with_leg leg s ∷ more) (routed roads s.node (insert stops j (dropoff_of ride)))) o))
          ≡ four_legs (Some a) o (before_place roads s.node ride.to stops j) (after_place roads ride.to stops j)) [
            | None ↦ refl
            | Some b ↦
                elim (routed roads s.node (insert stops j (dropoff_of ride))) as (λ o. option_map (legs_of_two 0 (suc j)) (option_map (λ more. with_leg a (pickup_of ride) ∷ more)
                (option_map (λ more. with_leg b s ∷ more) o))
                ≡ option_map (with_two a b) (option_map (legs_around j) o)) [ None ↦ refl | Some out ↦ refl ]
                ∙ ap (option_map (with_two a b)) (one-joined roads s.node j (dropoff_of ride) stops rest (omega arith))
                ∙ four-both a b (before_place roads s.node ride.to stops j) (after_place roads ride.to stops j)
          ]
    ]
two-joined-apart roads at (suc i) (suc j) ride (s ∷ stops) (there, rest) in_order within =
    ap (λ o. option_map (legs_of_two (suc i) (suc j))
    (option_and_then (λ leg. option_map (λ more. with_leg leg s ∷ more) (routed roads s.node (stops_with ride i j stops))) o)) there
    ∙ elim (routed roads s.node (stops_with ride i j stops)) as (λ o. option_map (legs_of_two (suc i) (suc j)) (option_map (λ more. with_leg s.leg s ∷ more) o)
    ≡ option_map (legs_of_two i j) o) [ None ↦ refl | Some out ↦ refl ]
    ∙ two-joined-apart roads s.node i j ride stops rest (omega arith) (omega arith)
