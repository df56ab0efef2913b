-- A detour takes no less time: the stop behind new ones is reached no sooner.
use Rattle.slack_tables.proofs.Common.{◌≡◌, ℕ, zero, suc, ◌+◌, ◌<◌, ◌≤◌, List, [], ◌∷◌, length, slice_index, refl, subst, arith, Some, None, IsSomeAnd, AllByRecursion, Stop, RoadMap, IsRoadMap, travel, HasLegs, times_from, triangle, before_place, after_place, leave_at}

-- a direct way is no longer than one of two legs
direct-le : (roads : RoadMap) (x y z a b leg : ℕ) → IsRoadMap roads → travel roads x y ≡ Some a → travel roads y z ≡ Some b
    → travel roads x z ≡ Some leg → leg ≤ a + b
direct-le roads x y z a b leg fits first second direct = subst (λ o. IsSomeAnd o (λ t. t ≤ a + b)) direct
    (triangle roads x y z a b fits first second)

-- nor than one of three
direct-le-three : (roads : RoadMap) (w x y z a b c leg : ℕ) → IsRoadMap roads → travel roads w x ≡ Some a → travel roads x y ≡ Some b
    → travel roads y z ≡ Some c
    → travel roads w z ≡ Some leg → leg ≤ a + b + c
direct-le-three roads w x y z a b c leg fits first second third direct =
    elim (travel roads w y) as (λ o. travel roads w y ≡ o → IsSomeAnd o (λ t. t ≤ a + b) → leg ≤ a + b + c) [
      | None ↦ λ _ none. absurd none
      | Some t ↦ λ is below. omega (arith, below, direct-le roads w y z t c leg fits is third direct)
    ] refl (triangle roads w x y a b fits first second)

-- with one new stop before it
pub detour-one : (roads : RoadMap) (at node dwell leave place a b : ℕ) (stops : List Stop) → IsRoadMap roads → HasLegs roads at stops
    → place < length stops
    → before_place roads at node stops place ≡ Some a → after_place roads node stops place ≡ Some b
    → slice_index (times_from dwell leave stops) place ≤ leave_at leave dwell (times_from dwell leave stops) place + a + b
detour-one roads at node dwell leave place a b [] fits legs within before after = absurd (omega arith)
detour-one roads at node dwell leave zero a b (s ∷ stops) fits (leg, rest) within before after =
    omega (arith, direct-le roads at node s.node a b s.leg fits before after leg)
detour-one roads at node dwell leave (suc place) a b (s ∷ stops) fits (leg, rest) within before after =
    detour-one roads s.node node dwell (leave + s.leg + dwell) place a b stops fits rest (omega arith) before after

-- with two new stops before it
pub detour-two : (roads : RoadMap) (at from to dwell leave place a b c : ℕ) (stops : List Stop) → IsRoadMap roads
    → HasLegs roads at stops → place < length stops
    → before_place roads at from stops place ≡ Some a → travel roads from to ≡ Some b → after_place roads to stops place ≡ Some c
    → slice_index (times_from dwell leave stops) place ≤ leave_at leave dwell (times_from dwell leave stops) place + a + b + c
detour-two roads at from to dwell leave place a b c [] fits legs within before direct after = absurd (omega arith)
detour-two roads at from to dwell leave zero a b c (s ∷ stops) fits (leg, rest) within before direct after =
    omega (arith, direct-le-three roads at from to s.node a b c s.leg fits before direct after leg)
detour-two roads at from to dwell leave (suc place) a b c (s ∷ stops) fits (leg, rest) within before direct after =
    detour-two roads s.node from to dwell (leave + s.leg + dwell) place a b c stops fits rest (omega arith) before direct after

-- the vehicle leaves for no place after the bound of its arrivals
pub leave-le : (start dwell place most : ℕ) (times : List ℕ) → start ≤ most + dwell → AllByRecursion (λ time. time ≤ most) times
    → leave_at start dwell times place ≤ most + dwell
leave-le start dwell zero most times begins soon = begins
leave-le start dwell (suc place) most [] begins soon = begins
leave-le start dwell (suc place) most (t ∷ times) begins (first, rest) = leave-le (t + dwell) dwell place most times
    (omega (arith, first)) rest
