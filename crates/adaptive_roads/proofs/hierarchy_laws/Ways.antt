-- Ways, and what they weigh.
use Rattle.adaptive_roads.proofs.Common.{◌≡◌, ℕ, ◌+◌, ◌≤◌, List, [], ◌∷◌, ◌++◌, refl, sym, subst, arith, Contains, sum_by-append, RoadArc, RoadMap, IsWalk, weight_of, weight-cons, IsWay, Reaches, flipped}

-- one way after another
pub way-append : (Kind : RoadArc → Type 0) (x y z : ℕ) (first second : List RoadArc) → IsWay Kind x y first → IsWay Kind y z second
    → IsWay Kind x z (first ++ second)
way-append Kind x y z [] second same walked = subst (λ node. IsWay Kind node z second) (sym same) walked
way-append Kind x y z (arc ∷ first) second (there, tail, rest) walked =
    (there, tail, way-append Kind arc.head y z first second rest walked)

-- the same way over arcs of a wider kind
pub way-mapped : (Kind Wider : RoadArc → Type 0) (x y : ℕ) (way : List RoadArc) → ((arc : RoadArc) → Kind arc → Wider arc)
    → IsWay Kind x y way → IsWay Wider x y way
way-mapped Kind Wider x y [] wider same = same
way-mapped Kind Wider x y (arc ∷ way) wider (there, tail, rest) =
    (wider arc there, tail, way-mapped Kind Wider arc.head y way wider rest)

-- staying takes no arc
pub reaches-same : (Kind : RoadArc → Type 0) (x y limit : ℕ) → x ≡ y → Reaches Kind x y limit
reaches-same Kind x y limit same = record { way = []; walked = same; lighter = omega arith }

-- an arc is a way
pub reaches-arc : (Kind : RoadArc → Type 0) (arc : RoadArc) → Kind arc → Reaches Kind arc.tail arc.head arc.seconds
reaches-arc Kind arc there = record { way = arc ∷ []; walked = (there, refl, refl); lighter = omega (arith, weight-cons arc []) }

pub reaches-more : (Kind : RoadArc → Type 0) (x y limit more : ℕ) → limit ≤ more → Reaches Kind x y limit → Reaches Kind x y more
reaches-more Kind x y limit more below r = record { way = r.way; walked = r.walked; lighter = omega (arith, r.lighter) }

pub reaches-append : (Kind : RoadArc → Type 0) (x y z first second limit : ℕ) → first + second ≤ limit
    → Reaches Kind x y first → Reaches Kind y z second → Reaches Kind x z limit
reaches-append Kind x y z first second limit below a b = record {
  way = a.way ++ b.way;
  walked = way-append Kind x y z a.way b.way a.walked b.walked;
  lighter = omega (arith, a.lighter, b.lighter, sum_by-append (λ (arc : RoadArc). arc.seconds) a.way b.way);
}

pub reaches-mapped : (Kind Wider : RoadArc → Type 0) (x y limit : ℕ) → ((arc : RoadArc) → Kind arc → Wider arc)
    → Reaches Kind x y limit → Reaches Wider x y limit
reaches-mapped Kind Wider x y limit wider r =
    record { way = r.way; walked = way-mapped Kind Wider x y r.way wider r.walked; lighter = r.lighter }

-- an arc before a way, and an arc behind one
pub reaches-before : (Kind : RoadArc → Type 0) (arc : RoadArc) (x y rest limit : ℕ) → arc.tail ≡ x → arc.seconds + rest ≤ limit
    → Kind arc → Reaches Kind arc.head y rest → Reaches Kind x y limit
reaches-before Kind arc x y rest limit tail below there r =
    record { way = arc ∷ r.way; walked = (there, tail, r.walked); lighter = omega (arith, weight-cons arc r.way, r.lighter) }

pub reaches-behind : (Kind : RoadArc → Type 0) (arc : RoadArc) (x y front limit : ℕ) → arc.head ≡ y → front + arc.seconds ≤ limit
    → Kind arc → Reaches Kind x arc.tail front → Reaches Kind x y limit
reaches-behind Kind arc x y front limit head below there r =
    reaches-append Kind x arc.tail y front arc.seconds limit below r
    (subst (λ node. Reaches Kind arc.tail node arc.seconds) head (reaches-arc Kind arc there))

-- where each arc of a kind weighs what a way over another kind weighs, each way does
way-carried : (Kind Other : RoadArc → Type 0) (x y : ℕ) (way : List RoadArc)
    → ((arc : RoadArc) → Kind arc → Reaches Other arc.tail arc.head arc.seconds) → IsWay Kind x y way
    → Reaches Other x y (weight_of way)
way-carried Kind Other x y [] carries same = reaches-same Other x y 0 same
way-carried Kind Other x y (arc ∷ way) carries (there, tail, rest) =
    reaches-append Other x arc.head y arc.seconds (weight_of way) (weight_of (arc ∷ way)) (omega (arith, weight-cons arc way))
    (subst (λ node. Reaches Other node arc.head arc.seconds) tail (carries arc there))
    (way-carried Kind Other arc.head y way carries rest)

pub reaches-carried : (Kind Other : RoadArc → Type 0) (x y limit : ℕ)
    → ((arc : RoadArc) → Kind arc → Reaches Other arc.tail arc.head arc.seconds) → Reaches Kind x y limit → Reaches Other x y limit
reaches-carried Kind Other x y limit carries r =
    reaches-more Other x y (weight_of r.way) limit r.lighter (way-carried Kind Other x y r.way carries r.walked)

-- a walk of a map is a way over its arcs, and the other way round
pub way-from_walk : (roads : RoadMap) (x y : ℕ) (walk : List RoadArc) → IsWalk roads x y walk → IsWay (Contains roads.arcs) x y walk
way-from_walk roads x y [] same = same
way-from_walk roads x y (arc ∷ walk) (there, tail, rest) = (there, tail, way-from_walk roads arc.head y walk rest)

pub walk-from_way : (roads : RoadMap) (x y : ℕ) (walk : List RoadArc) → IsWay (Contains roads.arcs) x y walk → IsWalk roads x y walk
walk-from_way roads x y [] same = same
walk-from_way roads x y (arc ∷ walk) (there, tail, rest) = (there, tail, walk-from_way roads arc.head y walk rest)

-- a way backward is a way over the arcs the other way round
way-flipped : (Kind Other : RoadArc → Type 0) (x y : ℕ) (way : List RoadArc) → ((arc : RoadArc) → Kind arc → Other (flipped arc))
    → IsWay Kind x y way → Reaches Other y x (weight_of way)
way-flipped Kind Other x y [] turns same = reaches-same Other y x 0 (sym same)
way-flipped Kind Other x y (arc ∷ way) turns (there, tail, rest) =
    reaches-behind Other (flipped arc) y x (weight_of way) (weight_of (arc ∷ way)) tail (omega (arith, weight-cons arc way))
    (turns arc there) (way-flipped Kind Other arc.head y way turns rest)

pub reaches-flipped : (Kind Other : RoadArc → Type 0) (x y limit : ℕ) → ((arc : RoadArc) → Kind arc → Other (flipped arc))
    → Reaches Kind x y limit → Reaches Other y x limit
reaches-flipped Kind Other x y limit turns r =
    reaches-more Other y x (weight_of r.way) limit r.lighter (way-flipped Kind Other x y r.way turns r.walked)
