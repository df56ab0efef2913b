-- The sweep computes travel times.
use Rattle.adaptive_roads.proofs.Common.{◌≡◌, ℕ, ◌+◌, ◌<◌, ◌≤◌, ◌⊎◌, inl, inr, true, false, cond, List, [], ◌∷◌, ltb, refl, sym, subst, arith, Option, Some, None, Contains, ltb-true, ltb-false, RoadArc, RoadMap, IsRoadMap, travel, IsWalk, IsTravel, weight_of, weight-cons, travel-is_travel, travel-le, travel_is_least, IsWay, Reaches, IsRising, IsFalling, IsHierarchy, IsUpDown, flipped, IsLabel, IsGathered, time_of}
use Rattle.adaptive_roads.proofs.hierarchy_laws.Ways.{reaches-same, reaches-carried, reaches-before, reaches-flipped, way-from_walk, walk-from_way}
use Rattle.adaptive_roads.proofs.hierarchy_laws.Climbing.{climbs, up_down-behind, reaches-up_down}

-- the last arc of a way, and what is before, unless the way has no arc
record HasLast (Kind : RoadArc → Type 0) (x y limit : ℕ) : Type 0 where
  arc : RoadArc
  there : Kind arc
  head : arc.head ≡ y
  front : ℕ
  before : Reaches Kind x arc.tail front
  lighter : front + arc.seconds ≤ limit

last_of : (Kind : RoadArc → Type 0) (x y : ℕ) (way : List RoadArc) → IsWay Kind x y way → (x ≡ y) ⊎ HasLast Kind x y (weight_of way)
last_of Kind x y [] same = inl same
last_of Kind x y (arc ∷ way) (there, tail, rest) =
    elim (last_of Kind arc.head y way rest) [
      | inl same ↦ inr record {
        arc = arc;
        there = there;
        head = same;
        front = 0;
        before = reaches-same Kind x arc.tail 0 (sym tail);
        lighter = omega (arith, weight-cons arc way);
      }
      | inr last ↦ inr record {
        arc = last.arc;
        there = last.there;
        head = last.head;
        front = arc.seconds + last.front;
        before = reaches-before Kind arc x last.arc.tail last.front (arc.seconds + last.front) tail (omega arith) there last.before;
        lighter = omega (arith, last.lighter, weight-cons arc way);
      }
    ]

-- a step of the sweep gives the least weight of a way up and down
pub gathered : (never : ℕ) (Link : RoadArc → Type 0) (level labels : ℕ → ℕ) (source node climb label : ℕ)
    → IsLabel never (Reaches (IsRising Link level) source node) climb
    → ((arc : RoadArc) → IsFalling Link level arc → arc.head ≡ node → IsLabel never (IsUpDown Link level source arc.tail) (labels arc.tail))
    → IsGathered never Link level labels node climb label → IsLabel never (IsUpDown Link level source node) label
gathered never Link level labels source node climb label climbed higher g = record {
  reached = λ low. elim (g.attained low) [
    | inl same ↦ record {
      peak = node;
      climb = label;
      descent = 0;
      rises = subst (λ w. Reaches (IsRising Link level) source node w) (sym same) (climbed.reached (omega arith));
      falls = reaches-same _ node node 0 refl;
      lighter = omega arith;
    }
    | inr (arc, falls, head, is) ↦
        up_down-behind Link level source node (labels arc.tail) label arc falls head (omega arith)
        ((higher arc falls head).reached (omega arith))
  ];
  least = λ weight on. elim (last_of (IsFalling Link level) on.peak node on.falls.way on.falls.walked) [
    | inl same ↦
        let least = climbed.least on.climb (subst (λ n. Reaches (IsRising Link level) source n on.climb) same on.rises) in
        omega (arith, least, g.climbed, on.lighter)
    | inr last ↦
        let through : IsUpDown Link level source last.arc.tail (on.climb + last.front) = record {
          peak = on.peak;
          climb = on.climb;
          descent = last.front;
          rises = on.rises;
          falls = last.before;
          lighter = omega arith;
        } in
        let least = (higher last.arc last.there last.head).least (on.climb + last.front) through in
        omega (arith, least, g.stepped last.arc last.there last.head, last.lighter, on.falls.lighter, on.lighter)
  ];
}

-- the arcs of a map
abbrev IsRoad : RoadMap → RoadArc → Type 0
IsRoad roads = Contains roads.arcs

-- the least weight of a way up and down is the travel time
pub swept-is_travel : (never : ℕ) (roads : RoadMap) (Link : RoadArc → Type 0) (level : ℕ → ℕ) (core x y label : ℕ) → IsRoadMap roads
    → 500000000000000 < never → IsHierarchy (Contains roads.arcs) Link level core → IsLabel never (IsUpDown Link level x y) label
    → travel roads x y ≡ time_of never label
swept-is_travel never roads Link level core x y label fits large h is =
    elim (ltb label never) as (λ b. ltb label never ≡ b → travel roads x y ≡ cond b (Some label) None) [
      | true ↦ λ below.
          let low : label < never = ltb-true label never below in
          let way = reaches-carried Link (IsRoad roads) x y label h.sound (reaches-up_down Link level x y label (is.reached low)) in
          let lightest = walk_weighs (weight_of way.way) way.way (walk-from_way roads x y way.way way.walked) refl in
          travel-is_travel roads x y (Some label) fits record {
            walked = (way.way, walk-from_way roads x y way.way way.walked, omega (arith, lightest, way.lighter));
            least = λ walk walked. walk_weighs (weight_of walk) walk walked refl;
          }
      | false ↦ λ above.
          let high : never ≤ label = ltb-false label never above in
          no_time high (travel roads x y) refl
    ] refl
  where
    walk_weighs : (weight : ℕ) (walk : List RoadArc) → IsWalk roads x y walk → weight_of walk ≡ weight → label ≤ weight
    walk_weighs weight walk walked weighs =
        let r : Reaches (IsRoad roads) x y weight = record { way = walk; walked = way-from_walk roads x y walk walked; lighter = omega arith } in
        is.least weight (climbs (IsRoad roads) Link level core x y weight h (reaches-carried (IsRoad roads) Link x y weight h.complete r))

    no_time : never ≤ label → (time : Option ℕ) → travel roads x y ≡ time → travel roads x y ≡ None
    no_time high None e = e
    no_time high (Some t) e =
        let least = subst (IsTravel roads x y) e (travel_is_least roads x y fits) in
        let (walk, walked, weighs) = least.walked in
        absurd (omega (arith, walk_weighs t walk walked weighs, travel-le roads x y t fits e))

-- a walk of the map turned round weighs what a walk back weighs
walk-turned : (roads back : RoadMap) (x y : ℕ) (walk : List RoadArc) → ((arc : RoadArc) → Contains roads.arcs arc → Contains back.arcs (flipped arc))
    → IsWalk roads x y walk → Reaches (Contains back.arcs) y x (weight_of walk)
walk-turned roads back x y walk turns walked =
    reaches-flipped (Contains roads.arcs) (Contains back.arcs) x y (weight_of walk) turns
    record { way = walk; walked = way-from_walk roads x y walk walked; lighter = omega arith }

-- the travel time from y to x over the map turned round is the travel time from x to y
pub travel-flipped : (roads back : RoadMap) (x y : ℕ) → IsRoadMap roads → IsRoadMap back
    → ((arc : RoadArc) → Contains roads.arcs arc → Contains back.arcs (flipped arc))
    → ((arc : RoadArc) → Contains back.arcs arc → Contains roads.arcs (flipped arc)) → travel back y x ≡ travel roads x y
travel-flipped roads back x y fits turned_fits turns returns =
    travel-is_travel back y x (travel roads x y) turned_fits (is_turned (travel roads x y) (travel_is_least roads x y fits))
  where
    is_turned : (time : Option ℕ) → IsTravel roads x y time → IsTravel back y x time
    is_turned None none = λ walk walked.
        let r = walk-turned back roads y x walk returns walked in
        none r.way (walk-from_way roads x y r.way r.walked)
    is_turned (Some t) least =
        let (walk, walked, weighs) = least.walked in
        let r = walk-turned roads back x y walk turns walked in
        let least_back : (other : List RoadArc) → IsWalk back y x other → t ≤ weight_of other = λ other other_walked.
        let q = walk-turned back roads y x other returns other_walked in
        omega (arith, least.least q.way (walk-from_way roads x y q.way q.walked), q.lighter) in
        record {
          walked = (r.way, walk-from_way back y x r.way r.walked, omega (arith, least_back r.way (walk-from_way back y x r.way r.walked), r.lighter, weighs));
          least = least_back;
        }
