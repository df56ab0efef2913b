-- Travel times are the least weights of walks: a walk that meets no node twice has at most as many arcs as there are nodes,
-- and each walk has one that is not heavier.
use Rattle.model_laws.proofs.Common.{◌≡◌, ℕ, suc, ◌+◌, ◌*◌, ◌<◌, ◌≤◌, Bool, true, false, List, [], ◌∷◌, ◌++◌, length, eqb, refl, sym, ◌∙◌, ap, subst, arith, map, Option, Some, None, ◌||◌, IsSomeAnd, list_any, AllByRecursion, All-contains, sum_by-append, length-map, eqb-true, IsDistinct-cons, IsDistinct-tail, same_Some, RoadArc, RoadMap, IsArc, IsRoadMap, travel, travel_within, IsWalk, IsLeastWeight, IsTravel, weight_of}
use Rattle.std.specs.List.{IsDistinct}
use Rattle.std.proofs.lemmas.Map.Steps.{length-le_from_distinct_below}
use Rattle.model_laws.proofs.Walks.{weight-cons, within-same, within_is_walked, within_is_least, walk-append}

-- the nodes that a walk leaves
abbrev pub tails_of : List RoadArc → List ℕ
tails_of walk = map (λ (arc : RoadArc). arc.tail) walk

-- the part of a walk from a node that it leaves
pub record GoesOn (roads : RoadMap) (x y : ℕ) (walk : List RoadArc) : Type 0 where
  pub part : List RoadArc
  pub walked : IsWalk roads x y part
  pub distinct : IsDistinct eqb (tails_of part)
  pub lighter : weight_of part ≤ weight_of walk

-- a walk that meets no node twice goes on from each node that it leaves
pub goes_on_from : (roads : RoadMap) (z y x : ℕ) (walk : List RoadArc) → IsWalk roads z y walk → IsDistinct eqb (tails_of walk)
    → list_any (eqb x) (tails_of walk) ≡ true → GoesOn roads x y walk
goes_on_from roads z y x [] walked distinct leaves = absurd (cc leaves)
goes_on_from roads z y x (arc ∷ walk) (there, tail, rest) distinct leaves =
    elim (eqb x arc.tail) as (λ b. eqb x arc.tail ≡ b → (b || list_any (eqb x) (tails_of walk)) ≡ true → GoesOn roads x y (arc ∷ walk)) [
      | true ↦ λ here _. record {
        part = arc ∷ walk;
        walked = (there, sym (eqb-true x arc.tail here), rest);
        distinct = distinct;
        lighter = omega arith;
      }
      | false ↦ λ _ later.
          let on = goes_on_from roads arc.head y x walk rest (IsDistinct-tail eqb arc.tail (tails_of walk) distinct) later in
          record { part = on.part; walked = on.walked; distinct = on.distinct; lighter = omega (arith, on.lighter, weight-cons arc walk) }
    ] refl leaves

-- what no element equals differs from each
pub none_equal : (x : ℕ) (ys : List ℕ) → list_any (eqb x) ys ≡ false → AllByRecursion (λ y. eqb x y ≡ false) ys
none_equal x [] h = tt
none_equal x (y ∷ ys) h =
    elim (eqb x y) as (λ b. eqb x y ≡ b → (b || list_any (eqb x) ys) ≡ false → AllByRecursion (λ z. eqb x z ≡ false) (y ∷ ys)) [
      | true ↦ λ _ is. absurd (cc is)
      | false ↦ λ other rest. (other, none_equal x ys rest)
    ] refl h

nothing_twice : IsDistinct eqb []
unfolding IsDistinct
nothing_twice = tt

-- for each walk there is one that meets no node twice and is not heavier
pub without_cycles : (roads : RoadMap) (x y : ℕ) (walk : List RoadArc) → IsWalk roads x y walk → GoesOn roads x y walk
without_cycles roads x y [] walked = record { part = []; walked = walked; distinct = nothing_twice; lighter = omega arith }
without_cycles roads x y (arc ∷ walk) (there, tail, rest) =
    let on = without_cycles roads arc.head y walk rest in
    elim (list_any (eqb x) (tails_of on.part)) as (λ b. list_any (eqb x) (tails_of on.part) ≡ b → GoesOn roads x y (arc ∷ walk)) [
      | true ↦ λ leaves.
          let back = goes_on_from roads arc.head y x on.part on.walked on.distinct leaves in
          record { part = back.part; walked = back.walked; distinct = back.distinct; lighter = omega (arith, back.lighter, on.lighter, weight-cons arc walk) }
      | false ↦ λ new. record {
        part = arc ∷ on.part;
        walked = (there, tail, on.walked);
        distinct = IsDistinct-cons eqb arc.tail (tails_of on.part)
            (none_equal arc.tail (tails_of on.part) (subst (λ node. list_any (eqb node) (tails_of on.part) ≡ false) (sym tail) new)) on.distinct;
        lighter = omega (arith, on.lighter, weight-cons arc walk, weight-cons arc on.part);
      }
    ] refl

-- a walk leaves nodes of the map alone
pub tails_are_nodes : (roads : RoadMap) (x y : ℕ) (walk : List RoadArc) → IsRoadMap roads → IsWalk roads x y walk
    → (q : ℕ) → list_any (eqb q) (tails_of walk) ≡ true → (1 ≤ q) × (q ≤ roads.nodes)
tails_are_nodes roads x y [] fits walked q h = absurd (cc h)
tails_are_nodes roads x y (arc ∷ walk) fits (there, tail, rest) q h =
    elim (eqb q arc.tail) as (λ b. eqb q arc.tail ≡ b → (b || list_any (eqb q) (tails_of walk)) ≡ true → (1 ≤ q) × (q ≤ roads.nodes)) [
      | true ↦ λ here _.
          let fit = All-contains (IsArc roads) roads.arcs arc fits.arcs_fit there in
          (omega (arith, eqb-true q arc.tail here, fit.0.0), omega (arith, eqb-true q arc.tail here, fit.0.1))
      | false ↦ λ _ later. tails_are_nodes roads arc.head y walk fits rest q later
    ] refl h

-- a walk that meets no node twice has at most as many arcs as there are nodes: its nodes and 0 are different numbers
pub length-simple_walk : (roads : RoadMap) (x y : ℕ) (walk : List RoadArc) → IsRoadMap roads → IsWalk roads x y walk
    → IsDistinct eqb (tails_of walk) → length walk ≤ roads.nodes
length-simple_walk roads x y walk fits walked distinct =
    let few : length (0 ∷ tails_of walk) ≤ suc roads.nodes
    = length-le_from_distinct_below (0 ∷ tails_of walk) (suc roads.nodes) with_zero below in
    omega (arith, few, length-map walk (λ (arc : RoadArc). arc.tail))
  where
    nodes : (q : ℕ) → list_any (eqb q) (tails_of walk) ≡ true → (1 ≤ q) × (q ≤ roads.nodes)
    nodes = tails_are_nodes roads x y walk fits walked

    no_zero : (b : Bool) → list_any (eqb 0) (tails_of walk) ≡ b → b ≡ false
    no_zero true is = absurd (omega (arith, (nodes 0 is).0))
    no_zero false is = refl

    with_zero : IsDistinct eqb (0 ∷ tails_of walk)
    with_zero = IsDistinct-cons eqb 0 (tails_of walk) (none_equal 0 (tails_of walk) (no_zero _ refl)) distinct

    below : (q : ℕ) → list_any (eqb q) (0 ∷ tails_of walk) ≡ true → q < suc roads.nodes
    below q is =
        elim (eqb q 0) as (λ b. eqb q 0 ≡ b → (b || list_any (eqb q) (tails_of walk)) ≡ true → q < suc roads.nodes) [
          | true ↦ λ here _. omega (arith, eqb-true q 0 here)
          | false ↦ λ _ later. omega (arith, (nodes q later).1)
        ] refl is

-- the travel time is the least weight of a walk
pub travel_is_least : (roads : RoadMap) (x y : ℕ) → IsRoadMap roads → IsTravel roads x y (travel roads x y)
unfolding travel
travel_is_least roads x y fits =
    elim (travel_within roads.arcs roads.nodes x y)
    as (λ o. travel_within roads.arcs roads.nodes x y ≡ o → IsTravel roads x y o) [
      | None ↦ λ absent walk walked. let (t, found, _) = least walk walked in absurd (cc (found, absent))
      | Some t ↦ λ found. record {
        walked = within_is_walked roads roads.nodes x y t found;
        least = λ walk walked. let (s, is, below) = least walk walked in
            omega (arith, below, same_Some s t (sym is ∙ found));
      }
    ] refl
  where
    least : (walk : List RoadArc) → IsWalk roads x y walk
        → (t : ℕ) × (travel_within roads.arcs roads.nodes x y ≡ Some t) × (t ≤ weight_of walk)
    least walk walked =
        let simple = without_cycles roads x y walk walked in
        let (t, found, below) = within_is_least roads roads.nodes x y simple.part simple.walked
        (length-simple_walk roads x y simple.part fits simple.walked simple.distinct) in
        (t, found, omega (arith, below, simple.lighter))

-- there is one travel time
pub travel_is_unique : (roads : RoadMap) (x y : ℕ) (s t : Option ℕ) → IsTravel roads x y s → IsTravel roads x y t → s ≡ t
travel_is_unique roads x y None None a b = refl
travel_is_unique roads x y None (Some t) a b = let (walk, walked, _) = b.walked in absurd (a walk walked)
travel_is_unique roads x y (Some s) None a b = let (walk, walked, _) = a.walked in absurd (b walk walked)
travel_is_unique roads x y (Some s) (Some t) a b =
    let (first, first_walked, first_weight) = a.walked in
    let (second, second_walked, second_weight) = b.walked in
    let same : s ≡ t = omega (arith, first_weight, second_weight, a.least second second_walked, b.least first first_walked) in
    ap Some same

-- a travel time that fits the relation is the travel time
pub travel-is_travel : (roads : RoadMap) (x y : ℕ) (t : Option ℕ) → IsRoadMap roads → IsTravel roads x y t → travel roads x y ≡ t
travel-is_travel roads x y t fits is = travel_is_unique roads x y (travel roads x y) t (travel_is_least roads x y fits) is

-- staying takes no time
pub travel-same : (roads : RoadMap) (x : ℕ) → travel roads x x ≡ Some 0
unfolding travel
travel-same roads x = within-same roads.arcs roads.nodes x x refl

-- the relation of a travel time that is there
pub travel_is_weight : (roads : RoadMap) (x y t : ℕ) → IsRoadMap roads → travel roads x y ≡ Some t → IsLeastWeight roads x y t
travel_is_weight roads x y t fits is = subst (IsTravel roads x y) is (travel_is_least roads x y fits)

-- a detour takes no less time
pub triangle : (roads : RoadMap) (x y z s t : ℕ) → IsRoadMap roads → travel roads x y ≡ Some s → travel roads y z ≡ Some t
    → IsSomeAnd (travel roads x z) (λ direct. direct ≤ s + t)
triangle roads x y z s t fits first second =
    let (a, a_walked, a_weight) = (travel_is_weight roads x y s fits first).walked in
    let (b, b_walked, b_weight) = (travel_is_weight roads y z t fits second).walked in
    let walked = walk-append roads x y z a b a_walked b_walked in
    elim (travel roads x z) as (λ o. IsTravel roads x z o → IsSomeAnd o (λ direct. direct ≤ s + t)) [
      | None ↦ λ none. absurd (none (a ++ b) walked)
      | Some direct ↦ λ is. omega (arith, is.least (a ++ b) walked, sum_by-append (λ (arc : RoadArc). arc.seconds) a b, a_weight, b_weight)
    ] (travel_is_least roads x z fits)

-- a walk's weight is at most 10^9 for each arc
pub weight-le : (roads : RoadMap) (x y : ℕ) (walk : List RoadArc) → IsRoadMap roads → IsWalk roads x y walk
    → weight_of walk ≤ length walk * 1000000000
weight-le roads x y [] fits walked = omega arith
weight-le roads x y (arc ∷ walk) fits (there, tail, rest) =
    let fit = All-contains (IsArc roads) roads.arcs arc fits.arcs_fit there in
    omega (arith, weight-cons arc walk, weight-le roads arc.head y walk fits rest, fit.2)

-- a travel time is at most 5 x 10^14
pub travel-le : (roads : RoadMap) (x y t : ℕ) → IsRoadMap roads → travel roads x y ≡ Some t → t ≤ 500000000000000
travel-le roads x y t fits is =
    let weight = travel_is_weight roads x y t fits is in
    let (walk, walked, weighs) = weight.walked in
    let simple = without_cycles roads x y walk walked in
    omega (
      arith,
      weight.least simple.part simple.walked,
      weight-le roads x y simple.part fits simple.walked,
      length-simple_walk roads x y simple.part fits simple.walked simple.distinct,
      fits.nodes_limit,
    )
