-- The road network of a plan within its ranges is within the limits of a map.
use Rattle.city_maker.proofs.Common.{◌≡◌, ℕ, ◌+◌, ◌*◌, ◌<◌, ◌≤◌, Bool, true, false, cond, nat_lt, if◌then◌else◌, List, [], ◌∷◌, length, refl, ap, ◌∙◌, arith, All, flat_map, enumerate_from, ltb-true, length-append, All-nil, All-cons, All-append, All-weaker, mul-add-lt, mul-le, RoadArc, RoadMap, IsRoadMap, IsArc, CityPlan, draw_at, nodes_of, IsPlan, node_at, arcs_between, arcs_of, neighbour_pairs, network_of, pairs_at}
use Rattle.city_maker.proofs.AllOfPieces.{All-flat_map, All-flat_map_range, All-enumerate, length-flat_map_range_le}
use Rattle.city_maker.proofs.ArcLemmas.{arc, pairs_in_row}
use Rattle.city_maker.proofs.DrawLemmas.{draw_at-below}

-- two nodes of so many
abbrev pub IsPair : ℕ → ℕ × ℕ → Type 0
IsPair nodes pair = (1 ≤ pair.0) × (pair.0 ≤ nodes) × (1 ≤ pair.1) × (pair.1 ≤ nodes)

-- one element, or none
all-if : (P : ℕ × ℕ → Type 0) (b : Bool) (pair : ℕ × ℕ) → (b ≡ true → P pair) → All P (cond b (pair ∷ []) [])
all-if P true pair holds = All-cons P pair [] (holds refl) (All-nil P)
all-if P false pair holds = All-nil P

length-if : (b : Bool) (pair : ℕ × ℕ) → length (cond b (pair ∷ []) []) ≤ 1
length-if true pair = omega arith
length-if false pair = omega arith

-- a node with its right neighbour, and with its lower one
abbrev right_pair : ℕ → ℕ → ℕ → List (ℕ × ℕ)
right_pair side row column =
    if nat_lt (column + 1) side then (node_at side row column, node_at side row (column + 1)) ∷ [] else []

abbrev lower_pair : ℕ → ℕ → ℕ → List (ℕ × ℕ)
lower_pair side row column =
    if nat_lt (row + 1) side then (node_at side row column, node_at side (row + 1) column) ∷ [] else []

module _ (side row column : ℕ) (row_in : row < side) (column_in : column < side) where
  pairs_at-nodes : All (IsPair (side * side)) (pairs_at side row column)
  unfolding pairs_at
  pairs_at-nodes =
      let here : row * side + column < side * side = mul-add-lt row side column side row_in column_in in
      All-append (IsPair (side * side)) (right_pair side row column) (lower_pair side row column)
      (all-if (IsPair (side * side)) (nat_lt (column + 1) side) _ (λ inner.
      let right : row * side + (column + 1) < side * side = mul-add-lt row side (column + 1) side row_in (ltb-true _ _ inner) in
      (omega arith, omega arith, omega arith, omega arith)))
      (all-if (IsPair (side * side)) (nat_lt (row + 1) side) _ (λ upper.
      let lower : (row + 1) * side + column < side * side = mul-add-lt (row + 1) side column side (ltb-true _ _ upper) column_in in
      (omega arith, omega arith, omega arith, omega arith)))

pairs_at-few : (side row column : ℕ) → length (pairs_at side row column) ≤ 2
unfolding pairs_at
pairs_at-few side row column =
    omega (
      arith,
      length-append (right_pair side row column) (lower_pair side row column),
      length-if (nat_lt (column + 1) side) (node_at side row column, node_at side row (column + 1)),
      length-if (nat_lt (row + 1) side) (node_at side row column, node_at side (row + 1) column),
    )

pub pairs-nodes : (side : ℕ) → All (IsPair (side * side)) (neighbour_pairs side)
pairs-nodes side =
    All-flat_map_range (IsPair (side * side)) (λ row. pairs_in_row side row side) 0 side (λ row _ row_in.
    All-flat_map_range (IsPair (side * side)) (pairs_at side row) 0 side (λ column _ column_in.
    pairs_at-nodes side row column (omega arith) (omega arith)))

pub pairs-few : (side : ℕ) → length (neighbour_pairs side) ≤ 2 * side * side
pairs-few side =
    length-flat_map_range_le (λ row. pairs_in_row side row side) (2 * side) 0 side (λ row.
    length-flat_map_range_le (pairs_at side row) 2 0 side (pairs_at-few side row))

-- two arcs a pair
arcs-length : (seed before : ℕ) (pairs : List (ℕ × ℕ)) → length (flat_map (arcs_between seed) (enumerate_from before pairs)) ≡ 2 * length pairs
unfolding arcs_between
arcs-length seed before [] = refl
arcs-length seed before (pair ∷ pairs) = let rest = arcs-length seed (before + 1) pairs in omega arith

arcs_between-fit : (map : RoadMap) (seed before : ℕ) (pair : ℕ × ℕ) → IsPair map.nodes pair → All (IsArc map) (arcs_between seed (before, pair))
unfolding arcs_between
arcs_between-fit map seed before pair is =
    let few : draw_at seed before 91 < 91 = draw_at-below seed before 91 (omega arith) in
    let there = arc pair.0 pair.1 (30 + draw_at seed before 91) in
    let back = arc pair.1 pair.0 (30 + draw_at seed before 91) in
    All-cons (IsArc map) there (back ∷ []) ((is.0, is.1), (is.2, is.3), omega arith)
    (All-cons (IsArc map) back [] ((is.2, is.3), (is.0, is.1), omega arith) (All-nil (IsArc map)))

pub arcs_of-fit : (map : RoadMap) (seed : ℕ) (pairs : List (ℕ × ℕ)) → All (IsPair map.nodes) pairs → All (IsArc map) (arcs_of seed pairs)
unfolding arcs_of
arcs_of-fit map seed pairs are =
    All-flat_map (IsArc map) (arcs_between seed) (enumerate_from 0 pairs)
    (All-weaker (λ (numbered : ℕ × (ℕ × ℕ)). IsPair map.nodes numbered.1) (λ numbered. All (IsArc map) (arcs_between seed numbered))
    (λ (numbered : ℕ × (ℕ × ℕ)) is. arcs_between-fit map seed numbered.0 numbered.1 is) (enumerate_from 0 pairs)
    (All-enumerate (IsPair map.nodes) 0 pairs are))

pub length-arcs_of : (seed : ℕ) (pairs : List (ℕ × ℕ)) → length (arcs_of seed pairs) ≡ 2 * length pairs
unfolding arcs_of
length-arcs_of seed pairs = arcs-length seed 0 pairs

pub network-fits : (plan : CityPlan) → IsPlan plan → IsRoadMap (network_of plan)
network-fits plan is =
    let least : 2 * 2 ≤ plan.side * plan.side = mul-le 2 2 plan.side plan.side is.least_side is.least_side in
    let most : plan.side * plan.side ≤ 100 * 100 = mul-le plan.side plan.side 100 100 is.side_limit is.side_limit in
    record {
      some_node = omega arith;
      nodes_limit = omega arith;
      arcs_limit = omega (arith, length-arcs_of plan.seed (neighbour_pairs plan.side), pairs-few plan.side);
      arcs_fit = arcs_of-fit (network_of plan) plan.seed (neighbour_pairs plan.side) (pairs-nodes plan.side);
    }

-- a network of these nodes and arcs
pub network-is : (plan : CityPlan) (roads : RoadMap) → roads.nodes ≡ nodes_of plan → roads.arcs ≡ arcs_of plan.seed (neighbour_pairs plan.side)
    → roads ≡ network_of plan
network-is plan roads nodes arcs =
    let of : ℕ → List RoadArc → RoadMap = λ n a. record { nodes = n; arcs = a } in
    ap (λ n. of n roads.arcs) nodes ∙ ap (λ a. of (nodes_of plan) a) arcs
