-- The neighbors of a node are collected along a chain.
use Rattle.adaptive_roads.proofs.Common.{◌≡◌, ◌≢◌, ℕ, suc, ◌<◌, ◌≤◌, ◌⊎◌, inl, inr, List, [], ◌∷◌, ◌++◌, length, get_or, sym, ◌∙◌, ap, subst, arith, Contains, cases_eq, Contains-append_left, Contains-push, Contains-push_cases, Side, RoadArc, Chain, Neighbor, Out, Back, Graph, arc_at, next_of, chain_at, firsts_in, neighbor_of, IsOnward, AreChained, IsGraph}

-- the cursor names an arc of the node, or is the end of its chain
abbrev pub IsCursor : Side → List RoadArc → ℕ → ℕ → Type 0
IsCursor side arcs node cursor = (place : ℕ) → cursor ≡ suc place → (place < length arcs) × ((arc_at side arcs place).tail ≡ node)

-- the neighbors behind the cursor are collected, and nothing else
pub record IsCollecting (side : Side) (arcs : List RoadArc) (levels : List ℕ) (node cursor : ℕ) (list : List Neighbor) : Type 0 where
  pub at_arc : IsCursor side arcs node cursor
  pub sound : (neighbor : Neighbor) → Contains list neighbor
      → (place : ℕ) × IsOnward side arcs levels node place × (neighbor_of (arc_at side arcs place) ≡ neighbor)
  pub behind : (place : ℕ) → IsOnward side arcs levels node place → (place < cursor) ⊎ Contains list (neighbor_of (arc_at side arcs place))

-- the chains of a graph on either side
pub chains_of : (side : Side) (graph : Graph) → IsGraph graph → AreChained side graph.arcs.items graph.chains.items (firsts_in side graph) graph.levels.items
chains_of Out graph is = is.chained_out
chains_of Back graph is = is.chained_back

-- the arcs of a graph on either side join its nodes
pub arc-fits : (side : Side) (graph : Graph) → IsGraph graph → (place : ℕ) → place < length graph.arcs.items
    → (1 ≤ (arc_at side graph.arcs.items place).head) × ((arc_at side graph.arcs.items place).head ≤ graph.nodes)
arc-fits Out graph is place low = let fit = is.fit place low in (fit.some_head, fit.head)
arc-fits Back graph is place low = let fit = is.fit place low in (fit.some_tail, fit.tail)

pub cursor-first : (side : Side) (arcs : List RoadArc) (chains : List Chain) (firsts levels : List ℕ) (node : ℕ) → AreChained side arcs chains firsts levels
    → IsCursor side arcs node (get_or firsts node 0)
cursor-first side arcs chains firsts levels node chained = λ place is. chained.first_node node place is

pub cursor-next : (side : Side) (arcs : List RoadArc) (chains : List Chain) (firsts levels : List ℕ) (node place : ℕ) → AreChained side arcs chains firsts levels
    → place < length arcs → (arc_at side arcs place).tail ≡ node → IsCursor side arcs node (next_of side (chain_at chains place))
cursor-next side arcs chains firsts levels node place chained low tail = λ later is.
    let down : later < length arcs = omega (arith, chained.next_lower place low, is) in
    (down, chained.next_node place later low is ∙ tail)

pub collecting-begun : (side : Side) (arcs : List RoadArc) (chains : List Chain) (firsts levels : List ℕ) (node : ℕ) (list : List Neighbor) → AreChained side arcs chains firsts levels
    → list ≡ [] → IsCollecting side arcs levels node (get_or firsts node 0) list
collecting-begun side arcs chains firsts levels node list chained none = record {
  at_arc = cursor-first side arcs chains firsts levels node chained;
  sound = λ neighbor (k, low, is). absurd (omega (arith, ap (λ xs. length xs) none));
  behind = λ place onward. inl (subst (λ x. place < get_or firsts x 0) onward.tail (chained.all_first place onward.there onward.live));
}

-- what is behind the next cursor, but for the arc that was passed
passed : (side : Side) (arcs : List RoadArc) (chains : List Chain) (firsts levels : List ℕ) (node cursor : ℕ) (list : List Neighbor) (place : ℕ) → AreChained side arcs chains firsts levels
    → IsCollecting side arcs levels node cursor list → cursor ≡ suc place → (other : ℕ) → other ≢ place → IsOnward side arcs levels node other
    → (other < next_of side (chain_at chains place)) ⊎ Contains list (neighbor_of (arc_at side arcs other))
passed side arcs chains firsts levels node cursor list place chained s at other apart onward =
    let (low, tail) = s.at_arc place at in
    elim (s.behind other onward) [
      | inl before ↦ inl (chained.all_next other place (omega (arith, before, at, apart)) low (onward.tail ∙ sym tail) onward.live)
      | inr there ↦ inr there
    ]

-- an arc that does not lead to another node of the core is passed over
pub collecting-passed : (side : Side) (arcs : List RoadArc) (chains : List Chain) (firsts levels : List ℕ) (node cursor : ℕ) (list : List Neighbor) (place : ℕ)
    → AreChained side arcs chains firsts levels → IsCollecting side arcs levels node cursor list → cursor ≡ suc place
    → (IsOnward side arcs levels node place → ⊥)
    → IsCollecting side arcs levels node (next_of side (chain_at chains place)) list
collecting-passed side arcs chains firsts levels node cursor list place chained s at not_onward = record {
  at_arc = let (low, tail) = s.at_arc place at in cursor-next side arcs chains firsts levels node place chained low tail;
  sound = s.sound;
  behind = λ other onward. elim (cases_eq other place) [
    | inl same ↦ absurd (not_onward (subst (IsOnward side arcs levels node) same onward))
    | inr apart ↦ passed side arcs chains firsts levels node cursor list place chained s at other apart onward
  ];
}

-- the neighbor of an arc is collected
pub collecting-pushed : (side : Side) (arcs : List RoadArc) (chains : List Chain) (firsts levels : List ℕ) (node cursor : ℕ) (list : List Neighbor) (place : ℕ)
    → AreChained side arcs chains firsts levels → IsCollecting side arcs levels node cursor list → cursor ≡ suc place
    → IsOnward side arcs levels node place
    → IsCollecting side arcs levels node (next_of side (chain_at chains place)) (list ++ neighbor_of (arc_at side arcs place) ∷ [])
collecting-pushed side arcs chains firsts levels node cursor list place chained s at onward = record {
  at_arc = let (low, tail) = s.at_arc place at in cursor-next side arcs chains firsts levels node place chained low tail;
  sound = λ neighbor there. elim (Contains-push_cases list (neighbor_of (arc_at side arcs place)) neighbor there) [
    | inl before ↦ s.sound neighbor before
    | inr is ↦ (place, onward, is)
  ];
  behind = λ other its. elim (cases_eq other place) [
    | inl same ↦
        inr (subst (λ p. Contains (list ++ neighbor_of (arc_at side arcs place) ∷ []) (neighbor_of (arc_at side arcs p))) (sym same)
        (Contains-push list (neighbor_of (arc_at side arcs place))))
    | inr apart ↦ elim (passed side arcs chains firsts levels node cursor list place chained s at other apart its) [
      | inl before ↦ inl before
      | inr there ↦ inr (Contains-append_left list (neighbor_of (arc_at side arcs place) ∷ []) (neighbor_of (arc_at side arcs other)) there)
    ]
  ];
}
