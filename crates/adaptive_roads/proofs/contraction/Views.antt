-- The hierarchy that a contract sees is that of the graph.
use Rattle.adaptive_roads.proofs.Common.{◌≡◌, ℕ, inl, inr, Bool, false, length, sym, ◌∙◌, subst, arith, Contains, All, All-from_get_or, RoadMap, IsArc, no_arc, IsHierarchyOf, Graph, level_in, IsGraph, IsContractionOf, IsFitContraction}
use Rattle.adaptive_roads.proofs.hierarchy_laws.Growing.{hierarchy-none}
use Rattle.adaptive_roads.specs.inner.contraction.View.{contracted_of}

-- while no node is contracted, each has the level of the core
begun-level : (graph : Graph) → IsGraph graph → length graph.order.items ≡ 0 → (x : ℕ) → level_in graph.levels.items x ≡ 4294967295
begun-level graph is none x = elim (is.ordered.cored x) [
  | inl low ↦ absurd (omega (arith, none))
  | inr live ↦ live
]

pub begun-levels : (graph : Graph) → IsGraph graph → length graph.order.items ≡ 0 → All (λ level. level ≡ 4294967295) graph.levels.items
begun-levels graph is none = All-from_get_or (λ level. level ≡ 4294967295) graph.levels.items 4294967295 (λ x low. begun-level graph is none x)

-- the graph of a map is a hierarchy of it
pub begun-contraction : (roads : RoadMap) (graph : Graph) → IsGraph graph → graph.arcs.items ≡ roads.arcs → length graph.order.items ≡ 0
    → IsContractionOf roads (contracted_of false graph)
begun-contraction roads graph is arcs none =
    subst (λ links. IsHierarchyOf roads links (level_in graph.levels.items) (length graph.order.items)) (sym arcs)
    (subst (IsHierarchyOf roads roads.arcs (level_in graph.levels.items)) (sym none)
    (hierarchy-none (Contains roads.arcs) (level_in graph.levels.items) (λ x y. begun-level graph is none x ∙ sym (begun-level graph is none y))))

-- what a contract may know of the arcs and levels
pub fit-seen : (is_spent : Bool) (graph : Graph) → IsGraph graph → IsFitContraction (contracted_of is_spent graph)
fit-seen is_spent graph is = record {
  arcs_fit = All-from_get_or (IsArc (record { nodes = graph.nodes; arcs = graph.arcs.items })) graph.arcs.items no_arc
      (λ place low. let fit = is.fit place low in ((fit.some_tail, fit.tail), (fit.some_head, fit.head), fit.seconds));
  ordered = is.ordered;
  sized = is.sized;
}
