-- A graph while it grows.
use Rattle.adaptive_roads.proofs.Common.{◌≡◌, ◌≢◌, ℕ, suc, ◌+◌, ◌<◌, ◌≤◌, inl, inr, List, [], ◌∷◌, ◌++◌, length, get_or, set, refl, sym, ◌∙◌, ap, subst, arith, length-append, cases_eq, cases_lt, get_or-set_same, get_or-set_other, length-set, length_push, get_or_push, get_or_append_left, RoadArc, Side, Out, Back, turned_arc, no_arc, Chain, IsChained, no_chain, chain_at, arc_at, next_of, IsLive, AreChained, IsFit, IsGraphOf, level_in, IsOrdered}
use Rattle.adaptive_roads.proofs.contraction.ChainSteps.{chained-added, chained-fewer}

-- the chains of one side after an arc was added
chained-pushed : (side : Side) (arcs : List RoadArc) (chains : List Chain) (firsts levels : List ℕ) (arc : RoadArc) (chain : Chain)
    → AreChained side arcs chains firsts levels → length chains ≡ length arcs
    → next_of side chain ≡ get_or firsts (turned_arc side arc).tail 0 → (turned_arc side arc).tail < length firsts
    → AreChained side (arcs ++ arc ∷ []) (chains ++ chain ∷ []) (set firsts (turned_arc side arc).tail (suc (length arcs))) levels
chained-pushed side arcs chains firsts levels arc chain chained paired next low =
    let node = (turned_arc side arc).tail in
    subst (λ count. IsChained count (λ place. (arc_at side more place).tail) (λ x. get_or (set firsts node (suc (length arcs))) x 0)
    (λ place. next_of side (chain_at longer place)) (IsLive side more levels)) (sym (omega (arith, length_push arcs arc)))
    (chained-added (length arcs) node (λ place. (arc_at side arcs place).tail) (λ x. get_or firsts x 0)
    (λ place. next_of side (chain_at chains place)) (IsLive side arcs levels)
    (λ place. (arc_at side more place).tail) (λ x. get_or (set firsts node (suc (length arcs))) x 0)
    (λ place. next_of side (chain_at longer place)) (IsLive side more levels)
    chained
    (λ place low. ap (λ (a : RoadArc). (turned_arc side a).tail) (before place low))
    (λ place low. ap (next_of side) (get_or_append_left chains (chain ∷ []) no_chain place (omega (arith, low, paired))))
    (λ place low live. sym (ap (λ (a : RoadArc). level_in levels (turned_arc side a).head) (before place low)) ∙ live)
    (ap (λ (a : RoadArc). (turned_arc side a).tail) (get_or_push arcs arc no_arc (length arcs) refl))
    (ap (next_of side) (get_or_push chains chain no_chain (length arcs) paired) ∙ next)
    (get_or-set_same firsts node (suc (length arcs)) 0 low)
    (λ y differs. get_or-set_other firsts node y (suc (length arcs)) 0 differs))
  where
    more : List RoadArc
    more = arcs ++ arc ∷ []

    longer : List Chain
    longer = chains ++ chain ∷ []

    before : (place : ℕ) → place < length arcs → get_or more place no_arc ≡ get_or arcs place no_arc
    before place low = get_or_append_left arcs (arc ∷ []) no_arc place low

-- a graph with one arc more
pub graph-pushed : (nodes : ℕ) (arcs : List RoadArc) (chains : List Chain) (outs backs levels order : List ℕ) (arc : RoadArc) (chain : Chain)
    → IsGraphOf nodes arcs chains outs backs levels order
    → IsFit nodes arc → length arcs < 5000000
    → chain.next_out ≡ get_or outs arc.tail 0 → chain.next_back ≡ get_or backs arc.head 0
    → IsGraphOf nodes (arcs ++ arc ∷ []) (chains ++ chain ∷ []) (set outs arc.tail (suc (length arcs))) (set backs arc.head (suc (length arcs))) levels order
graph-pushed nodes arcs chains outs backs levels order arc chain graph fit room next_out next_back = record {
  small = graph.small;
  outs = length-set outs arc.tail _ ∙ graph.outs;
  backs = length-set backs arc.head _ ∙ graph.backs;
  sized = graph.sized;
  paired = omega (arith, length_push chains chain, length_push arcs arc, graph.paired);
  few = omega (arith, length_push arcs arc, room);
  fit = λ place low. elim (cases_lt place (length arcs)) [
    | inl earlier ↦ subst (IsFit nodes) (sym (get_or_append_left arcs (arc ∷ []) no_arc place earlier)) (graph.fit place earlier)
    | inr last ↦
        let at : length arcs ≡ place = omega (arith, length_push arcs arc) in
        subst (IsFit nodes) (sym (get_or_push arcs arc no_arc place at)) fit
  ];
  chained_out = chained-pushed Out arcs chains outs levels arc chain graph.chained_out graph.paired next_out (omega (arith, graph.outs, fit.tail));
  chained_back = chained-pushed Back arcs chains backs levels arc chain graph.chained_back graph.paired next_back (omega (arith, graph.backs, fit.head));
  ordered = graph.ordered;
}
