-- Arcs to contracted nodes are passed over.
use Rattle.adaptive_roads.proofs.Common.{◌≡◌, ℕ, suc, ◌<◌, inl, inr, List, length, get_or, set, refl, sym, ◌∙◌, ap, subst, arith, cases_eq, get_or-set_same, get_or-set_other, length-set, RoadArc, RoadMap, Side, Out, Back, IsHierarchyOf, Chain, Graph, level_in, no_chain, chain_at, arc_at, next_of, relinked, IsLive, AreChained, IsGraphOf, IsSameGraph, IsHierarchyGraph}
use Rattle.adaptive_roads.proofs.contraction.ChainSteps.{chained-same, chained-skipped}

-- a chain whose next was written, and its next on the other side
relinked-next : (side : Side) (chain : Chain) (next : ℕ) → next_of side (relinked side chain next) ≡ next
relinked-next Out chain next = refl
relinked-next Back chain next = refl

abbrev other_side : Side → Side
other_side Out = Back
other_side Back = Out

relinked-other : (side : Side) (chain : Chain) (next : ℕ) → next_of (other_side side) (relinked side chain next) ≡ next_of (other_side side) chain
relinked-other Out chain next = refl
relinked-other Back chain next = refl

-- what is read of a chain stays where the write keeps it
at_write : (chains : List Chain) (place other : ℕ) (value : Chain) (read : Chain → ℕ) → place < length chains → read value ≡ read (chain_at chains place)
    → read (chain_at (set chains place value) other) ≡ read (chain_at chains other)
at_write chains place other value read low same = elim (cases_eq other place) [
  | inl at ↦
      ap (λ p. read (chain_at (set chains place value) p)) at ∙ ap read (get_or-set_same chains place value no_chain low) ∙ same
      ∙ ap (λ p. read (chain_at chains p)) (sym at)
  | inr differs ↦ ap read (get_or-set_other chains place other value no_chain differs)
]

-- the chains of the side on which an arc is passed over, and those of the other
passed-chain : (side : Side) (arcs : List RoadArc) (chains : List Chain) (firsts levels : List ℕ) (place dead : ℕ) → AreChained side arcs chains firsts levels
    → length chains ≡ length arcs → place < length arcs → next_of side (chain_at chains place) ≡ suc dead → (IsLive side arcs levels dead → ⊥)
    → AreChained side arcs (set chains place (relinked side (chain_at chains place) (next_of side (chain_at chains dead)))) firsts levels
passed-chain side arcs chains firsts levels place dead chained paired low next not_live =
    let value = relinked side (chain_at chains place) (next_of side (chain_at chains dead)) in
    chained-skipped (length arcs) place dead (λ p. (arc_at side arcs p).tail) (λ x. get_or firsts x 0) (λ p. next_of side (chain_at chains p)) (IsLive side arcs levels)
    (λ p. next_of side (chain_at (set chains place value) p)) chained low next not_live
    (ap (next_of side) (get_or-set_same chains place value no_chain (omega (arith, low, paired)))
    ∙ relinked-next side (chain_at chains place) (next_of side (chain_at chains dead)))
    (λ other differs. ap (next_of side) (get_or-set_other chains place other value no_chain differs))

other-chain : (side : Side) (arcs : List RoadArc) (chains : List Chain) (firsts levels : List ℕ) (place next : ℕ)
    → AreChained (other_side side) arcs chains firsts levels → length chains ≡ length arcs → place < length arcs
    → AreChained (other_side side) arcs (set chains place (relinked side (chain_at chains place) next)) firsts levels
other-chain side arcs chains firsts levels place next chained paired low =
    let value = relinked side (chain_at chains place) next in
    let back = other_side side in
    chained-same (length arcs) (λ p. (arc_at back arcs p).tail) (λ x. get_or firsts x 0) (λ p. next_of back (chain_at chains p)) (IsLive back arcs levels)
    (λ p. (arc_at back arcs p).tail) (λ p. next_of back (chain_at (set chains place value) p)) (IsLive back arcs levels) chained
    (λ p. refl)
    (λ p. at_write chains place p value (next_of back) (omega (arith, low, paired)) (relinked-other side (chain_at chains place) next))
    (λ p live. live)

-- the list of the first arcs of a side
abbrev firsts_on : Side → List ℕ → List ℕ → List ℕ
firsts_on Out outs backs = outs
firsts_on Back outs backs = backs

-- a graph in which an arc is passed over
pub graph-passed : (side : Side) (nodes : ℕ) (arcs : List RoadArc) (chains : List Chain) (outs backs levels order : List ℕ) (place dead : ℕ)
    → IsGraphOf nodes arcs chains outs backs levels order
    → place < length arcs → next_of side (chain_at chains place) ≡ suc dead → (IsLive side arcs levels dead → ⊥)
    → IsGraphOf nodes arcs (set chains place (relinked side (chain_at chains place) (next_of side (chain_at chains dead)))) outs backs levels order
graph-passed side nodes arcs chains outs backs levels order place dead graph low next not_live = record {
  small = graph.small;
  outs = graph.outs;
  backs = graph.backs;
  sized = graph.sized;
  paired = length-set chains place (relinked side (chain_at chains place) (next_of side (chain_at chains dead))) ∙ graph.paired;
  few = graph.few;
  fit = graph.fit;
  chained_out = on_side side Out next not_live;
  chained_back = on_side side Back next not_live;
  ordered = graph.ordered;
}
  where
    on_side : (side which : Side) → next_of side (chain_at chains place) ≡ suc dead → (IsLive side arcs levels dead → ⊥)
        → AreChained which arcs (set chains place (relinked side (chain_at chains place) (next_of side (chain_at chains dead)))) (firsts_on which outs backs) levels
    on_side Out Out leads dead_end = passed-chain Out arcs chains outs levels place dead graph.chained_out graph.paired low leads dead_end
    on_side Out Back leads dead_end = other-chain Out arcs chains backs levels place (next_of Out (chain_at chains dead)) graph.chained_back graph.paired low
    on_side Back Out leads dead_end = other-chain Back arcs chains outs levels place (next_of Back (chain_at chains dead)) graph.chained_out graph.paired low
    on_side Back Back leads dead_end = passed-chain Back arcs chains backs levels place dead graph.chained_back graph.paired low leads dead_end

-- the same arcs are the same hierarchy
pub same-hierarchy : (roads : RoadMap) (old new : Graph) → IsSameGraph old new → IsHierarchyGraph roads old → IsHierarchyGraph roads new
same-hierarchy roads old new same h =
    subst (λ arcs. IsHierarchyOf roads arcs (level_in new.levels.items) (length new.order.items)) (sym same.arcs)
    (subst (λ ls. IsHierarchyOf roads old.arcs.items (level_in ls) (length new.order.items)) (sym same.levels)
    (subst (λ os. IsHierarchyOf roads old.arcs.items (level_in old.levels.items) (length os)) (sym same.order) h))

pub same-none : (graph : Graph) → IsSameGraph graph graph
same-none graph = record { nodes = refl; arcs = refl; levels = refl; order = refl }

pub same-append : (first second third : Graph) → IsSameGraph first second → IsSameGraph second third → IsSameGraph first third
same-append first second third a b = record {
  nodes = b.nodes ∙ a.nodes;
  arcs = b.arcs ∙ a.arcs;
  levels = b.levels ∙ a.levels;
  order = b.order ∙ a.order;
}
