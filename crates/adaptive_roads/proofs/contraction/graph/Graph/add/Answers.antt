use Rattle.adaptive_roads.proofs.Common.{◌≡◌, List, [], ◌∷◌, ◌++◌, length, suc, set, sym, ◌∙◌, ap, subst, arith, get_or_read, length_push, RoadArc, Chain, IsGraphOf}
use Rattle.adaptive_roads.proofs.contraction.GraphSteps.{graph-pushed}
use Rattle.adaptive_roads.proofs.contraction.graph.Graph.add.Goals as goal

pub returns-clause-graph : goal.returns-clause-graph
returns-clause-graph c =
    let g = c.args.self.now in
    let arc = c.args.arc in
    let chain : Chain = record { next_out = c.index.result.now; next_back = c.index-2.result.now } in
    let arcs : c.push.new.self.items ≡ g.arcs.items ++ arc ∷ [] = c.in_ok-push.ensures.items in
    let chains : c.push-2.new.self.items ≡ g.chains.items ++ chain ∷ []
    = c.in_ok-push-2.ensures.items ∙ ap (λ (xs : List Chain). xs ++ chain ∷ []) c.reserve.ensures.items in
    let count : c.len-count.result ≡ suc (length g.arcs.items)
    = omega (arith, c.len-count.ensures, c.push.new.self.ok.0, ap (λ (xs : List RoadArc). length xs) arcs, length_push g.arcs.items arc) in
    let pushed = graph-pushed g.nodes g.arcs.items g.chains.items g.first_out.items g.first_back.items g.levels.items g.order.items arc chain c.requires.graph
    c.requires.fits c.requires.room
    (get_or_read g.first_out.items arc.tail c.index.result.now (omega (arith, c.requires.graph.outs, c.requires.fits.tail)) c.index.ensures 0)
    (get_or_read g.first_back.items arc.head c.index-2.result.now (omega (arith, c.requires.graph.backs, c.requires.fits.head)) c.index-2.ensures 0) in
    subst (λ n. IsGraphOf g.nodes c.push.new.self.items c.push-2.new.self.items (set g.first_out.items arc.tail n) (set g.first_back.items arc.head n) g.levels.items g.order.items) (sym count)
    (subst (λ xs. IsGraphOf g.nodes xs c.push-2.new.self.items (set g.first_out.items arc.tail (suc (length g.arcs.items))) (set g.first_back.items arc.head (suc (length g.arcs.items))) g.levels.items g.order.items) (sym arcs)
    (subst (λ ys. IsGraphOf g.nodes (g.arcs.items ++ arc ∷ []) ys (set g.first_out.items arc.tail (suc (length g.arcs.items))) (set g.first_back.items arc.head (suc (length g.arcs.items))) g.levels.items g.order.items) (sym chains) pushed))
