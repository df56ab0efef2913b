use Rattle.adaptive_roads.proofs.Common.{◌≡◌, set, sym, ap, ◌∙◌, subst, arith, get_or_read, Chain, no_chain, chain_at, next_of, relinked, IsGraphOf}
use Rattle.adaptive_roads.proofs.contraction.Pruning.{graph-passed}
use Rattle.adaptive_roads.proofs.contraction.graph.Graph.pass_over.Goals as goal

-- what is written is the chain with the next of the next
is_relinked : (c : goal.After-self-1)
    → c.with_next.result ≡ relinked c.args.side (chain_at c.args.self.now.chains.items c.args.place) (next_of c.args.side (chain_at c.args.self.now.chains.items c.args.later))
is_relinked c =
    let chains = c.args.self.now.chains.items in
    let chain = get_or_read chains c.args.place c.index-chain.result.now (omega (arith, c.requires.place, c.requires.graph.paired)) c.index-chain.ensures no_chain in
    c.with_next.ensures ∙ ap (λ (l : Chain). relinked c.args.side l c.next-beyond.result) chain
    ∙ ap (relinked c.args.side (chain_at chains c.args.place)) c.next-beyond.ensures

pub returns-clause-graph : goal.returns-clause-graph
returns-clause-graph c =
    let g = c.args.self.now in
    subst (λ value. IsGraphOf g.nodes g.arcs.items (set g.chains.items c.args.place value) g.first_out.items g.first_back.items g.levels.items g.order.items) (sym (is_relinked c))
    (graph-passed c.args.side g.nodes g.arcs.items g.chains.items g.first_out.items g.first_back.items g.levels.items g.order.items c.args.place c.args.later
    c.requires.graph c.requires.place c.requires.next c.requires.dead)
