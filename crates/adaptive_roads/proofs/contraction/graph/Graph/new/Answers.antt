use Rattle.adaptive_roads.proofs.Common.{rules}
use Rattle.adaptive_roads.proofs.contraction.Beginning.{graph-begun}
use Rattle.adaptive_roads.proofs.contraction.graph.Graph.new.Goals as goal

pub returns-clause-graph : goal.returns-clause-graph
returns-clause-graph c =
    graph-begun c.args.nodes c.in_ok-arcs.arcs.items c.in_ok-chains.chains.items c.in_ok-first_out.first_out.items c.in_ok-first_back.first_back.items
    c.in_ok-levels.levels.items c.in_ok-order.order.items c.requires c.in_ok-arcs.ensures.items c.in_ok-chains.ensures.items
    (search rules) (search rules) (search rules) c.in_ok-order.ensures.items
