use Rattle.adaptive_roads.proofs.Common.{nil_from_length}
use Rattle.adaptive_roads.proofs.contraction.Views.{begun-contraction, begun-levels}
use Rattle.adaptive_roads.proofs.contraction.Contraction.new.Goals as goal

pub returns-clause-hierarchy : goal.returns-clause-hierarchy
returns-clause-hierarchy c =
    begun-contraction c.args.map.now c.in_ok-graph.graph c.in_ok-graph.ensures.graph c.in_ok-graph.ensures.arcs c.in_ok-graph.ensures.order

pub returns-clause-order : goal.returns-clause-order
returns-clause-order c = nil_from_length c.in_ok-graph.graph.order.items c.in_ok-graph.ensures.order

pub returns-clause-core : goal.returns-clause-core
returns-clause-core c = begun-levels c.in_ok-graph.graph c.in_ok-graph.ensures.graph c.in_ok-graph.ensures.order
