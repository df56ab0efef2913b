use Rattle.adaptive_roads.proofs.Common.{arith, slice_eq-Decides}
use Rattle.adaptive_roads.proofs.Networks.{arc-decides, map-decides}
use Rattle.adaptive_roads.proofs.made.are_same.Goals as goal

pub returns : goal.returns
returns c =
    map-decides c.args.one.now c.args.other.now c.arcs.result.now c.arcs-2.result.now c.eq.result
    (omega (arith, c.if-nodes.false, c.nodes.ensures.nodes, c.nodes-2.ensures.nodes)) c.arcs.ensures.arcs c.arcs-2.ensures.arcs
    (slice_eq-Decides arc-decides _ _ _ c.eq.ensures)
