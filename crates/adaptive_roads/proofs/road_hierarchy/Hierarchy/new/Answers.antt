use Rattle.adaptive_roads.proofs.Common.{levelled}
use Rattle.adaptive_roads.proofs.road_hierarchy.Packing.{packing-same, packing-keeps}
use Rattle.adaptive_roads.proofs.road_hierarchy.Hierarchy.new.Goals as goal

pub returns-clause-packed : goal.returns-clause-packed
returns-clause-packed c =
    let same = c.finish-made.ensures in
    packing-same (levelled c.finish-made.result) c.args.contraction c.in_ok-hierarchy.hierarchy same.nodes same.arcs same.levels same.order c.in_ok-hierarchy.ensures

pub returns-clause-hierarchy : goal.returns-clause-hierarchy
returns-clause-hierarchy c = λ map h.
    let same = c.finish-made.ensures in
    packing-keeps map c.args.contraction c.in_ok-hierarchy.hierarchy
    (packing-same (levelled c.finish-made.result) c.args.contraction c.in_ok-hierarchy.hierarchy same.nodes same.arcs same.levels same.order c.in_ok-hierarchy.ensures) h
