use Rattle.adaptive_roads.proofs.contraction.Pruning.{same-none, same-append}
use Rattle.adaptive_roads.proofs.contraction.shortcuts.prune_all.Goals as goal

pub loop-neighbor-init : goal.loop-neighbor-init
loop-neighbor-init c = record { graph = c.requires; same = same-none c.args.graph.now }

pub loop-neighbor-preserved : goal.loop-neighbor-preserved
loop-neighbor-preserved c = record {
  graph = c.prune.ensures.graph;
  same = same-append c.args.graph.now c.loop-neighbor.graph c.prune.new.self c.loop-neighbor.invariant.same c.prune.ensures.same;
}
