use Rattle.adaptive_roads.proofs.Common.{◌≡◌, length}
use Rattle.adaptive_roads.proofs.contraction.start.fill.Given as goal

abbrev pub invariant-loop-node : goal.invariant-loop-node
invariant-loop-node l = record {
  size : length l.queue.keys ≡ length l.degrees;
  floor : l.queue.floor ≡ 0;
}
