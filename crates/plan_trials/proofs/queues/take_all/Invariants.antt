use Rattle.std.proofs.Common.{◌≡◌, length}
use Rattle.plan_trials.proofs.queues.take_all.Given as goal

abbrev pub invariant-loop-step : goal.invariant-loop-step
invariant-loop-step g l = record {
  size : length l.queue.keys ≡ l.case.nodes;
  floor : l.queue.floor ≡ l.floor;
}
