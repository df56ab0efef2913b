use Rattle.std.proofs.Common.{◌≡◌}
use Rattle.part_trials.proofs.waiting.put_thirds_back.Given as goal

abbrev pub invariant-loop-third : goal.invariant-loop-third
invariant-loop-third g l = l.list.capacity ≡ 1000
