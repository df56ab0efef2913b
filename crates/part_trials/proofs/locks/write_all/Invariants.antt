use Rattle.std.proofs.Common.{◌≡◌}
use Rattle.turn_lock.specs.Passes.{MayEnter, knowledge}
use Rattle.part_trials.proofs.locks.write_all.Given as goal

abbrev pub invariant-loop-number : goal.invariant-loop-number
invariant-loop-number g l = record {
  pass : MayEnter l.lock l.pass;
  number : (knowledge l.pass).number ≡ (knowledge l.initial.pass).number;
  room : (knowledge l.pass).room ≡ (knowledge l.initial.pass).room;
  out : (knowledge l.pass).out ≡ (knowledge l.initial.pass).out;
}
