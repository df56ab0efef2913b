use Rattle.std.proofs.Common.{◌≤◌, length}
use Rattle.turn_lock.specs.Passes.{knowledge}
use Rattle.ride_bench.specs.Shared.{MayLook}
use Rattle.ride_bench.proofs.shared.run_scribe.Given as goal

-- the pass may look again, from a place that it has seen
abbrev pub invariant-looks : goal.invariant-looks
invariant-looks g l = record {
  scribe : MayLook l.board l.scribe;
  seen : l.count ≤ length (knowledge l.scribe).seen;
}
