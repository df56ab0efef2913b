use Rattle.ride_ports.proofs.Common.{arith, length-drop, ◌∙◌, take_rest}
use Rattle.std.proofs.lemmas.Result.{err_from_is_err_and}
use Rattle.ride_ports.proofs.ByteLemmas.{Writes-next, WritesPrefix-stopped}
use Rattle.ride_ports.proofs.sinks.write_all.Goals as goal

pub returns-in_err-done-clause-prefix : goal.returns-in_err-done-clause-prefix
returns-in_err-done-clause-prefix g c =
    let failed = err_from_is_err_and c.from_residual.result c.from_residual.ensures.1
    in rw failed.1 (WritesPrefix-stopped _ _ c.loop-done.invariant.written c.in_err-done.ensures.failed_stays)

pub loop-done-preserved : goal.loop-done-preserved
loop-done-preserved g c =
    let room = simp (take_rest, length-drop) at c.in_ok-done.ensures.room
    in record {
      in_piece = omega arith;
      written = Writes-next _ _ _ c.loop-done.invariant.written c.in_ok-done.ensures.bytes;
      count = c.in_ok-done.ensures.ok_counts_none ∙ c.loop-done.invariant.count;
    }
