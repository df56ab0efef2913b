use Rattle.session_loops.proofs.Common.{refl, false, not, ◌||◌, knowledge}
use Rattle.session_loops.proofs.BatchRuns.{runs-desk}
use Rattle.session_loops.proofs.desks.desk_loop.Goals as goal

pub returns-clause-ran : goal.returns-clause-ran
returns-clause-ran g c =
    runs-desk c.args.open_batch c.close_first-committed.result c.run_batches-run.result.no_memory c.run_batches-run.result.ending
    (record {
      sink_failed = false;
      no_memory = c.run_batches-run.result.no_memory || not c.close_first-committed.result;
      source_failed = false;
      too_long = false;
    })
    (knowledge c.args.pass.now) (knowledge c.close_first-committed.new.pass) (knowledge c.run_batches-run.new.pass) (knowledge c.end.new.pass)
    c.close_first-committed.ensures.closed c.run_batches-run.ensures.ran c.run_batches-run.ensures.whole refl c.end.ensures.entry
