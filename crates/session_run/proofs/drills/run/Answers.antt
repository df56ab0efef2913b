use Rattle.session_run.proofs.DrillEnds.{drilling-at-start}
use Rattle.session_run.proofs.drills.run.Goals as goal

pub run_commands-requires-clause-drilling : goal.run_commands-requires-clause-drilling
run_commands-requires-clause-drilling g c κs within =
    drilling-at-start c.args.board.now c.entries-history.ensures.start c.requires.feeds c.requires.desks c.requires.fresh
