use Rattle.std.proofs.Common.{ap}
use Rattle.board_core.specs.Recorded.{Recorded}
use Rattle.board_core.proofs.OpenBatches.{open-ended}
use Rattle.board_trials.proofs.boards.days.end.Goals as goal

pub returns-clause-held : goal.returns-clause-held
returns-clause-held g c =
    open-ended c.args.board.now c.end.new.self c.args.actor c.args.ending (ap (λ (b : Recorded). b.start) c.end.ensures.others) c.end.ensures.entry
