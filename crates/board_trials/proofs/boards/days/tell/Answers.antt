use Rattle.std.proofs.Common.{ap}
use Rattle.board_core.specs.Recorded.{Recorded}
use Rattle.board_core.proofs.OpenBatches.{open-fed}
use Rattle.board_trials.proofs.boards.days.tell.Goals as goal

pub returns-clause-held : goal.returns-clause-held
returns-clause-held g c =
    open-fed c.args.board.now c.apply.new.self c.args.feed c.args.command c.apply.result (ap (λ (b : Recorded). b.start) c.apply.ensures.others)
    c.apply.ensures.entry c.apply.ensures.no_memory
