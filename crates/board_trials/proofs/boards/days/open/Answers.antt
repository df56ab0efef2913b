use Rattle.std.proofs.Common.{rules, ap}
use Rattle.board_core.specs.Recorded.{Recorded}
use Rattle.board_core.proofs.OpenBatches.{gets}
use Rattle.board_trials.proofs.boards.days.open.Goals as goal

pub returns-clause-held : goal.returns-clause-held
returns-clause-held g c =
    (gets c.args.board.now c.open_batch.new.self c.args.desk c.open_batch.result (ap (λ (b : Recorded). b.start) c.open_batch.ensures.others)
    (search rules) c.open_batch.ensures.opening c.open_batch.ensures.entry c.open_batch.ensures.no_entry).held

pub returns-clause-opened : goal.returns-clause-opened
returns-clause-opened g c =
    (gets c.args.board.now c.open_batch.new.self c.args.desk c.open_batch.result (ap (λ (b : Recorded). b.start) c.open_batch.ensures.others)
    (search rules) c.open_batch.ensures.opening c.open_batch.ensures.entry c.open_batch.ensures.no_entry).opened
