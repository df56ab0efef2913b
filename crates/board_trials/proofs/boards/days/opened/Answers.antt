use Rattle.board_trials.proofs.boards.days.opened.Goals as goal

pub returns-clause-desk : goal.returns-clause-desk
returns-clause-desk g c =
    (c.in-Ok-Batch.ensures.opened c.in-Ok-Batch.batch (cc (c.in-Ok-Batch.is, c.in-Ok-Batch.field-0-is))).0

pub returns-clause-held : goal.returns-clause-held
returns-clause-held g c =
    (c.in-Ok-Batch.ensures.opened c.in-Ok-Batch.batch (cc (c.in-Ok-Batch.is, c.in-Ok-Batch.field-0-is))).1
