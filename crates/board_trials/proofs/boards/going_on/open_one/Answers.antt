use Rattle.board_trials.proofs.boards.going_on.open_one.Goals as goal

pub returns-clause-held : goal.returns-clause-held
returns-clause-held g c = c.opened.ensures.held
