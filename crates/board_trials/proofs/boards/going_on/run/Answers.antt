use Rattle.board_trials.proofs.boards.going_on.run.Goals as goal

pub new-requires-clause-start : goal.new-requires-clause-start
new-requires-clause-start g c = c.in-Ok.ensures.start c.settings.result c.settings.ensures.fits
