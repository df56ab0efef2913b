use Rattle.board_trials.proofs.boards.days.Day.new.Goals as goal

pub new-requires-clause-start : goal.new-requires-clause-start
new-requires-clause-start g c = c.in-Ok.ensures.start c.settings-settings.result c.settings-settings.ensures.fits
