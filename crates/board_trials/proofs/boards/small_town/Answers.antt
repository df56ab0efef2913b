use Rattle.board_trials.proofs.boards.small_town.Goals as goal

pub invariant_of-result : goal.invariant_of-result
invariant_of-result g c = c.in-Ok.ensures.start c.settings.result c.settings.ensures.fits
