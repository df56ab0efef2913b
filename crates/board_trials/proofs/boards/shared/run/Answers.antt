use Rattle.std.proofs.Common.{ap, ◌∙◌}
use Rattle.idle_moves.specs.inner.Watch.{watched_ids}
use Rattle.idle_moves.proofs.Raising.{ids-versions}
use Rattle.board_trials.proofs.boards.shared.run.Goals as goal

pub share-requires-clause-vehicle : goal.share-requires-clause-vehicle
share-requires-clause-vehicle g c κs within = ap watched_ids c.in-Ok-new.ensures ∙ ids-versions c.in-Ok.fleet ∙ c.in-Ok.ensures.one

pub new-requires-2-clause-start : goal.new-requires-2-clause-start
new-requires-2-clause-start g c = c.in-Ok.ensures.start c.settings.result c.settings.ensures.fits
