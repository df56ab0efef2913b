use Rattle.std.proofs.lemmas.Bool.{false≢true}
use Rattle.ride_model.specs.Legal.{replay}
use Rattle.plan_trials.proofs.worked_rows.plain_path.cut_or_given_up_is_not_finished.Goals as goal

pub returns-clause-cut : goal.returns-clause-cut
unfolding replay
returns-clause-cut c finished = false≢true finished.feeds_whole
