use Rattle.plan_trials.proofs.worked_rows.PlainLegal.{plain_path_is_legal}
use Rattle.plan_trials.proofs.worked_rows.plain_path.plain_path_is_legal.Goals as goal

pub returns : goal.returns
returns c = plain_path_is_legal
