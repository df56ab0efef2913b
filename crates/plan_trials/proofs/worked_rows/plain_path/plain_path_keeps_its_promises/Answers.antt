use Rattle.plan_trials.proofs.worked_rows.PlainKept.{plain_keeps}
use Rattle.plan_trials.proofs.worked_rows.plain_path.plain_path_keeps_its_promises.Goals as goal

pub returns : goal.returns
returns c = plain_keeps
