use Rattle.std.proofs.Common.{refl}
use Rattle.std.specs.Fmt.{digits}
use Rattle.ride_model.specs.Text.{text_of}
use Rattle.plan_trials.proofs.worked_rows.plain_path.plain_path_text.Goals as goal

pub returns : goal.returns
unfolding text_of digits
returns c = refl
