use Rattle.std.proofs.Common.{refl}
use Rattle.std.specs.Fmt.{digits}
use Rattle.plan_trials.proofs.worked_rows.plain_path.chairs_in_both_versions.Goals as goal

pub returns : goal.returns
unfolding digits
returns c = record { two = refl; one = refl }
