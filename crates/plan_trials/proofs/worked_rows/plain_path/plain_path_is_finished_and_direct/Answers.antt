use Rattle.std.proofs.Common.{refl}
use Rattle.ride_model.specs.History.{entries_of}
use Rattle.plan_trials.proofs.worked_rows.PlainKept.{plain_is_finished}
use Rattle.plan_trials.proofs.worked_rows.plain_path.plain_path_is_finished_and_direct.Goals as goal

pub returns : goal.returns
unfolding entries_of
returns c = record { finished = plain_is_finished; direct = refl; commands = refl; confirmed = refl; away = refl }
