use Rattle.std.proofs.lemmas.Bool.{false≢true}
use Rattle.std.proofs.lemmas.List.Elements.{recursion_from_All}
use Rattle.ride_model.specs.Vehicle.{IsLawful}
use Rattle.plan_trials.specs.worked_rows.Roads.{four_nodes}
use Rattle.plan_trials.specs.worked_rows.PlainPath.{overloaded}
use Rattle.plan_trials.proofs.worked_rows.plain_path.late_reports_excuse_no_seats.Goals as goal

pub returns : goal.returns
returns c late kept = false≢true (recursion_from_All (IsLawful four_nodes) overloaded.vehicles kept.lawful).0.loads
