use Rattle.fleet_file.proofs.FleetLemmas.{IsFleet-nil}
use Rattle.fleet_file.proofs.SettingLemmas.{defaults-in_range}
use Rattle.fleet_file.proofs.lines.FleetLines.new.Goals as goal

pub returns-clause-within : goal.returns-clause-within
returns-clause-within c = record { values = defaults-in_range; vehicles = IsFleet-nil _ c.new.ensures.items }
