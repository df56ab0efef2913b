-- The ranges of the settings.
use Rattle.std.specs.Prelude.{◌≤◌}
use Rattle.ride_model.specs.declared.settings.Settings.{Settings}
use Rattle.ride_model.specs.declared.limits.TheConstants.{GREATEST_PENALTY, GREATEST_WEIGHT, LARGEST_BATCH, LONGEST_DWELL, LONGEST_LEAD}

-- the settings are within their ranges
pub record IsSettings (settings : Settings) : Type 0 where
  pub some_batch : 1 ≤ settings.batch
  pub batch_limit : settings.batch ≤ LARGEST_BATCH
  pub penalty_limit : settings.penalty ≤ GREATEST_PENALTY
  pub drive_limit : settings.drive ≤ GREATEST_WEIGHT
  pub wait_limit : settings.wait ≤ GREATEST_WEIGHT
  pub lead_limit : settings.lead ≤ LONGEST_LEAD
  pub dwell_limit : settings.dwell ≤ LONGEST_DWELL
  pub log_first : 1 ≤ settings.log
  pub log_limit : settings.log ≤ 2
