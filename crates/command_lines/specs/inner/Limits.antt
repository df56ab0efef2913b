-- What only lemmas and lower contracts use beside Limits.antt.
use Rattle.std.specs.Prelude.{◌≤◌}
use Rattle.ride_model.specs.Text.{IsOneOrTwo}
use Rattle.command_lines.specs.declared.forms.FeedForm.{FeedForm}
use Rattle.command_lines.specs.Limits.{most_lines}

-- a form has a version of the log, and no more lines than a feed that begins
pub record IsForm (form : FeedForm) : Type 0 where
  pub log_fits : IsOneOrTwo form.log
  pub few_lines : form.lines ≤ most_lines
