-- The line that was due where a log's first wrong line stands.
use Rattle.std.specs.Prelude.{◌≡◌, ℕ, ◌⊎◌, Bool, true, false, IsTrue, IsFalse, List, Option, None, Some, Result, Ok, Err, Vec}
use Rattle.std.specs.Global.{Global}
use Rattle.line_text.specs.line_reader.Limits.{IsTooLong}
use Rattle.ride_model.specs.declared.entry.Entry.{Entry}
use Rattle.ride_model.specs.Legal.{IsLegalEntry, replay}
use Rattle.ride_model.specs.State.{State}
use Rattle.ride_model.specs.Text.{HasLine, entry_line}
use Rattle.log_audit.specs.declared.verdict.AuditFault.{AuditFault}
use Rattle.log_audit.specs.declared.verdict.Why.{Why}
use Rattle.log_audit.specs.declared.verdict.Why.TheVariants.{Spelling, Actor as ToActor}
use Rattle.log_audit.specs.Audit.{IsAnswer, IsLogOf, IsWrongEntry, IsWrongLine}
use Rattle.log_audit.specs.Limits.{Counts}
use Rattle.log_audit.specs.declared.limits.TheConstants.{LOG_LIMITS}

-- whether a line was due in place of a wrong one: not where that spells no entry, or its actor may not act
abbrev pub has_due : Why → Bool
has_due Spelling = false
has_due ToActor = false
has_due why = true

-- after the legal history whose text stands before the first wrong line this entry is legal, and this is its line
pub record IsDue (start : State) (bytes line : List ℕ) : Type 0 where
  pub number : ℕ
  pub why : Why
  pub wrong : IsWrongEntry start bytes number why
  pub counts : Counts bytes number
  pub has_due : IsTrue (has_due why)
  pub due : Entry
  pub legal : IsLegalEntry wrong.feeds wrong.desks (replay start wrong.entries) due
  pub spelled : HasLine start.settings.log due
  pub line_is : line ≡ entry_line start.settings.log due

-- no line is wrong
abbrev pub IsRight : State → List ℕ → Type 0
IsRight start bytes = (feeds desks : ℕ) × (entries : List Entry) × IsLogOf start feeds desks entries bytes × (IsTooLong LOG_LIMITS bytes → ⊥)

-- the first wrong line is one in whose place none was due
abbrev pub HasNoneDue : State → List ℕ → Type 0
HasNoneDue start bytes = (line : ℕ) × (why : Why) × IsWrongLine start bytes line why × Counts bytes line × IsFalse (has_due why)

-- what is due of these bytes: a line in place of the first wrong one, or none; or they are too long, as an audit says
abbrev pub IsDueOf : State → List ℕ → Result (Option (Vec ℕ Global)) AuditFault → Type 0
IsDueOf start bytes (Ok (Some line)) = IsDue start bytes line.items
IsDueOf start bytes (Ok None) = IsRight start bytes ⊎ HasNoneDue start bytes
IsDueOf start bytes (Err fault) = IsAnswer start bytes (Err fault)
