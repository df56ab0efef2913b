-- What the bytes of a log are: the text of a legal history, or wrong at one line; and what an audit answers.
use Rattle.std.specs.Prelude.{◌≡◌, ◌≢◌, ℕ, ◌+◌, ◌≤◌, ◌⊎◌, Bool, true, false, List, [], ◌++◌, length, Result, Ok, Err}
use mathlib.Core.List.{IsPrefix}
use Rattle.line_text.specs.line_reader.Limits.{IsTooLong}
use Rattle.ride_model.specs.declared.entry.Entry.{Entry}
use Rattle.ride_model.specs.Legal.{IsLegal, replay}
use Rattle.ride_model.specs.State.{State}
use Rattle.ride_model.specs.Text.{HasLine, HasText, IsOneOrTwo, entry_line, head_line, text_of}
use Rattle.log_audit.specs.declared.verdict.AuditFault.{AuditFault}
use Rattle.log_audit.specs.declared.verdict.AuditFault.TheVariants.{ReadFault, TooLong}
use Rattle.log_audit.specs.declared.verdict.Verdict.{Verdict}
use Rattle.log_audit.specs.declared.verdict.Verdict.TheVariants.{Yes, No}
use Rattle.log_audit.specs.declared.verdict.Why.{Why}
use Rattle.log_audit.specs.declared.verdict.Why.TheVariants.{Spelling}
use Rattle.log_audit.specs.Limits.{Counts}
use Rattle.log_audit.specs.declared.limits.TheConstants.{LOG_LIMITS}
use Rattle.board_core.specs.Totals.{AreTotalsOf}
use Rattle.log_audit.specs.Words.{IsFault}

-- bytes begin with the line of an entry, its LF with it
pub record Tells (log : ℕ) (bytes : List ℕ) (entry : Entry) : Type 0 where
  pub spelled : HasLine log entry
  pub short : length (entry_line log entry) ≤ LOG_LIMITS.line + 1
  pub first : IsPrefix (entry_line log entry) bytes

-- the bytes are the text of a legal history of a start, with so many feeds and desks
pub record IsLogOf (start : State) (feeds desks : ℕ) (entries : List Entry) (bytes : List ℕ) : Type 0 where
  pub has_text : HasText start.settings.log feeds desks entries
  pub legal : IsLegal feeds desks start entries
  pub text_is : bytes ≡ text_of start.settings.log feeds desks entries

-- what comes after a legal history's text begins with no entry's line, or with that of an entry that is wrong there
abbrev pub IsWrongNext : State → ℕ → ℕ → List Entry → List ℕ → Why → Type 0
IsWrongNext start feeds desks entries rest Spelling = (rest ≢ []) × ((entry : Entry) → Tells start.settings.log rest entry → ⊥)
IsWrongNext start feeds desks entries rest why =
    (entry : Entry) × Tells start.settings.log rest entry × IsFault why feeds desks (replay start entries) entry.actor entry.event

-- the bytes are the text of a legal history, and then comes a wrong line, which has this number
pub record IsWrongEntry (start : State) (bytes : List ℕ) (line : ℕ) (why : Why) : Type 0 where
  pub feeds : ℕ
  pub desks : ℕ
  pub entries : List Entry
  pub front : List ℕ
  pub rest : List ℕ
  pub bytes_are : bytes ≡ front ++ rest
  pub log : IsLogOf start feeds desks entries front
  pub wrong : IsWrongNext start feeds desks entries rest why
  pub line_is : line ≡ length entries + 2

-- the first wrong line of a log, and the first word that it does not meet: no head of the start's version stands first, or it comes
-- after a legal history's text
abbrev pub IsWrongLine : State → List ℕ → ℕ → Why → Type 0
IsWrongLine start bytes line why = (((feeds desks : ℕ) → IsOneOrTwo feeds → IsOneOrTwo desks
    → IsPrefix (head_line start.settings.log feeds desks) bytes → ⊥) × (line ≡ 1) × (why ≡ Spelling)) ⊎ IsWrongEntry start bytes line why

-- what an audit of these bytes answers: yes with the totals of the legal history whose text they are; no with the first wrong
-- line and its first fault; or that they are too long, where no line that counts is wrong
abbrev pub IsAnswer : State → List ℕ → Result Verdict AuditFault → Type 0
IsAnswer start bytes (Ok (Yes totals)) =
    (feeds desks : ℕ) × (entries : List Entry) × IsLogOf start feeds desks entries bytes × AreTotalsOf feeds desks start entries totals
    × (IsTooLong LOG_LIMITS bytes → ⊥)
IsAnswer start bytes (Ok (No line why)) = IsWrongLine start bytes line why × Counts bytes line
IsAnswer start bytes (Err TooLong) =
    IsTooLong LOG_LIMITS bytes × ((line : ℕ) (why : Why) → IsWrongLine start bytes line why → Counts bytes line → ⊥)
IsAnswer start bytes (Err _) = ⊥

-- whether the source failed
abbrev pub is_read_fault : {T : Type 0} → Result T AuditFault → Bool
is_read_fault (Err ReadFault) = true
is_read_fault _ = false
