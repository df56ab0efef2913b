-- What only lemmas and lower contracts use beside Audited.antt.
use Rattle.std.specs.Prelude.{◌≡◌, ℕ, ◌++◌, ◌∷◌, [], List, Option, IfSome}
use mathlib.Core.List.{IsPrefix}
use Rattle.ride_model.specs.Text.{IsOneOrTwo, head_line, text_of}
use Rattle.board_core.specs.Recorded.{Recorded}
use Rattle.trip_log.specs.declared.reading.Head.{Head}
use Rattle.line_text.specs.inner.line_reader.Reader.{ReaderState}
use Rattle.log_audit.specs.declared.verdict.Why.{Why}
use Rattle.log_audit.specs.Audit.{IsWrongNext}
use Rattle.log_audit.specs.Limits.{Counts}
use Rattle.log_audit.specs.inner.LogLines.{HasRead}

-- a source's first line is the head
pub record HasReadHead (before left : Option (List ℕ)) (lines : ReaderState) (log : ℕ) (head : Head) : Type 0 where
  pub log_is : head.log ≡ log
  pub feeds_fit : IsOneOrTwo head.feeds
  pub desks_fit : IsOneOrTwo head.desks
  pub read : HasRead before left lines (head_line log head.feeds head.desks)

-- bytes begin with no head of this version
abbrev pub HasNoHead : ℕ → List ℕ → Type 0
HasNoHead log bytes = (feeds desks : ℕ) → IsOneOrTwo feeds → IsOneOrTwo desks → IsPrefix (head_line log feeds desks) bytes → ⊥

-- a source has no head as its first line
abbrev pub HasReadNoHead : Option (List ℕ) → ℕ → Type 0
HasReadNoHead before log = IfSome before (λ bytes. HasNoHead log bytes × Counts bytes 1)

-- the text of a board's history
abbrev pub text_so_far : Recorded → List ℕ
text_so_far board = text_of board.start.settings.log board.feeds board.desks board.history

-- a line without LF after a board's history is wrong, whatever comes after its LF
abbrev pub IsWrongLineAfter : Recorded → List ℕ → Why → Type 0
IsWrongLineAfter board line why =
    (more : List ℕ) → IsWrongNext board.start board.feeds board.desks board.history ((line ++ 10 ∷ []) ++ more) why
