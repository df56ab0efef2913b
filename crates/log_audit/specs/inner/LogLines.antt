-- What only lemmas and lower contracts use beside LogLines.antt.
use Rattle.std.specs.Prelude.{◌≡◌, ◌≢◌, ℕ, ◌≤◌, min, nat_lt, List, [], ◌∷◌, ◌++◌, length, take, Option, IfSome}
use Rattle.line_text.specs.declared.line_reader.answers.NextLine.{NextLine}
use Rattle.line_text.specs.declared.line_reader.answers.NextLine.TheVariants.{Line, Unfinished, End}
use Rattle.line_text.specs.inner.line_reader.Reader.{HasGiven, ReaderState}
use Rattle.line_text.specs.line_reader.Limits.{IsTooLong}
use Rattle.line_text.specs.line_reader.Reader.{HasNoLf}
use Rattle.line_text.specs.Lines.{ended_lines}
use Rattle.ride_ports.specs.Bytes.{Reads}
use Rattle.log_audit.specs.declared.verdict.AuditFault.{AuditFault}
use Rattle.log_audit.specs.declared.verdict.AuditFault.TheVariants.{ReadFault, TooLong, NoMemory}
use Rattle.log_audit.specs.declared.limits.TheConstants.{LOG_LIMITS}

-- of a source the lines of these bytes were given, and some more bytes are pending
pub record HasRead (before left : Option (List ℕ)) (lines : ReaderState) (bytes : List ℕ) : Type 0 where
  pub limits : lines.limits ≡ LOG_LIMITS
  pub given : HasGiven lines bytes
  pub reads : Reads before left (bytes ++ lines.pending)

-- all of the source was read within the limits, and these bytes stood after the last LF
pub record IsAtEnd (before left : Option (List ℕ)) (bytes rest : List ℕ) : Type 0 where
  pub no_lf : HasNoLf rest
  pub reads : Reads before left (bytes ++ rest)
  pub to_end : IfSome left (λ more. more ≡ [])
  pub within : IsTooLong LOG_LIMITS (bytes ++ rest) → ⊥

-- the next line was read, which the reader shows
pub record IsNextLine (before left : Option (List ℕ)) (lines : ReaderState) (bytes line : List ℕ) : Type 0 where
  pub no_lf : HasNoLf line
  pub read : HasRead before left lines (bytes ++ line ++ 10 ∷ [])
  pub shown : lines.cutter.shown ≡ take LOG_LIMITS.line line
  pub over : lines.cutter.over ≡ nat_lt LOG_LIMITS.line (length line)

-- what comes next after whole lines: a line, bytes that no LF ends, or nothing
abbrev pub IsNext : Option (List ℕ) → Option (List ℕ) → ReaderState → List ℕ → NextLine → Type 0
IsNext before left lines bytes Line = (line : List ℕ) × IsNextLine before left lines bytes line
IsNext before left lines bytes Unfinished = (rest : List ℕ) × IsAtEnd before left bytes rest × (rest ≢ [])
IsNext before left lines bytes End = IsAtEnd before left bytes []

-- why nothing comes after whole lines: the log is too long, and no more of its lines count; or a read failed within the limits
-- after bytes that end no line
abbrev pub IsStop : Option (List ℕ) → Option (List ℕ) → List ℕ → AuditFault → Type 0
IsStop before left bytes TooLong =
    IfSome before (λ all. (more : List ℕ) × (all ≡ bytes ++ more) × IsTooLong LOG_LIMITS all
    × (min LOG_LIMITS.lines (length (ended_lines (take LOG_LIMITS.bytes all))) ≤ length (ended_lines bytes)))
IsStop before left bytes ReadFault =
    (rest : List ℕ) × (ended_lines (bytes ++ rest) ≡ ended_lines bytes) × Reads before left (bytes ++ rest) × (IsTooLong LOG_LIMITS (bytes ++ rest) → ⊥)
IsStop before left bytes NoMemory = ⊥
