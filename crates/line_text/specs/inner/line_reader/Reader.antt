-- What only lemmas and lower contracts use beside Reader.antt.
use Rattle.std.specs.Prelude.{◌≡◌, ◌≢◌, ℕ, ◌+◌, ◌-◌, ◌^◌, min, nat_lt, Bool, true, false, MatchBool, List, [], ◌∷◌, ◌++◌, length, take, Option, IfSome, Result, Err}
use Rattle.line_text.specs.inner.Cutter.{CutterState, HasTaken}
use Rattle.line_text.specs.Lines.{ended_lines, rest_of}
use Rattle.line_text.specs.declared.line_reader.answers.NextLine.{NextLine}
use Rattle.line_text.specs.declared.line_reader.answers.NextLine.TheVariants.{Line, Unfinished, End}
use Rattle.line_text.specs.declared.line_reader.answers.ReadStop.{ReadStop}
use Rattle.line_text.specs.declared.line_reader.answers.ReadStop.TheVariants.{SourceFailed, TooLong}
use Rattle.line_text.specs.declared.line_reader.limits.Limits.{Limits}
use Rattle.line_text.specs.line_reader.Limits.{IsTooLong, IsWithinLimits, lines_within}
use Rattle.line_text.specs.line_reader.Reader.{HasNoLf}

-- a reader: its limits, the cutter that shows the line that was read last, the bytes that were read and are not cut yet, and
-- how many more bytes may be read and how many more lines may begin
pub record ReaderState : Type 0 where
  pub limits : Limits
  pub cutter : CutterState
  pub pending : List ℕ
  pub bytes_left : ℕ
  pub lines_left : ℕ

-- these bytes were cut into lines, some more are pending, and both are within the limits
pub record HasRead (reader : ReaderState) (bytes : List ℕ) : Type 0 where
  pub taken : HasTaken reader.cutter bytes
  pub most : reader.cutter.most ≡ reader.limits.line
  pub bytes_counted : length bytes + length reader.pending + reader.bytes_left ≡ reader.limits.bytes
  pub lines_counted : length (ended_lines bytes) + reader.lines_left ≡ reader.limits.lines
  pub fresh : reader.lines_left ≡ 0 → rest_of bytes ≡ []

-- the reader has given the lines of these bytes, each of which an LF ends
pub record HasGiven (reader : ReaderState) (bytes : List ℕ) : Type 0 where
  pub read : HasRead reader bytes
  pub whole : rest_of bytes ≡ []

-- a reader shows the line of a number, as far as its limits let it
pub record IsShown (reader : ReaderState) (number : ℕ) (line : List ℕ) : Type 0 where
  pub numbered : reader.cutter.number ≡ min number (2 ^ 64 - 1)
  pub bytes : reader.cutter.shown ≡ take reader.limits.line line
  pub over : reader.cutter.over ≡ nat_lt reader.limits.line (length line)

-- after the lines of some bytes came more bytes: the next line with its LF, and what is pending
pub record IsNextLine (reader : ReaderState) (bytes came line : List ℕ) : Type 0 where
  pub no_lf : HasNoLf line
  pub parts : came ≡ (line ++ 10 ∷ []) ++ reader.pending
  pub given : HasGiven reader (bytes ++ line ++ 10 ∷ [])
  pub lines_are : ended_lines (bytes ++ line ++ 10 ∷ []) ≡ ended_lines bytes ++ line ∷ []
  pub shown : IsShown reader (length (ended_lines bytes) + 1) line

-- after the lines of some bytes came the last bytes of the source, without an LF and within the limits
pub record IsAtEnd (left : Option (List ℕ)) (limits : Limits) (bytes came : List ℕ) : Type 0 where
  pub no_lf : HasNoLf came
  pub to_end : IfSome left (λ more. more ≡ [])
  pub within : IsWithinLimits limits (bytes ++ came)
  pub ended_are : ended_lines (bytes ++ came) ≡ ended_lines bytes
  pub rest_is : rest_of (bytes ++ came) ≡ came

-- what came after the lines of some bytes: a line, bytes that no LF ends, or nothing
abbrev pub IsNext : Option (List ℕ) → ReaderState → List ℕ → List ℕ → NextLine → Type 0
IsNext left reader bytes came Line = (line : List ℕ) × IsNextLine reader bytes came line
IsNext left reader bytes came Unfinished =
    IsAtEnd left reader.limits bytes came × (came ≢ []) × IsShown reader (length (ended_lines bytes) + 1) came
IsNext left reader bytes came End = IsAtEnd left reader.limits bytes came × (came ≡ [])

-- whether the source failed
abbrev pub is_fault : {T : Type 0} → Result T ReadStop → Bool
is_fault (Err SourceFailed) = true
is_fault _ = false

-- why a text is not read on: a read failed within the limits, or it passes them
abbrev pub StopsAt : Limits → List ℕ → ReadStop → Type 0
StopsAt limits bytes SourceFailed = IsWithinLimits limits bytes
StopsAt limits bytes TooLong = IsTooLong limits bytes

-- after the lines of some bytes came more bytes, but no line: those are all lines that an LF ends within the limits
pub record IsStopped (limits : Limits) (bytes came : List ℕ) (stop : ReadStop) : Type 0 where
  pub lines_are : lines_within limits (bytes ++ came) ≡ ended_lines bytes
  pub why : StopsAt limits (bytes ++ came) stop

-- what stands after the last LF at the end of the source
abbrev pub IsLast : ReaderState → List ℕ → NextLine → Type 0
IsLast reader bytes Line = ⊥
IsLast reader bytes Unfinished = (rest_of bytes ≢ []) × IsShown reader (length (ended_lines bytes) + 1) (rest_of bytes)
IsLast reader bytes End = rest_of bytes ≡ []

-- more bytes of a source are pending, or nothing is and the source has no more
pub record IsFilled (left : Option (List ℕ)) (old new : ReaderState) (more : List ℕ) (some : Bool) : Type 0 where
  pub limits : new.limits ≡ old.limits
  pub cutter : new.cutter ≡ old.cutter
  pub pending : new.pending ≡ old.pending ++ more
  pub bytes_left : new.bytes_left + length more ≡ old.bytes_left
  pub lines_left : new.lines_left ≡ old.lines_left
  pub answer : MatchBool some (new.pending ≢ []) ((new.pending ≡ []) × IfSome left (λ bytes. bytes ≡ []))

-- why nothing is pending and no more bytes may be: a read failed, or one byte came that is more than a text may have
abbrev pub IsCutOff : ReaderState → List ℕ → ReadStop → Type 0
IsCutOff reader more SourceFailed = (reader.pending ≡ []) × (more ≡ [])
IsCutOff reader more TooLong = (reader.pending ≡ []) × (reader.bytes_left ≡ 0) × ((byte : ℕ) × (more ≡ byte ∷ []))
