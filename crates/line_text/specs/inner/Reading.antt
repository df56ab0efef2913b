-- What a reader of lines has read.
use Rattle.std.specs.Prelude.{◌≡◌, ◌≢◌, ℕ, nat_lt, if◌then◌else◌, Bool, true, false, List, [], ◌++◌, length, take, Result, Err}
use Rattle.line_text.specs.declared.reading.ReadError.{ReadError}
use Rattle.line_text.specs.declared.reading.ReadError.TheVariants.{ReadFault}
use Rattle.line_text.specs.inner.Cutter.{CutterState, HasTaken}
use Rattle.line_text.specs.Lines.{ended_lines, lines_of}

-- the lines that count of a text of at most so many bytes: all of them, and of a longer text those that end within its
-- first bytes
abbrev pub counted_lines : ℕ → List ℕ → List (List ℕ)
counted_lines most bytes = if nat_lt most (length bytes) then ended_lines (take most bytes) else lines_of bytes

-- the lines are the first ones of all
abbrev pub AreFirst : List (List ℕ) → List (List ℕ) → Type 0
AreFirst lines all = (more : List (List ℕ)) × (all ≡ lines ++ more)

-- the bytes are the first ones of all, and not all
abbrev pub GoesOn : List ℕ → List ℕ → Type 0
GoesOn bytes all = (more : List ℕ) × (more ≢ []) × (all ≡ bytes ++ more)

-- from its first state the reader took the lines that the bytes end
pub record HasRead {L : Type 0} (takes : L → List (List ℕ) → L → Type 0) (first : L) (cutter : CutterState) (now : L) (bytes : List ℕ) : Type 0 where
  pub taken : HasTaken cutter bytes
  pub most : cutter.most ≡ 200
  pub lines : takes first (ended_lines bytes) now

-- the reader refused a line that the bytes end, after those before it
abbrev pub IsRefused : {L E : Type 0} → (L → List (List ℕ) → E → Type 0) → L → List ℕ → E → Type 0
IsRefused refuses first bytes e = (lines : List (List ℕ)) × refuses first lines e × AreFirst lines (ended_lines bytes)

-- whether the source failed
abbrev pub is_read_fault : {T E : Type 0} → Result T (ReadError E) → Bool
is_read_fault (Err ReadFault) = true
is_read_fault _ = false
