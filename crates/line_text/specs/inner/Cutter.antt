-- What a cutter of lines shows after the bytes so far.
use Rattle.std.specs.Prelude.{◌≡◌, ℕ, ◌+◌, ◌-◌, ◌^◌, min, nat_lt, Bool, false, ◌||◌, if◌then◌else◌, MatchBool, List, [], ◌∷◌, ◌++◌, length, take, ◌==◌}
use Rattle.std.specs.List.{list_any}
use Rattle.line_text.specs.Lines.{ended_lines, rest_of}
use Rattle.line_text.specs.inner.Lines.{first_line}

-- a cutter: how many bytes it keeps of a line, the line that it shows with its number, whether that line has more
-- bytes, and whether an LF has ended it
pub record CutterState : Type 0 where
  pub most : ℕ
  pub number : ℕ
  pub shown : List ℕ
  pub over : Bool
  pub ended : Bool

-- the cutter shows this line, as far as its bytes have come, under this number
pub record Shows (cutter : CutterState) (number : ℕ) (line : List ℕ) : Type 0 where
  pub numbered : cutter.number ≡ min number (2 ^ 64 - 1)
  pub kept : cutter.shown ≡ take cutter.most line
  pub more : cutter.over ≡ nat_lt cutter.most (length line)

-- it shows the line after the last LF of the bytes
abbrev pub ShowsRest : CutterState → List ℕ → Type 0
ShowsRest cutter bytes = Shows cutter (length (ended_lines bytes) + 1) (rest_of bytes)

-- the cutter has taken these bytes: it shows the line that their last byte ends, an LF, or else the bytes after the
-- last LF
abbrev pub HasTaken : CutterState → List ℕ → Type 0
HasTaken cutter bytes = MatchBool cutter.ended
    ((before : List ℕ) × (bytes ≡ before ++ 10 ∷ []) × ShowsRest cutter before)
    (ShowsRest cutter bytes)

-- the part that follows the bytes ends one more line, which the cutter shows whole
pub record EndsLine (cutter : CutterState) (bytes part : List ℕ) : Type 0 where
  pub line : List ℕ
  pub ends : ended_lines (bytes ++ part) ≡ ended_lines bytes ++ line ∷ []
  pub begins : rest_of (bytes ++ part) ≡ []
  pub shows : Shows cutter (length (ended_lines bytes) + 1) line

-- the part that follows the bytes ends no line
pub record Continues (bytes part : List ℕ) : Type 0 where
  pub ends : ended_lines (bytes ++ part) ≡ ended_lines bytes
  pub goes_on : rest_of (bytes ++ part) ≡ rest_of bytes ++ part

-- a cutter that shows a line that is not ended: the one after a whole line has no bytes yet
abbrev pub begun : CutterState → CutterState
begun cutter = if cutter.ended
    then record { most = cutter.most; number = min (cutter.number + 1) (2 ^ 64 - 1); shown = []; over = false; ended = false }
    else cutter

-- a cutter with more bytes of the line that it shows
abbrev pub kept : CutterState → List ℕ → CutterState
kept cutter more = record cutter {
  shown = take cutter.most (cutter.shown ++ more);
  over = cutter.over || nat_lt cutter.most (length cutter.shown + length more);
}

-- a cutter that has taken the first line of a piece, and its LF where it has one
abbrev pub taken : CutterState → List ℕ → CutterState
taken cutter piece = record (kept (begun cutter) (first_line piece)) { ended = list_any (λ b. b == 10) piece }

-- how many bytes of a piece that is
abbrev pub taken_len : List ℕ → ℕ
taken_len piece = if list_any (λ b. b == 10) piece then length (first_line piece) + 1 else length piece
