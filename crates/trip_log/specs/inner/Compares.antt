-- What is printed, compared with a line and the LF after it.
use Rattle.std.specs.Prelude.{◌≡◌, ℕ, ◌+◌, ◌<◌, ◌≤◌, not, is_some, Bool, true, List, [], ◌∷◌, ◌++◌, length, take, drop, Option, Some}
use Rattle.std.specs.Prelude.{None}
use Rattle.line_text.specs.Fields.{begins_with}

-- the line, how many bytes were those of the line and its LF, the first byte that was another, and the count of faults
pub record Compared : Type 0 where
  pub line : List ℕ
  pub place : ℕ
  pub other : Option ℕ
  pub faults : ℕ

-- the line and its LF
abbrev pub whole_line : List ℕ → List ℕ
whole_line line = line ++ 10 ∷ []

-- the byte as bytes, where there is one
abbrev pub as_bytes : Option ℕ → List ℕ
as_bytes None = []
as_bytes (Some byte) = byte ∷ []

-- the bytes that were taken
abbrev pub taken_bytes : Compared → List ℕ
taken_bytes c = take c.place (whole_line c.line) ++ as_bytes c.other

-- what counts as written: the line and its length before it, which stay, and then the bytes that were taken
abbrev pub seen_bytes : Compared → List ℕ
seen_bytes c = length c.line ∷ (c.line ++ taken_bytes c)

-- whether a byte, where there is one, is another than the first of those that were awaited
abbrev pub differs : Option ℕ → List ℕ → Bool
differs None awaited = true
differs (Some byte) awaited = not (begins_with byte awaited)

-- what is kept: the other byte is another than the one that was awaited, and only after it a fault is counted
pub record IsComparison (c : Compared) : Type 0 where
  pub within : c.place ≤ length c.line + 1
  pub another : differs c.other (drop c.place (whole_line c.line)) ≡ true
  pub faulty : 0 < c.faults → is_some c.other ≡ true
