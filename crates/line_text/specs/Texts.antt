-- What a text gives that is read line by line: a value, or the one refusal of its first faulty line.
use Rattle.std.specs.Prelude.{ℕ, ◌+◌, nat_lt, if◌then◌else◌, List, [], ◌∷◌, length, take, Result, Ok, Err}
use Rattle.line_text.specs.Lines.{ended_lines, lines_of}

-- a format of texts: at most so many bytes; the state before the first line; what a line of a number makes of the
-- state that the lines before it left, or its refusal; what the state after the last line gives; the refusal of a
-- text of more bytes
pub record Format (State Value Refusal : Type 0) : Type 0 where
  pub most : ℕ
  pub start : State
  pub line : ℕ → State → List ℕ → Result State Refusal
  pub finish : State → Result Value Refusal
  pub too_long : Refusal

-- a step that is taken only where there is no refusal
abbrev pub and_then : {A B E : Type 0} → Result A E → (A → Result B E) → Result B E
and_then (Ok x) next = next x
and_then (Err e) next = Err e

-- the state after lines of which the first has this number, or the refusal of the first faulty one
unfoldable pub after_lines : {S V E : Type 0} → Format S V E → ℕ → S → List (List ℕ) → Result S E
after_lines format number state [] = Ok state
after_lines format number state (line ∷ lines) =
    and_then (format.line number state line) (λ next. after_lines format (number + 1) next lines)

-- the state after the lines that the bytes end
abbrev pub after_ended : {S V E : Type 0} → Format S V E → List ℕ → Result S E
after_ended format bytes = after_lines format 1 format.start (ended_lines bytes)

-- what the text gives. Of a text of too many bytes the lines count that end within the first of them
abbrev pub text_value : {S V E : Type 0} → Format S V E → List ℕ → Result V E
text_value format bytes = if nat_lt format.most (length bytes)
    then and_then (after_ended format (take format.most bytes)) (λ _. Err format.too_long)
    else and_then (after_lines format 1 format.start (lines_of bytes)) format.finish
