-- The fields of a line, and what a line of a text with comments says.
use Rattle.std.specs.Prelude.{ℕ, ◌==◌, ◌||◌, not, nat_lt, Bool, false, if◌then◌else◌, List, [], ◌∷◌, length, Option, Some, None, option_map, option_and_then}
use Rattle.std.specs.List.{onto_first}
use Rattle.line_text.specs.Numbers.{number_of}

-- space and tab
abbrev pub is_blank : ℕ → Bool
is_blank b = b == 32 || b == 9

-- what is dropped at a line's end: CR, space and tab
abbrev pub is_dropped : ℕ → Bool
is_dropped b = b == 13 || is_blank b

-- a byte in front of a line's end that is dropped where it is empty and the byte is such a one
abbrev pub before_end : ℕ → List ℕ → List ℕ
before_end b [] = if is_dropped b then [] else b ∷ []
before_end b (c ∷ bytes) = b ∷ c ∷ bytes

-- a line without the run of CR, space and tab at its end
unfoldable pub without_end : List ℕ → List ℕ
without_end [] = []
without_end (b ∷ bytes) = before_end b (without_end bytes)

-- whether the first byte is one of a field
abbrev pub begins_field : List ℕ → Bool
begins_field [] = false
begins_field (b ∷ bytes) = not (is_blank b)

-- the maximal runs of bytes other than space and tab
unfoldable pub runs_of : List ℕ → List (List ℕ)
runs_of [] = []
runs_of (b ∷ bytes) = if is_blank b then runs_of bytes
    else (if begins_field bytes then onto_first b (runs_of bytes) else (b ∷ []) ∷ runs_of bytes)

-- the fields of a line. A CR that is not dropped is a byte of a field
abbrev pub fields_of : List ℕ → List (List ℕ)
fields_of line = runs_of (without_end line)

-- the numbers that the fields are; absent where one is no number
unfoldable pub numbers_of : List (List ℕ) → Option (List ℕ)
numbers_of [] = Some []
numbers_of (field ∷ fields) = option_and_then (λ n. option_map (λ ns. n ∷ ns) (numbers_of fields)) (number_of field)

-- whether the text begins with the byte
abbrev pub begins_with : ℕ → List ℕ → Bool
begins_with byte [] = false
begins_with byte (b ∷ bytes) = b == byte

-- a line of more than 200 bytes, counted before anything is dropped
abbrev pub is_over_long : List ℕ → Bool
is_over_long line = nat_lt 200 (length line)

-- the fields, and none of a comment, whose first field begins with the comment byte
abbrev pub unless_comment : ℕ → List (List ℕ) → List (List ℕ)
unless_comment comment [] = []
unless_comment comment (field ∷ fields) = if begins_with comment field then [] else field ∷ fields

-- what a line says: its fields, and none of a comment. An over-long line is a comment where its very first byte is
-- the comment byte, and else says nothing that can be read
abbrev pub words_of : ℕ → List ℕ → Option (List (List ℕ))
words_of comment line = if is_over_long line then (if begins_with comment line then Some [] else None)
    else Some (unless_comment comment (fields_of line))
