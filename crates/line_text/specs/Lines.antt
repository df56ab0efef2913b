-- The lines of a text: it is cut at each LF, and bytes after the last LF are a last line.
use Rattle.std.specs.Prelude.{ℕ, ◌==◌, if◌then◌else◌, List, [], ◌∷◌, ◌++◌}

-- the lines that an LF ends, where the bytes follow those of an unfinished line
unfoldable pub ended_after : List ℕ → List ℕ → List (List ℕ)
ended_after line [] = []
ended_after line (b ∷ bytes) = if b == 10 then line ∷ ended_after [] bytes else ended_after (line ++ b ∷ []) bytes

-- the bytes after the last LF, likewise
unfoldable pub rest_after : List ℕ → List ℕ → List ℕ
rest_after line [] = line
rest_after line (b ∷ bytes) = if b == 10 then rest_after [] bytes else rest_after (line ++ b ∷ []) bytes

-- the lines that an LF ends, each without its LF
abbrev pub ended_lines : List ℕ → List (List ℕ)
ended_lines bytes = ended_after [] bytes

-- the bytes after the last LF
abbrev pub rest_of : List ℕ → List ℕ
rest_of bytes = rest_after [] bytes

-- the line that bytes after the last LF are, where there are any
abbrev pub last_line : List ℕ → List (List ℕ)
last_line [] = []
last_line (b ∷ bytes) = (b ∷ bytes) ∷ []

-- the lines of a text
abbrev pub lines_of : List ℕ → List (List ℕ)
lines_of bytes = ended_lines bytes ++ last_line (rest_of bytes)
