-- Bytes, cut at a byte.
use Rattle.std.specs.Prelude.{ℕ, ◌-◌, ◌==◌, if◌then◌else◌, List, [], ◌∷◌, length, take, Option, Some, None, option_map}

-- the bytes before the first one that is this byte, and those after it
abbrev pub cut_at : ℕ → List ℕ → Option (List ℕ × List ℕ)
cut_at byte [] = None
cut_at byte (b ∷ bytes) =
    if b == byte then Some ([], bytes) else option_map (λ (cut : List ℕ × List ℕ). (b ∷ cut.0, cut.1)) (cut_at byte bytes)

-- the bytes without the last one
abbrev pub front_of : List ℕ → List ℕ
front_of bytes = take (length bytes - 1) bytes
