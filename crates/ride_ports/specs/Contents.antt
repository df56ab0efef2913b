-- What a shelf holds, and what was given back to it.
use Rattle.std.specs.Prelude.{ℕ, List, Option, find, bytes_eq}
use Rattle.std.specs.Option.{option_or, option_map}

-- a file by its name and its bytes
pub record StoredFile : Type 0 where
  pub name : List ℕ
  pub bytes : List ℕ

-- the files of a shelf, and the bytes of every further name
pub record Contents : Type 0 where
  pub files : List StoredFile
  pub other : Option (List ℕ)

-- the bytes of the first file with this name, or else those of every further name
abbrev pub bytes_at : Contents → List ℕ → Option (List ℕ)
bytes_at contents name = let file = find (λ (f : StoredFile). bytes_eq f.name name) contents.files
    in option_or (option_map (λ (f : StoredFile). f.bytes) file) contents.other

-- what is kept of a source that was given back: its count, and the bytes that it had left
pub record GivenBack : Type 0 where
  pub faults : ℕ
  pub left : Option (List ℕ)

abbrev pub given_back : ℕ → Option (List ℕ) → GivenBack
given_back faults left = record { faults = faults; left = left }
