-- Flat arrays of which each number has a part of its own, one after another.
use Rattle.std.specs.Prelude.{◌≡◌, ℕ, ◌+◌, ◌<◌, ◌≤◌, List, length, slice_index_or}

-- where the part of a number starts, which is where the one before ends
abbrev pub start_at : List ℕ → ℕ → ℕ
start_at starts number = slice_index_or starts number 0

-- a place in the part of a number
pub record IsIn (starts : List ℕ) (number place : ℕ) : Type 0 where
  pub from : start_at starts number ≤ place
  pub to : place < start_at starts (number + 1)

-- so many parts of an array of so many places
pub record AreParts (count : ℕ) (starts : List ℕ) (total : ℕ) : Type 0 where
  pub sized : length starts ≡ count + 1
  pub last : start_at starts count ≡ total
  pub rises : (number : ℕ) → number < count → start_at starts number ≤ start_at starts (number + 1)
  pub within : (number : ℕ) → number ≤ count → start_at starts number ≤ total
