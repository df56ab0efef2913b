-- what a contract sees of a `WaitList`: how many places there are, and those that wait, in rising order
use Rattle.std.specs.Prelude.{ℕ, ◌<◌, List, All, filter, nat_lt}
use Rattle.std.specs.List.Sorted.{IsStrictlyIncreasing}

-- the number of places, and those that wait
pub record Waiting : Type 0 where
  pub capacity : ℕ
  pub places : List ℕ

-- the places rise, and each is below the capacity
pub record IsRising (waiting : Waiting) : Type 0 where
  pub rising : IsStrictlyIncreasing waiting.places
  pub in_range : All (λ place. place < waiting.capacity) waiting.places

-- the places below one
abbrev pub places_below : ℕ → List ℕ → List ℕ
places_below place places = filter (λ other. nat_lt other place) places

-- the places above one
abbrev pub places_above : ℕ → List ℕ → List ℕ
places_above place places = filter (λ other. nat_lt place other) places
