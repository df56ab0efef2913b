-- The counts of faults that sources, sinks and shelves keep.
use Rattle.std.specs.Prelude.{◌≡◌, ◌≢◌, ℕ, Bool, false, ◌-◌, ◌^◌, ◌<◌, ◌≤◌, IsTrue}

-- where a count stands still, the greatest number of 64 bits
abbrev pub most_count : ℕ
most_count = 2 ^ 64 - 1

-- a count rose where it is above what it was before, or was at its end before
abbrev pub Rose : ℕ → ℕ → Type 0
Rose before after = before ≢ most_count → before < after

-- what a call leaves of a count of faults: it rose where the call failed, and is as it was where it did not
pub record KeepsCount (failed : Bool) (before after : ℕ) : Type 0 where
  pub rose : IsTrue failed → Rose before after
  pub stays : failed ≡ false → after ≡ before
  pub never_falls : before ≤ after
