-- What a path changes among the columns of rows.
use Rattle.std.specs.Prelude.{◌≡◌, ◌≢◌, ℕ, ◌<◌, ◌≤◌, ◌⊎◌, length, Some, None}
use Rattle.hungarian.specs.declared.matches.Matches.{Matches}
use Rattle.hungarian.specs.declared.search.Search.{Search}
use Rattle.hungarian.specs.declared.search.Exit.{Exit}
use Rattle.hungarian.specs.declared.search.Exit.TheVariants.{Column, Row}
use Rattle.hungarian.specs.inner.Mates.{mate, AreMates, AreMatesBut}
use Rattle.hungarian.specs.inner.Labels.{source_at, rank_at}

-- a column was reached from the root, or from the row of a column that was settled before it
abbrev pub LeadsBack : Matches → Search → ℕ → ℕ → Type 0
LeadsBack matches search root column =
    (source_at search column ≡ root)
    ⊎ ((earlier : ℕ) × (mate matches.columns.items (source_at search column) ≡ Some earlier)
    × (0 < rank_at search earlier) × (rank_at search earlier < rank_at search column))

-- rows and columns were paired anew along a path: a pair is an old one, or a settled column with its source; no column
-- became free, and only the rows in question have no column, not the root
pub record IsTurned (search : Search) (root : ℕ) (spared : ℕ → Type 0) (old new : Matches) : Type 0 where
  pub rows_each : length new.columns.items ≡ length old.columns.items
  pub columns_each : length new.rows.items ≡ length old.rows.items
  pub mates : AreMates new.columns.items new.rows.items
  pub pairs : (row column : ℕ) → mate new.columns.items row ≡ Some column
      → (mate old.columns.items row ≡ Some column) ⊎ ((0 < rank_at search column) × (source_at search column ≡ row))
  pub without : (row : ℕ) → mate new.columns.items row ≡ None
      → ((mate old.columns.items row ≡ None) × (row ≢ root)) ⊎ spared row
  pub free : (column : ℕ) → mate new.rows.items column ≡ None → mate old.rows.items column ≡ None

-- the row that an exit leaves out
abbrev pub IsLeft : Exit → ℕ → Type 0
IsLeft (Column column) row = ⊥
IsLeft (Row left) row = row ≡ left

-- a column is to be given to the row that it was reached from, and the columns of the rows before it can follow
pub record IsFlippable (search : Search) (root last : ℕ) (matches : Matches) : Type 0 where
  pub last_in : last < length matches.rows.items
  pub sources_each : length search.sources.items ≡ length matches.rows.items
  pub mates : AreMatesBut last matches.columns.items matches.rows.items
  pub settled : 0 < rank_at search last
  pub bare : mate matches.columns.items root ≡ None
  pub sources_in : (column : ℕ) → 0 < rank_at search column → rank_at search column ≤ rank_at search last
      → source_at search column < length matches.columns.items
  pub back : (column : ℕ) → 0 < rank_at search column → rank_at search column ≤ rank_at search last
      → LeadsBack matches search root column

-- an exit is a free column that was settled, or the root or the row of a settled column
abbrev pub IsEnd : Search → ℕ → Exit → Matches → Type 0
IsEnd search root (Column column) matches =
    (column < length matches.rows.items) × (0 < rank_at search column) × (mate matches.rows.items column ≡ None)
IsEnd search root (Row row) matches =
    (row < length matches.columns.items)
    × ((row ≡ root) ⊎ ((column : ℕ) × (mate matches.columns.items row ≡ Some column) × (0 < rank_at search column)))

-- a path can be taken over, up to its exit
pub record IsReady (search : Search) (root : ℕ) (exit : Exit) (matches : Matches) : Type 0 where
  pub sources_each : length search.sources.items ≡ length matches.rows.items
  pub mates : AreMates matches.columns.items matches.rows.items
  pub bare : mate matches.columns.items root ≡ None
  pub sources_in : (column : ℕ) → 0 < rank_at search column → source_at search column < length matches.columns.items
  pub back : (column : ℕ) → 0 < rank_at search column → LeadsBack matches search root column
  pub exits : IsEnd search root exit matches
