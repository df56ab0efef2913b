-- Rows that a search reached, and its columns as they are relaxed and settled.
use Rattle.hungarian.proofs.Common.{◌≡◌, ℕ, ◌+◌, ◌<◌, inl, inr, cond, List, length, get_or, set, replicate, refl, sym, ◌∙◌, ap, arith, ◌==◌, count_by, None, cases_lt, eq-eqb, ne_eqb, length-set, length-replicate, get_or-replicate, get_or_past, sum_by-replicate, sum_by-set, same_Some, GridCells, Matches, Duals, Search, mate, distance_at, rank_at, IsReached, IsSized, IsPartial}
use Rattle.hungarian.proofs.Mated.{mate-in}

-- a place of a number above 0 is within the list
pub positive-in : (xs : List ℕ) (k : ℕ) → 0 < get_or xs k 0 → k < length xs
positive-in xs k h = elim (cases_lt k (length xs)) [
  | inl low ↦ low
  | inr past ↦ absurd (omega (arith, h, get_or_past xs k 0 past))
]

-- a number in a list of zeros
pub zero-at : (n k : ℕ) → ◌≡◌ {A = ℕ} (get_or (replicate n 0) k 0) 0
zero-at n k = elim (cases_lt k n) [
  | inl low ↦ get_or-replicate n k 0 0 low
  | inr past ↦ get_or_past (replicate n 0) k 0 (omega (arith, length-replicate {A = ℕ} n 0, past))
]

-- a settled column is one of the columns
pub settled-in : (columns : ℕ) (search : Search) (column : ℕ) → IsSized columns search → 0 < rank_at search column
    → column < columns
settled-in columns search column sized settled = omega (arith, sized.ranks_each, positive-in search.ranks.items column settled)

-- a reached row is one of the rows
pub reached-in : (grid : GridCells) (penalty root : ℕ) (matches : Matches) (duals : Duals) (search : Search)
    (row distance step : ℕ)
    → IsPartial grid penalty root matches duals → root < grid.rows → IsReached matches search root row distance step
    → row < grid.rows
reached-in grid penalty root matches duals search row distance step partial root_in reached = elim reached [
  | inl is_root ↦ omega (arith, root_in, is_root.0)
  | inr by ↦ omega (arith, partial.lists.rows_each, mate-in matches.columns.items row by.0 by.1)
]

-- a row is reached at one distance
pub reached-once : (matches : Matches) (search : Search) (root row distance step other other_step : ℕ)
    → mate matches.columns.items root ≡ None → IsReached matches search root row distance step
    → IsReached matches search root row other other_step → distance ≡ other
reached-once matches search root row distance step other other_step bare one two = elim one [
  | inl is_root ↦ elim two [
    | inl root_too ↦ is_root.1 ∙ sym root_too.1
    | inr by ↦ absurd (cc (by.1, ap (mate matches.columns.items) is_root.0, bare))
  ]
  | inr by ↦ elim two [
    | inl is_root ↦ absurd (cc (by.1, ap (mate matches.columns.items) is_root.0, bare))
    | inr by_too ↦
        let same : by.0 ≡ by_too.0 = same_Some by.0 by_too.0 (sym by.1 ∙ by_too.1) in
        by.3 ∙ ap (distance_at search) same ∙ sym by_too.3
  ]
]

-- settled columns keep their ranks and their distances
abbrev pub Keeps : Search → Search → Type 0
Keeps s t = (column : ℕ) → 0 < rank_at s column → (rank_at t column ≡ rank_at s column)
    × (distance_at t column ≡ distance_at s column)

-- so reached rows stay reached
pub reached-kept : (matches : Matches) (s t : Search) (root row distance step : ℕ) → Keeps s t
    → IsReached matches s root row distance step → IsReached matches t root row distance step
reached-kept matches s t root row distance step keeps reached = elim reached [
  | inl is_root ↦ inl is_root
  | inr by ↦
      let (rank_is, distance_is) = keeps by.0 by.2 in
      inr (by.0, by.1, omega (arith, rank_is, by.2), by.3 ∙ sym distance_is, by.4 ∙ sym rank_is)
]

-- an open column counts
count-settled : (ranks : List ℕ) (column rank : ℕ) → column < length ranks → get_or ranks column 0 ≡ 0 → 0 < rank
    → count_by (λ r. r == 0) (set ranks column rank) + 1 ≡ count_by (λ r. r == 0) ranks
count-settled ranks column rank low none above =
    let f : ℕ → ℕ = λ r. cond (r == 0) 1 0 in
    let before : f (get_or ranks column 0) ≡ 1 = rw (eq-eqb (get_or ranks column 0) 0 none) refl in
    let after : f rank ≡ 0 = rw (ne_eqb rank 0 (λ e. omega (arith, above, e))) refl in
    omega (arith, sum_by-set f ranks column rank 0 low, before, after)

-- an open column was settled
pub sized-settled : (columns : ℕ) (s t : Search) (column : ℕ) → IsSized columns s → column < columns → rank_at s column ≡ 0
    → t.ranks.items ≡ set s.ranks.items column (s.steps + 1) → t.steps ≡ s.steps + 1
    → t.distances.items ≡ s.distances.items → t.sources.items ≡ s.sources.items → IsSized columns t
sized-settled columns s t column sized low none ranks_are steps_are distances_are sources_are =
    let low_too : column < length s.ranks.items = omega (arith, low, sized.ranks_each) in
    record {
      distances_each = ap (λ ds. length ds) distances_are ∙ sized.distances_each;
      sources_each = ap (λ ss. length ss) sources_are ∙ sized.sources_each;
      ranks_each = ap (λ rs. length rs) ranks_are ∙ length-set s.ranks.items column (s.steps + 1) ∙ sized.ranks_each;
      counted = omega (
        arith,
        sized.counted,
        steps_are,
        ap (λ rs. count_by (λ r. r == 0) rs) ranks_are,
        count-settled s.ranks.items column (s.steps + 1) low_too none (omega arith),
      );
    }

-- all columns are open at first
pub sized-begun : (columns : ℕ) (s t : Search) (limit : ℕ) → IsSized columns s
    → t.distances.items ≡ replicate (length s.distances.items) limit → t.sources.items ≡ s.sources.items
    → t.ranks.items ≡ replicate (length s.ranks.items) 0 → t.steps ≡ 0 → IsSized columns t
sized-begun columns s t limit sized distances_are sources_are ranks_are steps_are =
    let zeros = sum_by-replicate (λ (r : ℕ). cond (r == 0) 1 0) (length s.ranks.items) 0 in
    record {
      distances_each = ap (λ ds. length ds) distances_are ∙ length-replicate (length s.distances.items) limit
          ∙ sized.distances_each;
      sources_each = ap (λ ss. length ss) sources_are ∙ sized.sources_each;
      ranks_each = ap (λ rs. length rs) ranks_are ∙ length-replicate {A = ℕ} (length s.ranks.items) 0 ∙ sized.ranks_each;
      counted = omega (arith, steps_are, ap (λ rs. count_by (λ r. r == 0) rs) ranks_are, zeros, sized.ranks_each);
    }
