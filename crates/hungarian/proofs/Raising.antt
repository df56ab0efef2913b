-- Duals and payments while they are raised, column by column.
use Rattle.hungarian.proofs.Common.{◌≡◌, ◌≢◌, ℕ, ◌+◌, ◌-◌, ◌<◌, ◌≤◌, inl, inr, length, set, refl, sym, ◌∙◌, ap, arith, Option, Some, None, nat_lt, if◌then◌else◌, cases_eq, ne_eqb, eq-eqb, lt-ltb, length-set, get_or-set_same, get_or-set_other, same_Some, price_at, Matches, Duals, Search, mate, distance_at, rank_at, column_rise, mate_rise, rise_from, IsRaisable, IsColumnRaised}
use Rattle.hungarian.proofs.Mated.{mate-in, cases_mate}

-- how far a row with this column was raised, once the columns before a place were
abbrev pub rise_before : ℕ → Search → ℕ → Option ℕ → ℕ
rise_before count search far None = 0
rise_before count search far (Some column) = if nat_lt column count then column_rise search far column else 0

-- a settled column rises by what is left past it
pub rise-settled : (search : Search) (far column : ℕ) → 0 < rank_at search column
    → column_rise search far column ≡ far - distance_at search column
rise-settled search far column settled = rw (ne_eqb (rank_at search column) 0 (λ none. omega (arith, settled, none))) refl

-- an open column does not rise
pub rise-unsettled : (search : Search) (far column : ℕ) → rank_at search column ≡ 0 → column_rise search far column ≡ 0
rise-unsettled search far column none = rw (eq-eqb (rank_at search column) 0 none) refl

-- rows rise with their own columns
pub rise_from-same : (search : Search) (far column : ℕ) → rise_from search far column (Some column)
    ≡ column_rise search far column
rise_from-same search far column = rw (eq-eqb column column refl) refl

-- and with no other
pub rise_from-other : (search : Search) (far column other : ℕ) → other ≢ column → rise_from search far column (Some other) ≡ 0
rise_from-other search far column other differs = rw (ne_eqb other column differs) refl

-- a settled column and its row were raised
pub column-raised : (matches : Matches) (search : Search) (far column row : ℕ) (old new : Duals)
    → IsRaisable matches search far column old → 0 < rank_at search column → mate matches.rows.items column ≡ Some row
    → new.prices.items ≡ set old.prices.items row (price_at old.prices.items row + (far - distance_at search column))
    → new.pays.items ≡ set old.pays.items column (price_at old.pays.items column + (far - distance_at search column))
    → IsColumnRaised matches search far column old new
column-raised matches search far column row old new r settled had prices_are pays_are =
    let rise = far - distance_at search column in
    let rise_is : column_rise search far column ≡ rise = rise-settled search far column settled in
    let back : mate matches.columns.items row ≡ Some column = r.mates.row_back row column had in
    let row_in : row < length old.prices.items = omega (arith, r.rows_each, mate-in matches.columns.items row column back) in
    record {
      prices_each = ap (λ ps. length ps) prices_are ∙ length-set old.prices.items row (price_at old.prices.items row + rise);
      pays_each = ap (λ ps. length ps) pays_are ∙ length-set old.pays.items column (price_at old.pays.items column + rise);
      pay = ap (λ ps. price_at ps column) pays_are
          ∙ get_or-set_same old.pays.items column (price_at old.pays.items column + rise) 0 r.column_in
          ∙ ap (λ n. price_at old.pays.items column + n) (sym rise_is);
      pays_left = λ other differs. ap (λ ps. price_at ps other) pays_are
          ∙ get_or-set_other old.pays.items column other (price_at old.pays.items column + rise) 0 differs;
      prices = λ k. ap (λ ps. price_at ps k) prices_are ∙ elim (cases_eq k row) [
        | inl same ↦
            let risen : rise_from search far column (mate matches.columns.items k) ≡ rise
            = ap (λ j. rise_from search far column (mate matches.columns.items j)) same ∙ ap (rise_from search far column) back
            ∙ rise_from-same search far column ∙ rise_is in
            ap (λ j. price_at (set old.prices.items row (price_at old.prices.items row + rise)) j) same
            ∙ get_or-set_same old.prices.items row (price_at old.prices.items row + rise) 0 row_in
            ∙ ap (λ j. price_at old.prices.items j + rise) (sym same)
            ∙ ap (λ n. price_at old.prices.items k + n) (sym risen)
        | inr differs ↦
            let still : rise_from search far column (mate matches.columns.items k) ≡ 0
            = elim (cases_mate (mate matches.columns.items k)) [
              | inl none ↦ ap (rise_from search far column) none
              | inr some ↦ ap (rise_from search far column) some.1
                  ∙ rise_from-other search far column some.0 (λ same. differs
                  (same_Some k row (sym (r.mates.column_back k some.0 some.1) ∙ ap (mate matches.rows.items) same ∙ had)))
            ] in
            let kept = get_or-set_other old.prices.items row k (price_at old.prices.items row + rise) 0 differs in
            omega (arith, kept, still)
      ];
    }

-- once all columns were raised, a row rose with its column
pub rise-all : (matches : Matches) (search : Search) (far count row : ℕ) → length matches.rows.items ≤ count
    → ((column : ℕ) → mate matches.columns.items row ≡ Some column → mate matches.rows.items column ≡ Some row)
    → rise_before count search far (mate matches.columns.items row) ≡ mate_rise search far (mate matches.columns.items row)
rise-all matches search far count row all back = elim (cases_mate (mate matches.columns.items row)) [
  | inl none ↦ ap (rise_before count search far) none ∙ ap (mate_rise search far) (sym none)
  | inr some ↦
      let low : some.0 < count = omega (arith, all, mate-in matches.rows.items some.0 row (back some.0 some.1)) in
      let here : rise_before count search far (Some some.0) ≡ mate_rise search far (Some some.0) =
      rw (lt-ltb some.0 count low) refl in
      ap (rise_before count search far) some.1 ∙ here ∙ ap (mate_rise search far) (sym some.1)
]
