-- A row that is added to a pairing of the rows before it.
use Rattle.hungarian.proofs.Common.{◌≡◌, ◌≢◌, ℕ, ◌+◌, ◌<◌, ◌≤◌, ◌⊎◌, inl, inr, refl, sym, ◌∙◌, ap, subst, arith, Some, None, cases_eq, cases_lt, get_or_past, same_Some, GridCells, cell_at, price_at, Matches, Duals, Search, Path, Column, Row, mate, distance_at, source_at, rank_at, IsReached, IsExit, IsPath, column_rise, mate_rise, AreRaisable, IsRaised, IsEnd, IsReady, IsTurned, IsLeft, IsTight, IsPartial}
use Rattle.hungarian.specs.declared.search.Exit.{Exit}
use Rattle.hungarian.proofs.Mated.{mate-in, cases_mate}
use Rattle.hungarian.proofs.Raising.{rise-settled, rise-unsettled}
use Rattle.hungarian.proofs.Reaching.{settled-in, reached-in}
use Rattle.hungarian.proofs.Paths.{pay-capped}

-- a length is at most the penalty
path-capped : (grid : GridCells) (penalty : ℕ) (matches : Matches) (duals : Duals) (root : ℕ) (search : Search) (path : Path)
    → IsPath grid penalty matches duals root search path → path.distance ≤ penalty
path-capped grid penalty matches duals root search path found = omega (arith, found.limit root 0 0 (inl (refl, refl, refl)))

-- prices and payments can be raised along a path
pub path-raisable : (grid : GridCells) (penalty : ℕ) (matches : Matches) (duals : Duals) (root : ℕ) (search : Search)
    (path : Path) → penalty ≤ 1000000000000 → root < grid.rows → IsPartial grid penalty root matches duals
    → IsPath grid penalty matches duals root search path → AreRaisable matches search root path.distance duals
path-raisable grid penalty matches duals root search path low root_in partial found = record {
  mates = partial.mates;
  bare = partial.later root (omega arith);
  root_in = omega (arith, root_in, partial.lists.prices_each);
  rows_each = partial.lists.rows_each ∙ sym partial.lists.prices_each;
  columns_each = partial.lists.columns_each ∙ sym partial.lists.pays_each;
  ranks_each = found.over.sized.ranks_each ∙ sym partial.lists.pays_each;
  distances_each = found.over.sized.distances_each ∙ sym partial.lists.pays_each;
  near = found.over.near;
  far_limit = omega (arith, low, path-capped grid penalty matches duals root search path found);
  prices_limit = λ row. omega (arith, low, partial.capped row);
  pays_limit = λ column. omega (arith, low, pay-capped grid penalty root matches duals column partial);
}

-- a path can be taken over
pub path-ready : (grid : GridCells) (penalty : ℕ) (matches : Matches) (duals : Duals) (root : ℕ) (search : Search)
    (path : Path) → root < grid.rows → IsPartial grid penalty root matches duals
    → IsPath grid penalty matches duals root search path → IsReady search root path.exit matches
path-ready grid penalty matches duals root search path root_in partial found =
    let trace = λ (column : ℕ) (above : 0 < rank_at search column).
    found.over.traced column (settled-in grid.columns search column found.over.sized above) (found.over.settled column above) in
    record {
      sources_each = found.over.sized.sources_each ∙ sym partial.lists.columns_each;
      mates = partial.mates;
      bare = partial.later root (omega arith);
      sources_in = λ column above.
          let t = trace column above in
          omega (
            arith,
            partial.lists.rows_each,
            reached-in grid penalty root matches duals search
                (source_at search column) t.distance t.step partial root_in t.reached,
          );
      back = λ column above.
          let t = trace column above in
          elim t.reached [
            | inl is_root ↦ inl is_root.0
            | inr by ↦ inr (by.0, by.1, by.2, omega (arith, by.4, t.before above))
          ];
      exits = end path.exit found.exits;
    }
  where
    end : (exit : Exit) → IsExit penalty matches duals search root path.distance exit → IsEnd search root exit matches
    end (Column column) (above, free) =
        (omega (arith, settled-in grid.columns search column found.over.sized above, partial.lists.columns_each), above, free)
    end (Row row) leaves = (
      omega (
        arith,
        partial.lists.rows_each,
        reached-in grid penalty root matches duals search row leaves.distance leaves.step
            partial root_in leaves.reached,
      ),
      elim leaves.reached [ inl is_root ↦ inl is_root.0 | inr by ↦ inr (by.0, by.1, by.2) ],
    )

-- how a row rises: not at all, or by what is left of the length past it
record RowRises (grid : GridCells) (penalty : ℕ) (matches : Matches) (duals : Duals) (root : ℕ) (search : Search) (path : Path)
    (new : Duals) (row : ℕ) : Type 0 where
  pub rises : (price_at new.prices.items row ≡ price_at duals.prices.items row)
      ⊎ ((distance : ℕ) × (step : ℕ) × IsReached matches search root row distance step × (distance ≤ path.distance)
      × (price_at new.prices.items row + distance ≡ price_at duals.prices.items row + path.distance))
  pub reached : (distance step : ℕ) → IsReached matches search root row distance step
      → price_at new.prices.items row + distance ≡ price_at duals.prices.items row + path.distance

-- how a column's payment rises
column-rises : (grid : GridCells) (penalty : ℕ) (matches : Matches) (duals : Duals) (root : ℕ) (search : Search) (path : Path)
    (new : Duals) (column : ℕ) → IsPartial grid penalty root matches duals → IsPath grid penalty matches duals root search path
    → IsRaised matches search root path.distance duals new → column < grid.columns
    → (0 < rank_at search column → price_at new.pays.items column + distance_at search column
    ≡ price_at duals.pays.items column + path.distance)
    × (rank_at search column ≡ 0 → price_at new.pays.items column ≡ price_at duals.pays.items column)
column-rises grid penalty matches duals root search path new column partial found raised low =
    let pay = raised.pays column (omega (arith, low, partial.lists.pays_each)) in (
      λ above. omega (arith, pay, rise-settled search path.distance column above, found.over.near column above),
      λ none. omega (arith, pay, rise-unsettled search path.distance column none),
    )

-- each row rises in one of these ways
row-rises : (grid : GridCells) (penalty : ℕ) (matches : Matches) (duals : Duals) (root : ℕ) (search : Search) (path : Path)
    (new : Duals) (row : ℕ) → IsPartial grid penalty root matches duals → IsPath grid penalty matches duals root search path
    → IsRaised matches search root path.distance duals new → row < grid.rows
    → RowRises grid penalty matches duals root search path new row
row-rises grid penalty matches duals root search path new row partial found raised low = elim (cases_eq row root) [
  | inl same ↦
      let risen : price_at new.prices.items row ≡ price_at duals.prices.items row + path.distance
      = ap (λ r. price_at new.prices.items r) same ∙ raised.root_price
      ∙ ap (λ r. price_at duals.prices.items r + path.distance) (sym same) in
      record {
        rises = inr (0, 0, inl (same, refl, refl), omega arith, omega (arith, risen));
        reached = λ distance step by. elim by [
          | inl is_root ↦ omega (arith, risen, is_root.1)
          | inr mated ↦ absurd (cc (mated.1, ap (mate matches.columns.items) same, partial.later root (omega arith)))
        ];
      }
  | inr differs ↦
      let risen = raised.prices row differs (omega (arith, low, partial.lists.prices_each)) in
      let by_column : (column : ℕ) → mate matches.columns.items row ≡ Some column
      → price_at new.prices.items row ≡ price_at duals.prices.items row + column_rise search path.distance column
      = λ column had. risen ∙ ap (λ o. price_at duals.prices.items row + mate_rise search path.distance o) had in
      record {
        rises = elim (cases_mate (mate matches.columns.items row)) [
          | inl none ↦
              let still : mate_rise search path.distance (mate matches.columns.items row) ≡ 0 =
              ap (mate_rise search path.distance) none in
              inl (omega (arith, risen, still))
          | inr some ↦ elim (cases_eq (rank_at search some.0) 0) [
            | inl none ↦ inl (omega (arith, by_column some.0 some.1, rise-unsettled search path.distance some.0 none))
            | inr settled ↦
                let above : 0 < rank_at search some.0 = omega (arith, settled) in
                let near = found.over.near some.0 above in
                inr (
                  distance_at search some.0,
                  rank_at search some.0,
                  inr (some.0, some.1, above, refl, refl),
                  near,
                  omega (arith, by_column some.0 some.1, rise-settled search path.distance some.0 above, near),
                )
          ]
        ];
        reached = λ distance step by. elim by [
          | inl is_root ↦ absurd (differs is_root.0)
          | inr mated ↦ omega (
            arith,
            by_column mated.0 mated.1,
            rise-settled search path.distance mated.0 mated.2,
            found.over.near mated.0 mated.2,
            mated.3,
          )
        ];
      }
]

-- the row was added
pub row-added : (grid : GridCells) (penalty : ℕ) (matches turned : Matches) (duals new : Duals) (root : ℕ) (search : Search)
    (path : Path) → root < grid.rows → IsPartial grid penalty root matches duals
    → IsPath grid penalty matches duals root search path → IsRaised matches search root path.distance duals new
    → IsTurned search root (IsLeft path.exit) matches turned → IsPartial grid penalty (root + 1) turned new
row-added grid penalty matches turned duals new root search path root_in partial found raised t = record {
  lists = record {
    rows_each = t.rows_each ∙ partial.lists.rows_each;
    columns_each = t.columns_each ∙ partial.lists.columns_each;
    prices_each = raised.prices_each ∙ partial.lists.prices_each;
    pays_each = raised.pays_each ∙ partial.lists.pays_each;
  };
  mates = t.mates;
  later = later;
  capped = capped;
  covered = covered;
  tight = λ row column is. tight row column is (t.pairs row column is);
  left = λ row before none. left row before (t.without row none);
  free = free;
}
  where
    columns_rise : (column : ℕ) → column < grid.columns
        → (0 < rank_at search column → price_at new.pays.items column + distance_at search column
        ≡ price_at duals.pays.items column + path.distance)
        × (rank_at search column ≡ 0 → price_at new.pays.items column ≡ price_at duals.pays.items column)
    columns_rise column low = column-rises grid penalty matches duals root search path new column partial found raised low

    rows_rise : (row : ℕ) → row < grid.rows → RowRises grid penalty matches duals root search path new row
    rows_rise row low = row-rises grid penalty matches duals root search path new row partial found raised low

    later : (row : ℕ) → root + 1 ≤ row → mate turned.columns.items row ≡ None
    later row past = elim (cases_mate (mate turned.columns.items row)) [
      | inl none ↦ none
      | inr some ↦
          let none = partial.later row (omega (arith, past)) in
          elim (t.pairs row some.0 some.1) [
            | inl before ↦ absurd (cc (none, before))
            | inr anew ↦
                let column_in = settled-in grid.columns search some.0 found.over.sized anew.0 in
                let trace = found.over.traced some.0 column_in (found.over.settled some.0 anew.0) in
                elim trace.reached [
                  | inl is_root ↦ absurd (omega (arith, past, anew.1, is_root.0))
                  | inr by ↦ absurd (cc (none, by.1, ap (mate matches.columns.items) anew.1))
                ]
          ]
    ]

    capped : (row : ℕ) → price_at new.prices.items row ≤ penalty
    capped row = elim (cases_lt row grid.rows) [
      | inr past ↦ omega (
        arith,
        get_or_past new.prices.items row 0
            (omega (arith, past, raised.prices_each, partial.lists.prices_each)),
      )
      | inl low ↦ elim (rows_rise row low).rises [
        | inl still ↦ omega (arith, still, partial.capped row)
        | inr by ↦ omega (arith, by.4, found.limit row by.0 by.1 by.2)
      ]
    ]

    covered : (row column amount : ℕ) → row < grid.rows → column < grid.columns → cell_at grid row column ≡ Some amount
        → price_at new.prices.items row ≤ amount + price_at new.pays.items column
    covered row column amount row_in column_in is =
        let pay = columns_rise column column_in in
        let before = partial.covered row column amount row_in column_in is in
        elim (cases_eq (rank_at search column) 0) [
          | inl none ↦ elim (rows_rise row row_in).rises [
            | inl still ↦ omega (arith, still, before, pay.1 none)
            | inr by ↦ omega (
              arith,
              by.4,
              pay.1 none,
              found.over.beyond column column_in none,
              found.over.lower row column amount by.0 by.1 (λ e. omega (arith, row_in, e)) by.2 column_in is,
            )
          ]
          | inr settled ↦
              let above : 0 < rank_at search column = omega (arith, settled) in
              let risen = pay.0 above in
              elim (rows_rise row row_in).rises [
                | inl still ↦ omega (arith, still, before, risen, found.over.near column above)
                | inr by ↦ omega (
                  arith,
                  by.4,
                  risen,
                  found.over.lower row column amount by.0 by.1 (λ e. omega (arith, row_in, e)) by.2 column_in is,
                )
              ]
        ]

    -- a pair that stays rises on both sides, and a new pair makes up the distance between its column and its row
    tight : (row column : ℕ) → mate turned.columns.items row ≡ Some column
        → (mate matches.columns.items row ≡ Some column) ⊎ ((0 < rank_at search column) × (source_at search column ≡ row))
        → IsTight grid new row column
    tight row column is (inl before) =
        let was = partial.tight row column before in
        let row_in : row < grid.rows = omega (arith, partial.lists.rows_each, mate-in matches.columns.items row column before) in
        let column_in : column < grid.columns
        = omega (
          arith,
          partial.lists.columns_each,
          mate-in matches.rows.items column row
              (partial.mates.column_back row column before),
        ) in
        let pay = columns_rise column column_in in
        record {
          amount = was.amount;
          cell_is = was.cell_is;
          tight = elim (cases_eq (rank_at search column) 0) [
            | inr settled ↦
                let above : 0 < rank_at search column = omega (arith, settled) in
                omega (
                  arith,
                  was.tight,
                  pay.0 above,
                  (rows_rise row row_in).reached (distance_at search column) (rank_at search column)
                      (inr (column, before, above, refl, refl)),
                )
            | inl none ↦ elim (rows_rise row row_in).rises [
              | inl still ↦ omega (arith, was.tight, still, pay.1 none)
              | inr by ↦ absurd (elim by.2 [
                | inl is_root ↦ cc (before, ap (mate matches.columns.items) is_root.0, partial.later root (omega arith))
                | inr mated ↦
                    let same : mated.0 ≡ column = same_Some mated.0 column (sym mated.1 ∙ before) in
                    omega (arith, mated.2, none, ap (rank_at search) same)
              ])
            ]
          ];
        }
    tight row column is (inr anew) =
        let column_in = settled-in grid.columns search column found.over.sized anew.0 in
        let trace = found.over.traced column column_in (found.over.settled column anew.0) in
        let by = subst (λ r. IsReached matches search root r trace.distance trace.step) anew.1 trace.reached in
        let row_in = reached-in grid penalty root matches duals search row trace.distance trace.step partial root_in by in
        record {
          amount = trace.amount;
          cell_is = ap (λ r. cell_at grid r column) (sym anew.1) ∙ trace.cell_is;
          tight = omega (
            arith,
            trace.tight,
            (columns_rise column column_in).0 anew.0,
            (rows_rise row row_in).reached trace.distance trace.step by,
            ap (λ r. price_at duals.prices.items r) anew.1,
          );
        }

    left : (row : ℕ) → row < root + 1 → ((mate matches.columns.items row ≡ None) × (row ≢ root)) ⊎ IsLeft path.exit row
        → price_at new.prices.items row ≡ penalty
    left row before (inl was) =
        let price = partial.left row (omega (arith, before, was.1)) was.0 in
        elim (rows_rise row (omega (arith, before, root_in))).rises [
          | inl still ↦ omega (arith, still, price)
          | inr by ↦ absurd (elim by.2 [ inl is_root ↦ was.1 is_root.0 | inr mated ↦ cc (was.0, mated.1) ])
        ]
    left row before (inr spared) = at_exit path.exit found.exits spared
      where
        at_exit : (exit : Exit) → IsExit penalty matches duals search root path.distance exit → IsLeft exit row
            → price_at new.prices.items row ≡ penalty
        at_exit (Column column) exits never = absurd never
        at_exit (Row other) leaves same =
            let by = subst (λ r. IsReached matches search root r leaves.distance leaves.step) (sym same) leaves.reached in
            omega (
              arith,
              (rows_rise row (omega (arith, before, root_in))).reached leaves.distance leaves.step by,
              leaves.length_is,
              ap (λ r. price_at duals.prices.items r) same,
            )

    free : (column : ℕ) → mate turned.rows.items column ≡ None → price_at new.pays.items column ≡ 0
    free column none =
        let was = t.free column none in
        let pay = partial.free column was in
        elim (cases_lt column grid.columns) [
          | inr past ↦ get_or_past new.pays.items column 0 (omega (arith, past, raised.pays_each, partial.lists.pays_each))
          | inl low ↦ elim (cases_eq (rank_at search column) 0) [
            | inl open_is ↦ omega (arith, (columns_rise column low).1 open_is, pay)
            | inr settled ↦
                let above : 0 < rank_at search column = omega (arith, settled) in
                omega (arith, (columns_rise column low).0 above, pay, found.free_last column above was)
          ]
        ]
