-- The steps of a search for a shortest path.
use Rattle.hungarian.proofs.Common.{◌≡◌, ◌≢◌, ℕ, ◌+◌, ◌<◌, ◌≤◌, inl, inr, length, get_or, set, replicate, sym, ◌∙◌, ap, subst, arith, Some, cases_eq, cases_lt, length-replicate, get_or-set_same, get_or-set_other, get_or-replicate, get_or_past, GridCells, cell_at, price_at, Matches, Duals, Reach, Search, mate, IsShortened, distance_at, source_at, rank_at, IsReached, IsTraced, IsSized, IsSearch, IsPartial}
use Rattle.hungarian.proofs.Reaching.{zero-at, settled-in, reached-in, reached-once, Keeps, reached-kept, sized-begun, sized-settled}

-- a search begins at its root, with all columns open
pub search-begun : (grid : GridCells) (penalty : ℕ) (matches : Matches) (duals : Duals) (root : ℕ) (s t : Search)
    → IsSized grid.columns s → t.distances.items ≡ replicate (length s.distances.items) penalty → t.sources.items
    ≡ s.sources.items
    → t.ranks.items ≡ replicate (length s.ranks.items) 0 → t.steps ≡ 0 → IsSearch grid penalty matches duals root root 0 t
search-begun grid penalty matches duals root s t sized distances_are sources_are ranks_are steps_are =
    let unsettled : (column : ℕ) → rank_at t column ≡ 0
    = λ column. ap (λ rs. get_or rs column 0) ranks_are ∙ zero-at (length s.ranks.items) column in
    let far : (column : ℕ) → column < grid.columns → distance_at t column ≡ penalty
    = λ column low. ap (λ ds. get_or ds column 0) distances_are
    ∙ get_or-replicate (length s.distances.items) column penalty 0 (omega (arith, low, sized.distances_each)) in
    record {
      sized = sized-begun grid.columns s t penalty sized distances_are sources_are ranks_are steps_are;
      ranked = λ column. omega (arith, unsettled column);
      within = λ column. elim (cases_lt column grid.columns) [
        | inl low ↦ omega (arith, far column low)
        | inr past ↦ omega (
          arith,
          ap (λ ds. get_or ds column 0) distances_are,
          get_or_past (replicate (length s.distances.items) penalty) column 0
              (omega (arith, past, sized.distances_each, length-replicate (length s.distances.items) penalty)),
        )
      ];
      settled = λ column above. absurd (omega (arith, above, unsettled column));
      near = λ column above. absurd (omega (arith, above, unsettled column));
      beyond = λ column low none. omega arith;
      traced = λ column low below. absurd (omega (arith, below, far column low));
      lower = λ row column amount distance step differs reached low is. elim reached [
        | inl is_root ↦ absurd (differs is_root.0)
        | inr by ↦ absurd (omega (arith, by.2, unsettled by.0))
      ];
    }

-- a settled column is not nearer by the row that is relaxed
relaxed-keeps : (grid : GridCells) (penalty : ℕ) (matches : Matches) (duals : Duals) (root : ℕ) (reach : Reach) (s t : Search)
    → IsPartial grid penalty root matches duals → reach.row < grid.rows → reach.price ≡ price_at duals.prices.items reach.row
    → IsSearch grid penalty matches duals root reach.row reach.distance s
    → ((column : ℕ) → column < grid.columns
    → IsShortened reach (cell_at grid reach.row column) (price_at duals.pays.items column)
    (distance_at s column) (source_at s column) (distance_at t column) (source_at t column))
    → (column : ℕ) → 0 < rank_at s column
    → (distance_at t column ≡ distance_at s column) × (source_at t column ≡ source_at s column)
relaxed-keeps grid penalty matches duals root reach s t partial row_in price_is state shortened column above =
    let low = settled-in grid.columns s column state.sized above in
    elim (shortened column low).way [
      | inl same ↦ same
      | inr by ↦
          let cover = partial.covered reach.row column by.2.amount row_in low by.2.cell_is in
          absurd (omega (arith, by.0, by.2.tight, cover, price_is, state.near column above))
    ]

-- no open column comes nearer than the row that is relaxed
relaxed-beyond : (grid : GridCells) (penalty : ℕ) (matches : Matches) (duals : Duals) (root : ℕ) (reach : Reach) (s t : Search)
    → IsPartial grid penalty root matches duals → reach.row < grid.rows → reach.price ≡ price_at duals.prices.items reach.row
    → IsSearch grid penalty matches duals root reach.row reach.distance s
    → ((column : ℕ) → column < grid.columns
    → IsShortened reach (cell_at grid reach.row column) (price_at duals.pays.items column)
    (distance_at s column) (source_at s column) (distance_at t column) (source_at t column))
    → (column : ℕ) → column < grid.columns → rank_at s column ≡ 0 → reach.distance ≤ distance_at t column
relaxed-beyond grid penalty matches duals root reach s t partial row_in price_is state shortened column low none =
    elim (shortened column low).way [
      | inl same ↦ omega (arith, same.0, state.beyond column low none)
      | inr by ↦
          let cover = partial.covered reach.row column by.2.amount row_in low by.2.cell_is in
          omega (arith, by.2.tight, cover, price_is)
    ]

-- a row was relaxed
pub search-relaxed : (grid : GridCells) (penalty : ℕ) (matches : Matches) (duals : Duals) (root : ℕ) (reach : Reach) (step : ℕ)
    (s t : Search) → IsPartial grid penalty root matches duals → root < grid.rows
    → reach.price ≡ price_at duals.prices.items reach.row → IsReached matches s root reach.row reach.distance step
    → IsSearch grid penalty matches duals root reach.row reach.distance s
    → ((column : ℕ) → column < grid.columns
    → IsShortened reach (cell_at grid reach.row column) (price_at duals.pays.items column)
    (distance_at s column) (source_at s column) (distance_at t column) (source_at t column))
    → t.ranks.items ≡ s.ranks.items → t.steps ≡ s.steps → IsSized grid.columns t
    → Keeps s t × Keeps t s × IsSearch grid penalty matches duals root grid.rows reach.distance t
search-relaxed grid penalty matches duals root reach step s t partial root_in price_is reached state shortened ranks_are
    steps_are sized =
    let row_in = reached-in grid penalty root matches duals s reach.row reach.distance step partial root_in reached in
    let rank_is : (column : ℕ) → rank_at t column ≡ rank_at s column = λ column. ap (λ rs. get_or rs column 0) ranks_are in
    let kept = relaxed-keeps grid penalty matches duals root reach s t partial row_in price_is state shortened in
    let onward : Keeps s t = λ column above. (rank_is column, (kept column above).0) in
    let back : Keeps t s = λ column above. (sym (rank_is column), sym (kept column (omega (arith, above, rank_is column))).0) in
    let traced : (column : ℕ) → column < grid.columns → distance_at t column < penalty
    → IsTraced grid matches duals t root column
    = λ column low below. elim (shortened column low).way [
      | inl same ↦
          let trace = state.traced column low (omega (arith, below, same.0)) in
          record {
            distance = trace.distance;
            step = trace.step;
            amount = trace.amount;
            reached = subst (λ row. IsReached matches t root row trace.distance trace.step) (sym same.1)
                (reached-kept matches s t root (source_at s column) trace.distance trace.step onward trace.reached);
            cell_is = ap (λ row. cell_at grid row column) same.1 ∙ trace.cell_is;
            tight = omega (arith, trace.tight, same.0, ap (λ row. price_at duals.prices.items row) same.1);
            before = λ above. omega (arith, trace.before (omega (arith, above, rank_is column)), rank_is column);
          }
      | inr by ↦ record {
        distance = reach.distance;
        step = step;
        amount = by.2.amount;
        reached = subst (λ row. IsReached matches t root row reach.distance step) (sym by.1)
            (reached-kept matches s t root reach.row reach.distance step onward reached);
        cell_is = ap (λ row. cell_at grid row column) by.1 ∙ by.2.cell_is;
        tight = omega (arith, by.2.tight, price_is, ap (λ row. price_at duals.prices.items row) by.1);
        before = λ above. absurd (omega (arith, by.0, (kept column (omega (arith, above, rank_is column))).0));
      }
    ] in (
      onward,
      back,
      record {
        sized = sized;
        ranked = λ column. omega (arith, rank_is column, steps_are, state.ranked column);
        within = λ column. elim (cases_lt column grid.columns) [
          | inl low ↦ omega (arith, (shortened column low).no_longer, state.within column)
          | inr past ↦ omega (arith, get_or_past t.distances.items column 0 (omega (arith, past, sized.distances_each)))
        ];
        settled = λ column above. omega
            (arith, (back column above).1, state.settled column (omega (arith, above, rank_is column)));
        near = λ column above. omega (arith, (back column above).1, state.near column (omega (arith, above, rank_is column)));
        beyond = λ column low none. relaxed-beyond grid penalty matches duals root reach s t partial row_in price_is state
            shortened column low (sym (rank_is column) ∙ none);
        traced = traced;
        lower = λ row column amount distance other differs by low is.
            let before = reached-kept matches t s root row distance other back by in
            elim (cases_eq row reach.row) [
              | inl same ↦
                  let here = subst (λ r. IsReached matches s root r distance other) same before in
                  let one = reached-once matches s root reach.row distance other reach.distance step
                  (partial.later root (omega arith)) here reached in
                  let bound = (shortened column low).lower amount (ap (λ r. cell_at grid r column) (sym same) ∙ is) in
                  omega (arith, bound, one, price_is, ap (λ r. price_at duals.prices.items r) same)
              | inr apart ↦
                  omega (
                    arith,
                    (shortened column low).no_longer,
                    state.lower row column amount distance other apart before low
                        is,
                  )
            ];
      },
    )

-- The nearest open column was settled. Its row, if it has one, is yet to be relaxed.
pub search-settled : (grid : GridCells) (penalty : ℕ) (matches : Matches) (duals : Duals) (root unrelaxed far column : ℕ)
    (s t : Search) → IsPartial grid penalty root matches duals
    → IsSearch grid penalty matches duals root grid.rows far s → root < grid.rows
    → column < grid.columns → rank_at s column ≡ 0 → distance_at s column < penalty
    → ((other : ℕ) → other < grid.columns → rank_at s other ≡ 0 → distance_at s column ≤ distance_at s other)
    → ((row : ℕ) → mate matches.rows.items column ≡ Some row → row ≡ unrelaxed)
    → t.ranks.items ≡ set s.ranks.items column (s.steps + 1) → t.steps ≡ s.steps + 1
    → t.distances.items ≡ s.distances.items → t.sources.items ≡ s.sources.items
    → Keeps s t × IsSearch grid penalty matches duals root unrelaxed (distance_at s column) t
search-settled grid penalty matches duals root unrelaxed far column s t partial state root_in low none below least mate_is
    ranks_are steps_are distances_are sources_are =
    let low_too : column < length s.ranks.items = omega (arith, low, state.sized.ranks_each) in
    let distance_is : (k : ℕ) → distance_at t k ≡ distance_at s k = λ k. ap (λ ds. get_or ds k 0) distances_are in
    let source_is : (k : ℕ) → source_at t k ≡ source_at s k = λ k. ap (λ ss. get_or ss k 0) sources_are in
    let here : rank_at t column ≡ s.steps + 1 = ap (λ rs. get_or rs column 0) ranks_are
    ∙ get_or-set_same s.ranks.items column (s.steps + 1) 0 low_too in
    let there : (k : ℕ) → k ≢ column → rank_at t k ≡ rank_at s k
    = λ k differs. ap (λ rs. get_or rs k 0) ranks_are ∙ get_or-set_other s.ranks.items column k (s.steps + 1) 0 differs in
    let keeps : Keeps s t = λ k above. (there k (λ same. omega (arith, above, none, ap (rank_at s) same)), distance_is k) in
    let step_low : (row distance step : ℕ) → IsReached matches s root row distance step → step ≤ s.steps
    = λ row distance step by. elim by [
      | inl is_root ↦ omega (arith, is_root.2)
      | inr mated ↦ omega (arith, mated.4, state.ranked mated.0)
    ] in (
      keeps,
      record {
        sized = sized-settled grid.columns s t column state.sized low none ranks_are steps_are distances_are sources_are;
        ranked = λ k. elim (cases_eq k column) [
          | inl same ↦ omega (arith, ap (rank_at t) same, here, steps_are)
          | inr differs ↦ omega (arith, there k differs, state.ranked k, steps_are)
        ];
        within = λ k. omega (arith, distance_is k, state.within k);
        settled = λ k above. elim (cases_eq k column) [
          | inl same ↦ omega (arith, distance_is k, ap (distance_at s) same, below)
          | inr differs ↦ omega (arith, distance_is k, state.settled k (omega (arith, above, there k differs)))
        ];
        near = λ k above. elim (cases_eq k column) [
          | inl same ↦ omega (arith, distance_is k, ap (distance_at s) same)
          | inr differs ↦ omega
              (arith, distance_is k, state.near k (omega (arith, above, there k differs)), state.beyond column low none)
        ];
        beyond = λ k k_low k_none. elim (cases_eq k column) [
          | inl same ↦ omega (arith, distance_is k, ap (distance_at s) same)
          | inr differs ↦ omega (arith, distance_is k, least k k_low (sym (there k differs) ∙ k_none))
        ];
        traced = λ k k_low k_below.
            let trace = state.traced k k_low (omega (arith, k_below, distance_is k)) in
            record {
              distance = trace.distance;
              step = trace.step;
              amount = trace.amount;
              reached = subst (λ row. IsReached matches t root row trace.distance trace.step) (sym (source_is k))
                  (reached-kept matches s t root (source_at s k) trace.distance trace.step keeps trace.reached);
              cell_is = ap (λ row. cell_at grid row k) (source_is k) ∙ trace.cell_is;
              tight = omega (arith, trace.tight, distance_is k, ap (λ row. price_at duals.prices.items row) (source_is k));
              before = λ above. elim (cases_eq k column) [
                | inl same ↦ omega (
                  arith,
                  ap (rank_at t) same,
                  here,
                  step_low
                      (source_at s k) trace.distance trace.step trace.reached,
                )
                | inr differs ↦ omega (arith, there k differs, trace.before (omega (arith, above, there k differs)))
              ];
            };
        lower = λ row k amount distance step differs by k_low is.
            let before : IsReached matches s root row distance step = elim by [
              | inl is_root ↦ inl is_root
              | inr mated ↦
                  let apart : mated.0 ≢ column = λ same. differs (mate_is row
                  (ap (mate matches.rows.items) (sym same) ∙ partial.mates.column_back row mated.0 mated.1)) in
                  inr (
                    mated.0,
                    mated.1,
                    omega (arith, there mated.0 apart, mated.2),
                    mated.3 ∙ distance_is mated.0,
                    mated.4
                        ∙ there mated.0 apart,
                  )
            ] in
            let row_in = reached-in grid penalty root matches duals s row distance step partial root_in before in
            omega (arith, distance_is k, state.lower row k amount distance step (λ e. omega (arith, row_in, e)) before k_low is);
      },
    )
