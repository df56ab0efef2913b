-- A search from its begin to its shortest path.
use Rattle.hungarian.proofs.Common.{◌≡◌, ◌≢◌, ℕ, ◌+◌, ◌-◌, ◌*◌, ◌<◌, ◌≤◌, ◌⊎◌, inl, inr, Bool, cond, length, get_or, set, replicate, refl, sym, ◌∙◌, ap, subst, arith, Option, Some, None, IfSome, cases_eq, cases_lt, lt-ltb, le-ltb, get_or-set_same, get_or-set_other, mul-add-lt, same_Some, GridCells, cell_at, IsGrid, price_at, Matches, Duals, Reach, Search, Path, Column, Row, mate, IsShortened, IsRelaxable, distance_at, source_at, rank_at, IsReached, IsSized, IsNext, IsSearch, IsLeaving, IsExit, IsPath, sooner_path, IsSearching, IsPartial}
use Rattle.hungarian.proofs.Mated.{cases_mate}
use Rattle.hungarian.proofs.Reaching.{zero-at, reached-in, Keeps, reached-kept}
use Rattle.hungarian.proofs.Steps.{search-begun, search-relaxed, search-settled}

-- no column pays more than the penalty
pub pay-capped : (grid : GridCells) (penalty done : ℕ) (matches : Matches) (duals : Duals) (column : ℕ)
    → IsPartial grid penalty done matches duals → price_at duals.pays.items column ≤ penalty
pay-capped grid penalty done matches duals column partial = elim (cases_mate (mate matches.rows.items column)) [
  | inl none ↦ omega (arith, partial.free column none)
  | inr some ↦
      let tight = partial.tight some.0 column (partial.mates.row_back some.0 column some.1) in
      omega (arith, tight.tight, partial.capped some.0)
]

-- what holds of each some, holds where there is one
pub if-some : (o : Option ℕ) (P : ℕ → Type 0) → ((x : ℕ) → o ≡ Some x → P x) → IfSome o P
if-some None P h = tt
if-some (Some x) P h = h x refl

-- the row that is to be relaxed can be
pub searching-relaxable : (grid : GridCells) (penalty : ℕ) (matches : Matches) (duals : Duals) (root : ℕ) (reach : Reach)
    (leaving : Path) (s : Search) (column : ℕ) → IsGrid grid → penalty ≤ 1000000000000 → root < grid.rows
    → IsPartial grid penalty root matches duals → IsSearching grid penalty matches duals root reach leaving s
    → column < grid.columns → IsRelaxable reach (cell_at grid reach.row column) (price_at duals.pays.items column)
searching-relaxable grid penalty matches duals root reach leaving s column fits low root_in partial now column_in =
    let (step, reached) = now.reached in
    let row_in = reached-in grid penalty root matches duals s reach.row reach.distance step partial root_in reached in
    let inside : reach.row * grid.columns + column < length grid.cells
    = omega (arith, fits.one_each, mul-add-lt reach.row grid.columns column grid.rows row_in column_in) in
    record {
      distance_limit = omega (arith, low, now.sooner, now.below);
      pay_limit = omega (arith, low, pay-capped grid penalty root matches duals column partial);
      amount_limit = fits.amounts_limit (reach.row * grid.columns + column) None inside;
      covered = if-some (cell_at grid reach.row column) (λ amount. reach.price ≤ amount + price_at duals.pays.items column)
          (λ amount is. omega (arith, now.price_is, partial.covered reach.row column amount row_in column_in is));
    }

-- a search begins at its root
pub searching-begun : (grid : GridCells) (penalty : ℕ) (matches : Matches) (duals : Duals) (root price : ℕ) (s t : Search)
    → IsPartial grid penalty root matches duals → IsSized grid.columns s
    → t.distances.items ≡ replicate (length s.distances.items) penalty → t.sources.items ≡ s.sources.items
    → t.ranks.items ≡ replicate (length s.ranks.items) 0 → t.steps ≡ 0 → price ≡ price_at duals.prices.items root
    → IsSearching grid penalty matches duals root (record { row = root; distance = 0; price = price })
    (record { distance = penalty - price; exit = Row root }) t
searching-begun grid penalty matches duals root price s t partial sized distances_are sources_are ranks_are steps_are price_is =
    let unsettled : (column : ℕ) → rank_at t column ≡ 0
    = λ column. ap (λ rs. get_or rs column 0) ranks_are ∙ zero-at (length s.ranks.items) column in
    let capped = partial.capped root in
    record {
      state = search-begun grid penalty matches duals root s t sized distances_are sources_are ranks_are steps_are;
      reached = (0, inl (refl, refl, refl));
      price_is = price_is;
      mated = λ column above. absurd (omega (arith, above, unsettled column));
      limit = λ row distance step by. elim by [
        | inl is_root ↦ omega (arith, is_root.1, price_is, capped, ap (λ r. price_at duals.prices.items r) is_root.0)
        | inr mated ↦ absurd (omega (arith, mated.2, unsettled mated.0))
      ];
      leaves = (
        root,
        refl,
        record {
          distance = 0;
          step = 0;
          reached = inl (refl, refl, refl);
          length_is = omega (arith, price_is, capped);
        },
      );
      sooner = omega arith;
      below = omega arith;
    }

-- what a step to a row's columns promises
pub record IsAdvanced (grid : GridCells) (duals : Duals) (reach : Reach) (s t : Search) : Type 0 where
  pub shortened : (column : ℕ) → column < grid.columns
      → IsShortened reach (cell_at grid reach.row column) (price_at duals.pays.items column)
      (distance_at s column) (source_at s column) (distance_at t column) (source_at t column)
  pub ranks_are : t.ranks.items ≡ s.ranks.items
  pub steps_are : t.steps ≡ s.steps
  pub sized : IsSized grid.columns t

-- the row was relaxed
advanced : (grid : GridCells) (penalty : ℕ) (matches : Matches) (duals : Duals) (root : ℕ) (reach : Reach) (leaving : Path)
    (s t : Search) → root < grid.rows → IsPartial grid penalty root matches duals
    → IsSearching grid penalty matches duals root reach leaving s → IsAdvanced grid duals reach s t
    → Keeps s t × Keeps t s × IsSearch grid penalty matches duals root grid.rows reach.distance t
advanced grid penalty matches duals root reach leaving s t root_in partial now a =
    let (step, reached) = now.reached in
    search-relaxed grid penalty matches duals root reach step s t partial root_in now.price_is reached now.state a.shortened
    a.ranks_are a.steps_are a.sized

-- no open column is near enough: the path leaves a row out
pub path-leaving : (grid : GridCells) (penalty : ℕ) (matches : Matches) (duals : Duals) (root : ℕ) (reach : Reach)
    (leaving : Path) (s t : Search) → root < grid.rows → IsPartial grid penalty root matches duals
    → IsSearching grid penalty matches duals root reach leaving s → IsAdvanced grid duals reach s t
    → IsNext t grid.columns leaving.distance None → IsPath grid penalty matches duals root t leaving
path-leaving grid penalty matches duals root reach leaving s t root_in partial now a next =
    let (onward, back, state) = advanced grid penalty matches duals root reach leaving s t root_in partial now a in
    let (row, exit_is, leaves) = now.leaves in
    let rank_is : (column : ℕ) → rank_at t column ≡ rank_at s column = λ column. ap (λ rs. get_or rs column 0) a.ranks_are in
    record {
      over = record {
        sized = state.sized;
        ranked = state.ranked;
        within = state.within;
        settled = state.settled;
        near = λ column above. omega (arith, state.near column above, now.sooner);
        beyond = next;
        traced = state.traced;
        lower = state.lower;
      };
      limit = λ r distance step by. now.limit r distance step (reached-kept matches t s root r distance step back by);
      free_last = λ column above none.
          let (mated, is) = now.mated column (omega (arith, above, rank_is column)) in
          absurd (cc (none, is));
      exits = subst (λ e. IsExit penalty matches duals t root leaving.distance e) (sym exit_is) (record {
        distance = leaves.distance;
        step = leaves.step;
        reached = reached-kept matches s t root row leaves.distance leaves.step onward leaves.reached;
        length_is = leaves.length_is;
      });
    }

-- what settling a column promises
pub record IsSettled (column : ℕ) (s t : Search) : Type 0 where
  pub ranks_are : t.ranks.items ≡ set s.ranks.items column (s.steps + 1)
  pub steps_are : t.steps ≡ s.steps + 1
  pub distances_are : t.distances.items ≡ s.distances.items
  pub sources_are : t.sources.items ≡ s.sources.items

-- the ranks once a column was settled: its own, and those of the others
ranks-settled : (columns column : ℕ) (t w : Search) → IsSized columns t → column < columns → IsSettled column t w
    → (rank_at w column ≡ t.steps + 1) × ((k : ℕ) → k ≢ column → rank_at w k ≡ rank_at t k)
ranks-settled columns column t w sized low settled = (
  ap (λ rs. get_or rs column 0) settled.ranks_are
      ∙ get_or-set_same t.ranks.items column (t.steps + 1) 0 (omega (arith, low, sized.ranks_each)),
  λ k differs. ap (λ rs. get_or rs k 0) settled.ranks_are ∙ get_or-set_other t.ranks.items column k (t.steps + 1) 0 differs,
)

-- a row that is reached once a column was settled was reached before, or is that column's
reached-settled : (grid : GridCells) (penalty : ℕ) (matches : Matches) (duals : Duals) (root column far : ℕ) (s t w : Search)
    (row distance step : ℕ) → IsPartial grid penalty root matches duals
    → IsSearch grid penalty matches duals root grid.rows far t → Keeps t s → column < grid.columns → IsSettled column t w
    → IsReached matches w root row distance step
    → IsReached matches s root row distance step
    ⊎ ((mate matches.rows.items column ≡ Some row) × (distance ≡ distance_at t column))
reached-settled grid penalty matches duals root column far s t w row distance step partial state back low settled by =
    let (here, there) = ranks-settled grid.columns column t w state.sized low settled in
    let distance_is : (k : ℕ) → distance_at w k ≡ distance_at t k = λ k. ap (λ ds. get_or ds k 0) settled.distances_are in
    elim by [
      | inl is_root ↦ inl (inl is_root)
      | inr mated ↦ elim (cases_eq mated.0 column) [
        | inl same ↦ inr (
          ap (mate matches.rows.items) (sym same) ∙ partial.mates.column_back row mated.0 mated.1,
          mated.3 ∙ distance_is mated.0 ∙ ap (distance_at t) same,
        )
        | inr differs ↦
            let above : 0 < rank_at t mated.0 = omega (arith, there mated.0 differs, mated.2) in
            let before : IsReached matches t root row distance step
            = inr (mated.0, mated.1, above, mated.3 ∙ distance_is mated.0, mated.4 ∙ there mated.0 differs) in
            inl (reached-kept matches t s root row distance step back before)
      ]
    ]

-- the nearest open column is free: the path ends there
pub path-column : (grid : GridCells) (penalty : ℕ) (matches : Matches) (duals : Duals) (root : ℕ) (reach : Reach)
    (leaving : Path) (column : ℕ) (s t w : Search) → root < grid.rows → IsPartial grid penalty root matches duals
    → IsSearching grid penalty matches duals root reach leaving s → IsAdvanced grid duals reach s t
    → IsNext t grid.columns leaving.distance (Some column) → IsSettled column t w → mate matches.rows.items column ≡ None
    → IsPath grid penalty matches duals root w (record { distance = distance_at t column; exit = Column column })
path-column grid penalty matches duals root reach leaving column s t w root_in partial now a next settled free =
    let (onward, back, state) = advanced grid penalty matches duals root reach leaving s t root_in partial now a in
    let (low, open_is, near, least) = next in
    let (keeps, after) = search-settled grid penalty matches duals root grid.rows reach.distance column t w partial state
    root_in low open_is
    (omega (arith, near, now.below)) least (λ row had. absurd (cc (free, had))) settled.ranks_are settled.steps_are
    settled.distances_are settled.sources_are in
    let (here, there) = ranks-settled grid.columns column t w state.sized low settled in
    record {
      over = after;
      limit = λ row distance step by.
          elim (reached-settled grid penalty matches duals root column reach.distance s t w row distance step partial state
          back low settled by) [
            | inl before ↦ omega (arith, near, now.limit row distance step before)
            | inr had ↦ absurd (cc (free, had.0))
          ];
      free_last = λ k above none. elim (cases_eq k column) [
        | inl same ↦ ap (λ ds. get_or ds k 0) settled.distances_are ∙ ap (distance_at t) same
        | inr differs ↦
            let (row, had) = now.mated k (omega (arith, above, there k differs, ap (λ rs. get_or rs k 0) a.ranks_are)) in
            absurd (cc (none, had))
      ];
      exits = (omega (arith, here), free);
    }

-- The nearest open column has a row, which is to be relaxed next: with the new shortest path that leaves a row out.
searching-next : (grid : GridCells) (penalty : ℕ) (matches : Matches) (duals : Duals) (root : ℕ) (reach : Reach)
    (leaving later : Path) (column row price : ℕ) (s t w : Search) → root < grid.rows → IsPartial grid penalty root matches duals
    → IsSearching grid penalty matches duals root reach leaving s → IsAdvanced grid duals reach s t
    → IsNext t grid.columns leaving.distance (Some column) → IsSettled column t w → mate matches.rows.items column ≡ Some row
    → price ≡ price_at duals.prices.items row → later.distance ≤ leaving.distance
    → later.distance + price ≤ distance_at t column + penalty
    → ((left : ℕ) × (later.exit ≡ Row left) × IsLeaving penalty matches duals w root later.distance left)
    → distance_at t column ≤ later.distance
    → IsSearching grid penalty matches duals root (record { row = row; distance = distance_at t column; price = price }) later w
searching-next grid penalty matches duals root reach leaving later column row price s t w root_in partial now a next settled
    had price_is shorter limit leaves sooner =
    let (onward, back, state) = advanced grid penalty matches duals root reach leaving s t root_in partial now a in
    let (low, open_is, near, least) = next in
    let (keeps, after) = search-settled grid penalty matches duals root row reach.distance column t w partial state root_in low
    open_is
    (omega (arith, near, now.below)) least (λ r is. same_Some r row (sym is ∙ had)) settled.ranks_are settled.steps_are
    settled.distances_are settled.sources_are in
    let (here, there) = ranks-settled grid.columns column t w state.sized low settled in
    record {
      state = after;
      reached = (
        rank_at w column,
        inr (
          column,
          partial.mates.row_back row column had,
          omega (arith, here),
          ap (λ ds. get_or ds column 0) (sym settled.distances_are),
          refl,
        ),
      );
      price_is = price_is;
      mated = λ k above. elim (cases_eq k column) [
        | inl same ↦ (row, ap (mate matches.rows.items) same ∙ had)
        | inr differs ↦ now.mated k (omega (arith, above, there k differs, ap (λ rs. get_or rs k 0) a.ranks_are))
      ];
      limit = λ r distance step by.
          elim (reached-settled grid penalty matches duals root column reach.distance s t w r distance step partial state back
          low settled by) [
            | inl before ↦ omega (arith, shorter, now.limit r distance step before)
            | inr own ↦
                let same : r ≡ row = same_Some r row (sym own.0 ∙ had) in
                omega (arith, limit, own.1, price_is, ap (λ q. price_at duals.prices.items q) same)
          ];
      leaves = leaves;
      sooner = sooner;
      below = omega (arith, shorter, now.below);
    }

-- the row is the one that the shortest path leaves out
pub searching-sooner : (grid : GridCells) (penalty : ℕ) (matches : Matches) (duals : Duals) (root : ℕ) (reach : Reach)
    (leaving : Path) (column row price : ℕ) (s t w : Search) → root < grid.rows → IsPartial grid penalty root matches duals
    → IsSearching grid penalty matches duals root reach leaving s → IsAdvanced grid duals reach s t
    → IsNext t grid.columns leaving.distance (Some column) → IsSettled column t w → mate matches.rows.items column ≡ Some row
    → price ≡ price_at duals.prices.items row → distance_at t column + (penalty - price) < leaving.distance
    → IsSearching grid penalty matches duals root (record { row = row; distance = distance_at t column; price = price })
    (record { distance = distance_at t column + (penalty - price); exit = Row row }) w
searching-sooner grid penalty matches duals root reach leaving column row price s t w root_in partial now a next settled had
    price_is less =
    let (onward, back, state) = advanced grid penalty matches duals root reach leaving s t root_in partial now a in
    let (here, there) = ranks-settled grid.columns column t w state.sized next.0 settled in
    let capped : price ≤ penalty = omega (arith, price_is, partial.capped row) in
    searching-next grid penalty matches duals root reach leaving _ column row price s t w root_in partial now a next settled
    had price_is
    (omega (arith, less)) (omega (arith, capped)) (
      row,
      refl,
      record {
        distance = distance_at t column;
        step = rank_at w column;
        reached = inr (
          column,
          partial.mates.row_back row column had,
          omega (arith, here),
          ap (λ ds. get_or ds column 0)
              (sym settled.distances_are),
          refl,
        );
        length_is = omega (arith, capped, price_is);
      },
    )
    (omega arith)

-- the shortest path that leaves a row out stays the same
pub searching-later : (grid : GridCells) (penalty : ℕ) (matches : Matches) (duals : Duals) (root : ℕ) (reach : Reach)
    (leaving : Path) (column row price : ℕ) (s t w : Search) → root < grid.rows → IsPartial grid penalty root matches duals
    → IsSearching grid penalty matches duals root reach leaving s → IsAdvanced grid duals reach s t
    → IsNext t grid.columns leaving.distance (Some column) → IsSettled column t w → mate matches.rows.items column ≡ Some row
    → price ≡ price_at duals.prices.items row → leaving.distance ≤ distance_at t column + (penalty - price)
    → IsSearching grid penalty matches duals root (record { row = row; distance = distance_at t column; price = price })
    leaving w
searching-later grid penalty matches duals root reach leaving column row price s t w root_in partial now a next settled had
    price_is more =
    let (onward, back, state) = advanced grid penalty matches duals root reach leaving s t root_in partial now a in
    let (here, there) = ranks-settled grid.columns column t w state.sized next.0 settled in
    let keeps : Keeps t w =
    λ k above. (
      there k (λ same. omega (arith, above, next.1, ap (rank_at t) same)),
      ap
          (λ ds. get_or ds k 0) settled.distances_are,
    ) in
    let capped : price ≤ penalty = omega (arith, price_is, partial.capped row) in
    let (left, exit_is, leaves) = now.leaves in
    searching-next grid penalty matches duals root reach leaving leaving column row price s t w root_in partial now a next
    settled had price_is
    (omega arith) (omega (arith, more, capped)) (
      left,
      exit_is,
      record {
        distance = leaves.distance;
        step = leaves.step;
        reached = reached-kept matches t w root left leaves.distance leaves.step keeps
            (reached-kept matches s t root left leaves.distance leaves.step onward leaves.reached);
        length_is = leaves.length_is;
      },
    )
    (omega (arith, next.2))

-- the next row is to be relaxed, with the shorter of the two paths that leave a row out
pub searching-step : (grid : GridCells) (penalty : ℕ) (matches : Matches) (duals : Duals) (root : ℕ) (reach : Reach)
    (leaving : Path) (column row price : ℕ) (s t w : Search) → root < grid.rows → IsPartial grid penalty root matches duals
    → IsSearching grid penalty matches duals root reach leaving s → IsAdvanced grid duals reach s t
    → IsNext t grid.columns leaving.distance (Some column) → IsSettled column t w → mate matches.rows.items column ≡ Some row
    → price ≡ price_at duals.prices.items row
    → IsSearching grid penalty matches duals root (record { row = row; distance = distance_at t column; price = price })
    (sooner_path leaving (record { row = row; distance = distance_at t column; price = price }) penalty) w
searching-step grid penalty matches duals root reach leaving column row price s t w root_in partial now a next settled had
    price_is =
    let far = distance_at t column + (penalty - price) in
    let chosen : Bool → Path = λ b. cond b (record { distance = far; exit = Row row }) leaving in
    let holds = λ (b : Bool). IsSearching grid penalty matches duals root
    (record { row = row; distance = distance_at t column; price = price }) (chosen b) w in
    elim (cases_lt far leaving.distance) [
      | inl less ↦ subst holds (sym (lt-ltb far leaving.distance less))
          (searching-sooner grid penalty matches duals root reach leaving column row price s t w root_in partial now a next
          settled had price_is less)
      | inr more ↦ subst holds (sym (le-ltb far leaving.distance more))
          (searching-later grid penalty matches duals root reach leaving column row price s t w root_in partial now a next
          settled had price_is more)
    ]
