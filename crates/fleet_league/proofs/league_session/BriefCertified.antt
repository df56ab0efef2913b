-- A company's part of a round is certified over its own prices.
use Rattle.fleet_league.proofs.Common.{◌≡◌, ℕ, zero, suc, ◌+◌, ◌<◌, ◌≤◌, ◌⊎◌, inl, inr, Bool, true, false, cond, List, [], ◌∷◌, length, get_or, eqb, refl, sym, ◌∙◌, ap, subst, arith, ◌-◌, ◌==◌, map, All, Contains, Option, Some, None, IfSome, option_map, option_and_then, filter, filter_map, range_with_len, sum_by, zip, IsDistinct, cases_lt, eq-eqb, ne_eqb, eqb-true, false≢true, length-map, get_or-map, All-from_recursion, Contains-get_or, fill_by_all, get_or-range_with_len, length-range_with_len, slice_get-get_or, Ride, Vehicle, price, vehicle_ids, State, ride_ids, Among, among_filter_back, among_from_contains, among_map_back, all_of, any-default, distinct-filter_by, Paired, GridCells, amount_alone, amounts_over, column_of, pairing_cost, price_at, row_cost, CertifiesPairing, element, same-place, row-of-column, pay_at, each-gathered, gathered-in_order, pay-cases, pay-amount, Win, RoundColumn, won_rides, won_column, won_columns, IsCertifiedOver, commit_cost, prices_of, is_chosen, chosen_columns, rows_into, IsPart, KeepsColumns, StandsFrom, brief_of, column_in, own_pay_of, paid_columns, row_of, rows_of, win_of}
use Rattle.std.proofs.lemmas.Slice.Zip.{get_or-zip}
use Rattle.model_laws.proofs.history_laws.Raised.{length-filter-le}
use Rattle.dual_check.specs.Cells.{cell_at}
use Rattle.dual_check.specs.inner.Orders.{item_of, StandsInOrder}
use Rattle.dual_check.proofs.ItemOrders.{map-map}
use Rattle.fleet_league.specs.declared.league_session.rows.RoundRow.{RoundRow}
use Rattle.fleet_league.proofs.CertifiedWins.{has-column, price-cell}
use Rattle.fleet_league.proofs.Restricted.{restricted-certifies, restricted-cost}
use Rattle.fleet_league.proofs.league_session.Windows.{filter-window, gathered-by_place, gathered-kept, gathered-same, gathered-window}

-- a company's vehicles stand in one block of a union's columns
pub record IsBlock (columns : List RoundColumn) (company before : ℕ) (ids : List ℕ) : Type 0 where
  pub within : before + length ids ≤ length columns
  pub company_is : (k : ℕ) (d : RoundColumn) → k < length ids → (get_or columns (before + k) d).company ≡ company
  pub vehicle_is : (k : ℕ) (d : RoundColumn) → k < length ids → (get_or columns (before + k) d).vehicle ≡ get_or ids k 0
  pub others : (j : ℕ) (d : RoundColumn) → j < length columns → (j < before) ⊎ (before + length ids ≤ j)
      → (get_or columns j d).company ≡ company → ⊥

-- a round of a union, in which a company's prices have a block
pub record IsShare (s : State) (columns : List RoundColumn) (company before : ℕ) (rides : List Ride) (round : Paired)
    (grid : GridCells) (penalty : ℕ) : Type 0 where
  pub block : IsBlock columns company before (vehicle_ids s.vehicles)
  pub certified : CertifiesPairing grid penalty round.columns round.prices round.pays
  pub wide : grid.columns ≡ length columns
  pub tall : grid.rows ≡ length rides
  pub stands : StandsFrom before (prices_of s rides) grid
  pub differ : IsDistinct eqb (vehicle_ids s.vehicles)
  pub penalty_is : penalty ≤ s.settings.penalty

-- wins are of some of these rides, each at most once
pub record AreOfRides (rides : List Ride) (wins : List Win) : Type 0 where
  pub of_them : All (Contains rides) (won_rides wins)
  pub differ : IsDistinct eqb (ride_ids (won_rides wins))
  pub few : length wins ≤ length rides

-- pairs of as many
length-pairs : {A B : Type 0} (xs : List A) (ys : List B) → length xs ≡ length ys → length (zip xs ys) ≡ length ys
length-pairs [] ys same = same
length-pairs (x ∷ xs) [] same = refl
length-pairs (x ∷ xs) (y ∷ ys) same =
    let rest = length-pairs xs ys (omega (arith, same)) in
    omega (arith, rest)

no_ride : Ride
no_ride = record { id = 0; from = 0; to = 0; seats = 0; chairs = 0; latest = 0; longest = 0; picked = None }

pub no_column : RoundColumn
no_column = record { company = 0; vehicle = 0; version = 0 }

pay-of : (P : ℕ × ℕ → Type 0) (vehicle amount : ℕ) → (1 ≤ amount → P (vehicle, amount)) → IfSome (pay_at vehicle amount) P
pay-of P vehicle amount h = elim (pay-cases vehicle amount) [
  | inl none ↦ subst (λ o. IfSome o P) (sym none.1) tt
  | inr some ↦ subst (λ o. IfSome o P) (sym some.1) (h some.0)
]

module _ (s : State) (columns : List RoundColumn) (company before : ℕ) (rides : List Ride) (round : Paired) (grid : GridCells)
    (penalty : ℕ) (share : IsShare s columns company before rides round grid penalty) where
  abbrev ids : List ℕ
  ids = vehicle_ids s.vehicles

  abbrev many : ℕ
  many = length ids

  abbrev chosen : List Bool
  chosen = map (λ (column : RoundColumn). column.company == company) columns

  abbrev into : ℕ → Bool
  into row = is_chosen chosen (column_of round.columns row)

  abbrev rows : List ℕ
  rows = rows_into chosen round.columns

  as_many : many ≡ length s.vehicles
  as_many = length-map s.vehicles (λ (v : Vehicle). v.id)

  pub pairing_each : length round.columns ≡ length rides
  pairing_each = share.certified.paired.one_each ∙ share.tall

  prices_each : length round.prices ≡ length rides
  prices_each = share.certified.prices_each ∙ share.tall

  pays_each : length round.pays ≡ length columns
  pays_each = share.certified.pays_each ∙ share.wide

  chosen_each : length chosen ≡ length columns
  chosen_each = length-map columns (λ (column : RoundColumn). column.company == company)

  -- whether a column is chosen
  pub chosen-at : (j : ℕ) → j < length columns → get_or chosen j false ≡ ((get_or columns j no_column).company == company)
  chosen-at j low = get_or-map (λ (column : RoundColumn). column.company == company) columns j no_column false low

  -- a column of the company is in its block
  in-block : (j : ℕ) → j < length columns → (get_or columns j no_column).company ≡ company → (before ≤ j) × (j < before + many)
  in-block j low own = elim (cases_lt j before) [
    | inl left ↦ absurd (share.block.others j no_column low (inl left) own)
    | inr from ↦ elim (cases_lt j (before + many)) [
      | inl below ↦ (from, below)
      | inr right ↦ absurd (share.block.others j no_column low (inr right) own)
    ]
  ]

  abbrev place_in : Option ℕ → ℕ
  place_in None = 0
  place_in (Some j) = j - before

  abbrev win_at : ℕ → Win
  win_at row = record {
    ride = get_or rides row no_ride;
    vehicle = get_or ids (place_in (column_of round.columns row)) 0;
    price = price_at round.prices row;
  }

  -- where a row is paired into the company's columns
  record IsPlaced (row : ℕ) : Type 0 where
    place : ℕ
    low : place < many
    column_is : column_of round.columns row ≡ Some (before + place)
    placed : place_in (column_of round.columns row) ≡ place

  placed-row : (row : ℕ) → into row ≡ true → IsPlaced row
  placed-row row chosen_one = by_column (column_of round.columns row) refl
    where
      by_column : (o : Option ℕ) → column_of round.columns row ≡ o → IsPlaced row
      by_column None is = absurd (false≢true (sym (ap (is_chosen chosen) is) ∙ chosen_one))
      by_column (Some j) is =
          let low : j < length columns = omega (arith, share.certified.paired.in_grid row j is, share.wide) in
          let test : ((get_or columns j no_column).company == company) ≡ true
          = sym (chosen-at j low) ∙ sym (ap (is_chosen chosen) is) ∙ chosen_one in
          let (from, below) = in-block j low (eqb-true (get_or columns j no_column).company company test) in
          let back : j ≡ before + (j - before) = omega (arith, from) in
          record {
            place = j - before;
            low = omega (arith, from, below);
            column_is = is ∙ ap (λ k. Some k) back;
            placed = ap place_in is;
          }

  -- what a row gives the company
  row-gives : (row : ℕ) → win_of company (row_of columns ((get_or rides row no_ride, column_of round.columns row), price_at round.prices row))
      ≡ cond (into row) (Some (win_at row)) None
  row-gives row = by_column (column_of round.columns row) refl
    where
      by_column : (o : Option ℕ) → column_of round.columns row ≡ o
          → win_of company (row_of columns ((get_or rides row no_ride, o), price_at round.prices row))
          ≡ cond (is_chosen chosen o)
          (Some (record { ride = get_or rides row no_ride; vehicle = get_or ids (place_in o) 0; price = price_at round.prices row })) None
      by_column None is = refl
      by_column (Some j) is =
          let low : j < length columns = omega (arith, share.certified.paired.in_grid row j is, share.wide) in
          let column : RoundColumn = get_or columns j no_column in
          ap (λ o. option_map (λ (c : RoundColumn). win_with c.vehicle) (option_and_then (column_in company) o)) (slice_get-get_or columns j no_column low)
          ∙ by_test (column.company == company) refl
          ∙ ap (λ b. cond b (Some (win_with (get_or ids (j - before) 0))) None) (sym (chosen-at j low))
        where
          win_with : ℕ → Win
          win_with vehicle = record { ride = get_or rides row no_ride; vehicle = vehicle; price = price_at round.prices row }

          by_test : (b : Bool) → ((get_or columns j no_column).company == company) ≡ b
              → option_map (λ (c : RoundColumn). win_with c.vehicle) (cond b (Some (get_or columns j no_column)) None)
              ≡ cond b (Some (win_with (get_or ids (j - before) 0))) None
          by_test false test = refl
          by_test true test =
              let low : j < length columns = omega (arith, share.certified.paired.in_grid row j is, share.wide) in
              let (from, below) = in-block j low (eqb-true (get_or columns j no_column).company company test) in
              let back : before + (j - before) ≡ j = omega (arith, from) in
              let same : (get_or columns j no_column).vehicle ≡ get_or ids (j - before) 0
              = ap (λ k. (get_or columns k no_column).vehicle) (sym back)
              ∙ share.block.vehicle_is (j - before) no_column (omega (arith, from, below)) in
              ap (λ vehicle. Some (win_with vehicle)) same

  -- the company's wins, by the rows that are paired into its columns
  wins-are : filter_map (win_of company) (rows_of columns rides round) ≡ map win_at rows
  wins-are =
      gathered-by_place (win_of company) gives all 0 at_place
      ∙ ap (λ n. filter_map gives (range_with_len 0 n)) all_each
      ∙ gathered-kept gives into win_at 0 (length round.columns) (λ row _ _. row-gives row)
    where
      pairs : List (Ride × Option ℕ)
      pairs = zip rides round.columns

      gives : ℕ → Option Win
      gives row = win_of company (row_of columns ((get_or rides row no_ride, column_of round.columns row), price_at round.prices row))

      all : List RoundRow
      all = rows_of columns rides round

      pairs_each : length pairs ≡ length round.columns
      pairs_each = length-pairs rides round.columns (sym pairing_each)

      zipped_each : length (zip pairs round.prices) ≡ length round.prices
      zipped_each = length-pairs pairs round.prices (pairs_each ∙ pairing_each ∙ sym prices_each)

      all_each : length all ≡ length round.columns
      all_each = length-map (zip pairs round.prices) (row_of columns) ∙ zipped_each ∙ prices_each ∙ sym pairing_each

      at_place : (k : ℕ) (d : RoundRow) → k < length all → gives (0 + k) ≡ win_of company (get_or all k d)
      at_place k d low =
          let start : 0 + k ≡ k = omega arith in
          let in_rides : k < length rides = omega (arith, low, all_each, pairing_each) in
          let in_pairing : k < length round.columns = omega (arith, low, all_each) in
          let in_prices : k < length round.prices = omega (arith, in_rides, prices_each) in
          let in_pairs : k < length pairs = omega (arith, in_pairing, pairs_each) in
          let in_zipped : k < length (zip pairs round.prices) = omega (arith, in_prices, zipped_each) in
          ap gives start
          ∙ ap (λ (row : (Ride × Option ℕ) × ℕ). win_of company (row_of columns row)) (sym (
          get_or-zip pairs round.prices k ((no_ride, None), 0) in_pairs in_prices
          ∙ ap (λ (pair : Ride × Option ℕ). (pair, price_at round.prices k)) (get_or-zip rides round.columns k (no_ride, None) in_rides in_pairing)))
          ∙ ap (win_of company) (sym (get_or-map (row_of columns) (zip pairs round.prices) k ((no_ride, None), 0) d in_zipped))

  -- the company's columns
  columns-are : chosen_columns chosen ≡ range_with_len before many
  columns-are =
      ap (λ n. filter (λ j. get_or chosen j false) (range_with_len 0 n)) chosen_each
      ∙ filter-window (λ j. get_or chosen j false) before many (length columns) share.block.within
      (λ j low high.
      let within : j < length columns = omega (arith, high, share.block.within) in
      let back : before + (j - before) ≡ j = omega (arith, low) in
      chosen-at j within ∙ eq-eqb (get_or columns j no_column).company company
      (ap (λ k. (get_or columns k no_column).company) (sym back) ∙ share.block.company_is (j - before) no_column (omega (arith, low, high))))
      (λ j low out. chosen-at j low ∙ ne_eqb (get_or columns j no_column).company company (share.block.others j no_column low out))

  -- a row among those of the company is paired into its columns
  row-there : (r : ℕ) → r < length rows → IsPlaced (get_or rows r 0)
  row-there r low =
      placed-row (get_or rows r 0)
      (among_filter_back into (range_with_len 0 (length round.columns)) (get_or rows r 0)
      (among_from_contains rows (get_or rows r 0) (Contains-get_or rows r 0 low))).1

  row-low : (r : ℕ) → r < length rows → get_or rows r 0 < length rides
  row-low r low = by_column (column_of round.columns (get_or rows r 0)) refl
    where
      placed : IsPlaced (get_or rows r 0)
      placed = row-there r low

      by_column : (o : Option ℕ) → column_of round.columns (get_or rows r 0) ≡ o → get_or rows r 0 < length rides
      by_column None is = absurd (cc (is, placed.column_is))
      by_column (Some j) is = omega (arith, row-of-column round.columns (get_or rows r 0) j is, pairing_each)

  abbrev wins : List Win
  wins = map win_at rows

  wins_each : length wins ≡ length rows
  wins_each = length-map rows win_at

  rides-are : won_rides wins ≡ map (λ row. get_or rides row no_ride) rows
  rides-are = map-map (λ (win : Win). win.ride) win_at rows

  -- the vehicle of a win is that of its column
  column-is : (r : ℕ) → (low : r < length rows) → column_of (won_columns s.vehicles wins) r ≡ Some (row-there r low).place
  column-is r low =
      let row : ℕ = get_or rows r 0 in
      let placed = row-there r low in
      let there : Contains ids (win_at row).vehicle = subst (λ place. Contains ids (get_or ids place 0)) (sym placed.placed)
      (Contains-get_or ids placed.place 0 placed.low) in
      let has = has-column s.vehicles (win_at row) (among_from_contains ids (win_at row).vehicle there) in
      let within : has.column < many = omega (arith, has.within, as_many) in
      let v : Vehicle = element s.vehicles has.column has.within in
      let same : has.column ≡ placed.place = same-place ids has.column placed.place share.differ within placed.low
      (get_or-map (λ (w : Vehicle). w.id) s.vehicles has.column v 0 has.within ∙ has.vehicle_is v
      ∙ ap (λ place. get_or ids place 0) placed.placed) in
      get_or-map (won_column s.vehicles) wins r (win_at 0) None (omega (arith, low, wins_each))
      ∙ ap (won_column s.vehicles) (get_or-map win_at rows r 0 (win_at 0) low)
      ∙ has.is ∙ ap (λ k. Some k) same

  keeps : KeepsColumns round.columns rows (chosen_columns chosen) (won_columns s.vehicles wins)
  keeps = record {
    one_each = length-map wins (won_column s.vehicles) ∙ wins_each;
    same_column = λ r low.
        let placed = row-there r low in (
          placed.place,
          omega (arith, placed.low, ap (λ (xs : List ℕ). length xs) columns-are, length-range_with_len before many),
          column-is r low,
          placed.column_is ∙ ap (λ k. Some k) (sym (ap (λ xs. get_or xs placed.place 0) columns-are
              ∙ get_or-range_with_len before many placed.place 0 placed.low)),
        );
  }

  part : IsPart grid rows (chosen_columns chosen) (prices_of s (won_rides wins))
  part = record {
    rows_each = length-map wins (λ (win : Win). win.ride) ∙ wins_each;
    columns_each = sym as_many ∙ sym (length-range_with_len before many) ∙ sym (ap (λ (xs : List ℕ). length xs) columns-are);
    cells_same = λ r k low k_low.
        let k_in : k < many = omega (arith, k_low, ap (λ (xs : List ℕ). length xs) columns-are, length-range_with_len before many) in
        let k_vehicle : k < length s.vehicles = omega (arith, k_in, as_many) in
        let v : Vehicle = element s.vehicles k k_vehicle in
        let row : ℕ = get_or rows r 0 in
        let row_in : row < length rides = row-low r low in
        let r_in : r < length (won_rides wins) = omega (arith, low, wins_each, length-map wins (λ (win : Win). win.ride)) in
        let ride_is : get_or (won_rides wins) r no_ride ≡ get_or rides row no_ride
        = ap (λ xs. get_or xs r no_ride) rides-are ∙ get_or-map (λ i. get_or rides i no_ride) rows r 0 no_ride low in
        price-cell s.roads s.settings s.clock s.vehicles (won_rides wins) r k no_ride v r_in k_vehicle
        ∙ ap (λ (ride : Ride). price_at_vehicle v k ride) ride_is
        ∙ sym (price-cell s.roads s.settings s.clock s.vehicles rides row k no_ride v row_in k_vehicle)
        ∙ sym (share.stands.cells_same row k row_in k_vehicle)
        ∙ ap (cell_at grid row) (sym (ap (λ xs. get_or xs k 0) columns-are ∙ get_or-range_with_len before many k 0 k_in));
  }
    where
      price_at_vehicle : Vehicle → ℕ → Ride → Option ℕ
      price_at_vehicle v k ride = price s.roads s.settings (get_or s.vehicles k v) ride s.clock

  abbrev pay_at_place : ℕ → Option (ℕ × ℕ)
  pay_at_place k = pay_at (get_or ids k 0) (price_at round.pays (before + k))

  abbrev pays : List (ℕ × ℕ)
  pays = filter_map pay_at_place (range_with_len 0 many)

  -- what the company's vehicles pay
  pays-are : filter_map (own_pay_of company) (paid_columns columns round) ≡ pays
  pays-are =
      gathered-by_place (own_pay_of company) gives (zip columns round.pays) 0 at_place
      ∙ ap (λ n. filter_map gives (range_with_len 0 n)) (length-pairs columns round.pays (sym pays_each) ∙ pays_each)
      ∙ gathered-window gives before many (length columns) share.block.within others
      ∙ gathered-same gives pay_at_place before 0 many own
    where
      gives : ℕ → Option (ℕ × ℕ)
      gives j = own_pay_of company (get_or columns j no_column, price_at round.pays j)

      at_place : (k : ℕ) (d : RoundColumn × ℕ) → k < length (zip columns round.pays)
          → gives (0 + k) ≡ own_pay_of company (get_or (zip columns round.pays) k d)
      at_place k d low =
          let start : 0 + k ≡ k = omega arith in
          let in_pays : k < length round.pays = omega (arith, low, length-pairs columns round.pays (sym pays_each)) in
          let in_columns : k < length columns = omega (arith, in_pays, pays_each) in
          ap gives start
          ∙ ap (own_pay_of company) (sym (get_or-zip columns round.pays k (no_column, 0) in_columns in_pays))
          ∙ ap (own_pay_of company) (any-default (zip columns round.pays) k (no_column, 0) d low)

      others : (j : ℕ) → j < length columns → (j < before) ⊎ (before + many ≤ j) → gives j ≡ None
      others j low out =
          ap (λ b. option_and_then (λ (column : RoundColumn). pay_at column.vehicle (price_at round.pays j))
          (cond b (Some (get_or columns j no_column)) None))
          (ne_eqb (get_or columns j no_column).company company (share.block.others j no_column low out))

      own : (k : ℕ) → k < many → gives (before + k) ≡ pay_at_place (0 + k)
      own k low =
          let start : k ≡ 0 + k = omega arith in
          ap (λ b. option_and_then (λ (column : RoundColumn). pay_at column.vehicle (price_at round.pays (before + k)))
          (cond b (Some (get_or columns (before + k) no_column)) None))
          (eq-eqb (get_or columns (before + k) no_column).company company (share.block.company_is k no_column low))
          ∙ ap (λ vehicle. pay_at vehicle (price_at round.pays (before + k))) (share.block.vehicle_is k no_column low)
          ∙ ap pay_at_place start

  pays-ordered : StandsInOrder (λ (item : ℕ × ℕ). item.0) ids pays
      × (map (item_of (λ (item : ℕ × ℕ). item.0) pays) ids ≡ map pay_at_place (range_with_len 0 many))
  pays-ordered =
      gathered-in_order (λ (item : ℕ × ℕ). item.0) pay_at_place ids share.differ
      (λ k low. pay-of (λ (item : ℕ × ℕ). item.0 ≡ get_or ids k 0) (get_or ids k 0) (price_at round.pays (before + k)) (λ _. refl))

  pays-paid : All (λ (item : ℕ × ℕ). 1 ≤ item.1) pays
  pays-paid =
      All-from_recursion (λ (item : ℕ × ℕ). 1 ≤ item.1) pays
      (each-gathered (λ (item : ℕ × ℕ). 1 ≤ item.1) pay_at_place 0 many
      (λ k _ _. pay-of (λ (item : ℕ × ℕ). 1 ≤ item.1) (get_or ids k 0) (price_at round.pays (before + k)) (λ some. some)))

  pays-over : amounts_over ids pays ≡ map (price_at round.pays) (chosen_columns chosen)
  pays-over =
      sym (map-map amount_alone (item_of (λ (item : ℕ × ℕ). item.0) pays) ids)
      ∙ ap (map amount_alone) pays-ordered.1
      ∙ map-map amount_alone pay_at_place (range_with_len 0 many)
      ∙ shifted 0 many (λ k. pay-amount (get_or ids k 0) (price_at round.pays (before + k)) ∙ ap (price_at round.pays) (moved k))
      ∙ ap (λ k. map (price_at round.pays) (range_with_len k many)) from_zero
      ∙ ap (map (price_at round.pays)) (sym columns-are)
    where
      from_zero : 0 + before ≡ before
      from_zero = omega arith

      moved : (k : ℕ) → before + k ≡ k + before
      moved k = omega arith

      shifted : (a n : ℕ) → ((k : ℕ) → amount_alone (pay_at_place k) ≡ price_at round.pays (k + before))
          → map (λ k. amount_alone (pay_at_place k)) (range_with_len a n) ≡ map (price_at round.pays) (range_with_len (a + before) n)
      shifted a zero same = refl
      shifted a (suc n) same =
          let next : (a + 1) + before ≡ (a + before) + 1 = omega arith in
          λ i. same a i ∷ (shifted (a + 1) n same ∙ ap (λ k. map (price_at round.pays) (range_with_len k n)) next) i

  vehicles-there : All (λ (win : Win). Contains ids win.vehicle) wins
  vehicles-there = all_of (λ (win : Win). Contains ids win.vehicle) wins (λ win there.
      let (row, row_there, is) = among_map_back win_at rows win there in
      let placed = placed-row row (among_filter_back into (range_with_len 0 (length round.columns)) row row_there).1 in
      subst (λ (w : Win). Contains ids w.vehicle) is
      (subst (λ place. Contains ids (get_or ids place 0)) (sym placed.placed) (Contains-get_or ids placed.place 0 placed.low)))

  own-certified : CertifiesPairing (prices_of s (won_rides wins)) s.settings.penalty (won_columns s.vehicles wins)
      (map (λ (win : Win). win.price) wins) (amounts_over ids pays)
  own-certified =
      restricted-certifies grid penalty round.columns round.prices round.pays chosen (prices_of s (won_rides wins)) s.settings.penalty
      (won_columns s.vehicles wins) (map (λ (win : Win). win.price) wins) (amounts_over ids pays)
      share.certified (chosen_each ∙ sym share.wide) part share.penalty_is (record {
        columns_kept = keeps;
        prices_kept = map-map (λ (win : Win). win.price) win_at rows;
        pays_kept = pays-over;
      })

  -- the company's part is certified over its own prices
  pub brief-certified : IsCertifiedOver s (brief_of company (rows_of columns rides round) (paid_columns columns round))
  brief-certified =
      subst (λ (won : List Win). IsCertifiedOver s (record { wins = won; pays = filter_map (own_pay_of company) (paid_columns columns round) }))
      (sym wins-are)
      (subst (λ (paid : List (ℕ × ℕ)). IsCertifiedOver s (record { wins = wins; pays = paid })) (sym pays-are) (record {
        vehicles_there = vehicles-there;
        paying = pays-ordered.0;
        paid = pays-paid;
        certified = own-certified;
      }))

  -- the company's wins are some of the rides, each at most once
  pub brief-rides : IsDistinct eqb (ride_ids rides) → AreOfRides rides (filter_map (win_of company) (rows_of columns rides round))
  brief-rides rides_differ =
      let ride_at : ℕ → Ride = λ row. get_or rides row no_ride in
      let id_at : ℕ → ℕ = λ row. (get_or rides row no_ride).id in
      let places : List ℕ = range_with_len 0 (length round.columns) in
      let ids_each : length (ride_ids rides) ≡ length round.columns = length-map rides (λ (r : Ride). r.id) ∙ sym pairing_each in
      let ids_are : ride_ids rides ≡ map id_at places = fill_by_all id_at (ride_ids rides) (length round.columns) 0 ids_each (λ k low.
      get_or-map (λ (r : Ride). r.id) rides k no_ride 0 (omega (arith, low, pairing_each))) in
      subst (AreOfRides rides) (sym wins-are) (record {
        of_them = all_of (Contains rides) (won_rides wins) (λ ride there.
            let (row, row_there, is) = among_map_back ride_at rows ride (subst (Among ride) rides-are there) in
            let placed = placed-row row (among_filter_back into places row row_there).1 in
            let low : row < length rides = omega (arith, row-of-column round.columns row (before + placed.place) placed.column_is, pairing_each) in
            subst (Contains rides) is (Contains-get_or rides row no_ride low));
        differ = subst (IsDistinct eqb) (sym (ap ride_ids rides-are ∙ map-map (λ (r : Ride). r.id) ride_at rows))
            (distinct-filter_by id_at into places (subst (IsDistinct eqb) ids_are rides_differ));
        few = omega (arith, wins_each, length-filter-le into places, length-range_with_len 0 (length round.columns), pairing_each);
      })

  -- as many are won as rows are paired into the company's columns
  pub won-each : length (filter_map (win_of company) (rows_of columns rides round)) ≡ length rows
  won-each = ap (λ (won : List Win). length won) wins-are ∙ wins_each

  -- the commit of the company's part costs what its rows cost in the union
  pub brief-cost : commit_cost s (brief_of company (rows_of columns rides round) (paid_columns columns round))
      ≡ sum_by (λ row. row_cost grid penalty row (column_of round.columns row)) rows
  brief-cost =
      ap (λ (won : List Win). pairing_cost (prices_of s (won_rides won)) s.settings.penalty (won_columns s.vehicles won)) wins-are
      ∙ restricted-cost grid (prices_of s (won_rides wins)) penalty s.settings.penalty round.columns (won_columns s.vehicles wins) rows
      (chosen_columns chosen) part keeps
