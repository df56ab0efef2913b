-- The rows of a batch's table as rows of prices.
use Rattle.fleet_league.proofs.Common.{◌≡◌, ℕ, suc, ◌+◌, ◌*◌, ◌<◌, List, [], ◌∷◌, ◌++◌, length, get_or, Option, Some, None, refl, sym, ap, subst, ◌∙◌, arith, append-nil, mul_comm, map, MatchOption, flat_map, range_with_len, length-map, get_or-map, flat_map-append, length-flat_map, flat_map-map, fill_by_all, length-range_with_len, length-map-range_with_len, map-range_with_len_more, Offer, Ride, Vehicle, price, RoadMap, BatchCopy, Table, cell_at, IsLeastOffer, IsTableOf, each-range, sum_by-times, element, cost_in, cost_row}

-- pieces by places are pieces by elements
flat-range : {X A : Type 0} (f : ℕ → List A) (g : X → List A) (xs : List X) (a : ℕ)
    → ((k : ℕ) (d : X) → k < length xs → f (a + k) ≡ g (get_or xs k d))
    → flat_map f (range_with_len a (length xs)) ≡ flat_map g xs
flat-range f g [] a same = refl
flat-range {X} {A} f g (x ∷ xs) a same =
    let none : a + 0 ≡ a = omega arith in
    let first : f a ≡ g x = subst (λ n. f n ≡ g x) none (same 0 x (omega arith)) in
    let rest : flat_map f (range_with_len (a + 1) (length xs)) ≡ flat_map g xs
    = flat-range f g xs (a + 1) (λ k d low.
    let next : a + suc k ≡ (a + 1) + k = omega arith in
    subst (λ n. f n ≡ g (get_or xs k d)) next (same (suc k) d (omega (arith, low)))) in
    λ i. first i ++ rest i

-- the pieces of one more place
pub flat-more : {A : Type 0} (f : ℕ → List A) (n : ℕ) → flat_map f (range_with_len 0 (n + 1)) ≡ flat_map f (range_with_len 0 n) ++ f n
flat-more {A} f n =
    let same : 0 + n ≡ n = omega arith in
    sym (flat_map-map (λ (x : List A). x) f (range_with_len 0 (n + 1)))
    ∙ ap (flat_map (λ (x : List A). x)) (map-range_with_len_more f 0 n n same)
    ∙ flat_map-append (λ (x : List A). x) (map f (range_with_len 0 n)) (f n ∷ [])
    ∙ (λ i. flat_map-map (λ (x : List A). x) f (range_with_len 0 n) i ++ append-nil (f n) i)

-- the rows of costs have a cost for each cell
pub length-rows : (table : Table) (rows columns : ℕ)
    → length (flat_map (λ row. cost_row table row columns) (range_with_len 0 rows)) ≡ rows * columns
length-rows table rows columns =
    length-flat_map (λ row. cost_row table row columns) (range_with_len 0 rows)
    ∙ sum_by-times (λ row. length (cost_row table row columns)) columns (range_with_len 0 rows)
    (each-range (λ row. length (cost_row table row columns) ≡ columns) 0 rows
    (λ row _ _. length-map-range_with_len (λ column. cost_in (cell_at table row column)) 0 columns))
    ∙ ap (λ n. columns * n) (length-range_with_len 0 rows)
    ∙ mul_comm columns rows

module _ (roads : RoadMap) (batch : BatchCopy) (table : Table) (of_batch : IsTableOf roads batch table) where
  -- the cost in a cell is the pair's price
  pub cost-is : (r c : ℕ) (ride : Ride) (v : Vehicle) → r < length batch.requests → c < length batch.vehicles
      → cost_in (cell_at table r c)
      ≡ price roads batch.settings (get_or batch.vehicles c v) (get_or batch.requests r ride) batch.time
  cost-is r c ride v row_in column_in = by_cell (cell_at table r c) (of_batch.cells_are r c ride v row_in column_in)
    where
      by_cell : (cell : Option Offer)
          → MatchOption cell (price roads batch.settings (get_or batch.vehicles c v) (get_or batch.requests r ride) batch.time ≡ None)
          (IsLeastOffer roads batch (get_or batch.requests r ride) (get_or batch.vehicles c v))
          → cost_in cell ≡ price roads batch.settings (get_or batch.vehicles c v) (get_or batch.requests r ride) batch.time
      by_cell None none = sym none
      by_cell (Some offer) least = sym least.least

  -- the costs in a row are the prices of its ride
  row-is : (r : ℕ) (ride : Ride) → r < length batch.requests
      → cost_row table r (length batch.vehicles)
      ≡ map (λ (v : Vehicle). price roads batch.settings v (get_or batch.requests r ride) batch.time) batch.vehicles
  row-is r ride row_in =
      sym (fill_by_all (λ c. cost_in (cell_at table r c))
      (map (λ (v : Vehicle). price roads batch.settings v (get_or batch.requests r ride) batch.time) batch.vehicles)
      (length batch.vehicles) None
      (length-map batch.vehicles (λ (v : Vehicle). price roads batch.settings v (get_or batch.requests r ride) batch.time))
      (λ c column_in.
      let v = element batch.vehicles c column_in in
      get_or-map (λ (w : Vehicle). price roads batch.settings w (get_or batch.requests r ride) batch.time) batch.vehicles c v None column_in
      ∙ sym (cost-is r c ride v row_in column_in)))

  -- the costs row by row are the prices
  pub rows-are : flat_map (λ r. cost_row table r (length batch.vehicles)) (range_with_len 0 (length batch.requests))
      ≡ flat_map (λ (ride : Ride). map (λ (v : Vehicle). price roads batch.settings v ride batch.time) batch.vehicles) batch.requests
  rows-are =
      flat-range (λ r. cost_row table r (length batch.vehicles))
      (λ (ride : Ride). map (λ (v : Vehicle). price roads batch.settings v ride batch.time) batch.vehicles) batch.requests 0
      (λ r ride row_in.
      let same : 0 + r ≡ r = omega arith in
      ap (λ n. cost_row table n (length batch.vehicles)) same ∙ row-is r ride row_in)
