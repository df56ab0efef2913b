-- The rows of a table of rides that belong to wins of them.
use Rattle.fleet_league.proofs.Common.{◌≡◌, ℕ, ◌+◌, ◌*◌, ◌<◌, List, [], ◌∷◌, ◌++◌, length, take, get_or, Option, Some, None, refl, sym, ap, subst, ◌∙◌, arith, append-nil, nat_eq, ◌==◌, position, unwrap_or, All, Contains, MatchOption, flat_map, position_or_len, IsDistinct, eq-eqb, lt-ltb, ne_eqb, flat_map-append, length-map, length-take-le, get_or-map, get_or_default, take_more, get_or-flat_map, get_or-map-range_with_len, length-map-range_with_len, position_or_len_is, Offer, Ride, Vehicle, offer_of, price, RoadMap, BatchCopy, State, ride_ids, Table, cell_at, IsLeastOffer, IsTableOf, element, same-place, Win, won_batch, won_rides, offer_row, place_of, quoting_batch}
use Rattle.fleet_league.proofs.CertifiedWins.{flat-length}

-- a ride's place among rides of different ids
pub place-of-ride : (rides : List Ride) (ride : Ride) → IsDistinct nat_eq (ride_ids rides) → Contains rides ride
    → (place_of rides ride.id < length rides) × ((d : Ride) → get_or rides (place_of rides ride.id) d ≡ ride)
place-of-ride rides ride differ (k, low, at) =
    let many : length (ride_ids rides) ≡ length rides = length-map rides (λ (r : Ride). r.id) in
    let id_at : get_or (ride_ids rides) k 0 ≡ ride.id
    = get_or-map (λ (r : Ride). r.id) rides k ride 0 low ∙ ap (λ (r : Ride). r.id) at in
    let first : position_or_len (λ (r : Ride). r.id == ride.id) rides ≡ k
    = position_or_len_is (λ (r : Ride). r.id == ride.id) rides k ride (omega (arith, low))
    (λ j before. ne_eqb (get_or rides j ride).id ride.id (λ same.
    let j_in : j < length rides = omega (arith, before, low) in
    omega (
      arith,
      before,
      same-place (ride_ids rides) j k differ (omega (arith, j_in, many)) (omega (arith, low, many))
          (get_or-map (λ (r : Ride). r.id) rides j ride 0 j_in ∙ same ∙ sym id_at),
    )))
    (λ _. eq-eqb (get_or rides k ride).id ride.id (ap (λ (r : Ride). r.id) at)) in
    let found : position (λ (r : Ride). r.id == ride.id) rides ≡ Some k = rw (first, lt-ltb k (length rides) low) refl in
    let place : place_of rides ride.id ≡ k = ap (λ o. unwrap_or o 0) found in (
      omega (arith, place, low),
      λ d. ap (λ n. get_or rides n d) place ∙ get_or_default rides k d ride low ∙ at,
    )

-- a cell of a pair is one in each batch of the same settings and time
cell-alike : (roads : RoadMap) (a b : BatchCopy) → a.settings ≡ b.settings → a.time ≡ b.time → (ride : Ride) (v : Vehicle) (cell : Option Offer)
    → MatchOption cell (price roads a.settings v ride a.time ≡ None) (IsLeastOffer roads a ride v)
    → MatchOption cell (price roads b.settings v ride b.time ≡ None) (IsLeastOffer roads b ride v)
cell-alike roads a b settings time ride v None none =
    (λ i. price roads (sym settings i) v ride (sym time i)) ∙ none
cell-alike roads a b settings time ride v (Some offer) is = record {
  offered = (λ i. offer_of roads (sym settings i) v ride (sym time i) offer.i offer.j) ∙ is.offered;
  least = (λ i. price roads (sym settings i) v ride (sym time i)) ∙ is.least;
}

-- the table of wins' rides is that of the batch of the wins, which has another number and desk
pub table-of-batch : (roads : RoadMap) (s : State) (wins : List Win) (table : Table) → IsTableOf roads (quoting_batch s (won_rides wins)) table
    → IsTableOf roads (won_batch s wins) table
table-of-batch roads s wins table is = record {
  fits = record { rows_are = is.fits.rows_are; columns_are = is.fits.columns_are };
  cells_are = λ r c ride v row_in column_in.
      cell-alike roads (quoting_batch s (won_rides wins)) (won_batch s wins) refl refl (get_or (won_rides wins) r ride) (get_or s.vehicles c v)
      (cell_at table r c) (is.cells_are r c ride v row_in column_in);
}

-- the offers of wins' rides, row by row
abbrev pub won_offers : Table → List Ride → ℕ → List Win → List (Option Offer)
won_offers table rides count wins = flat_map (λ (win : Win). offer_row table (place_of rides win.ride.id) count) wins

pub length-won : (table : Table) (rides : List Ride) (count : ℕ) (wins : List Win)
    → length (won_offers table rides count wins) ≡ length wins * count
length-won table rides count wins =
    flat-length (λ (win : Win). offer_row table (place_of rides win.ride.id) count) count
    (λ win. length-map-range_with_len (λ column. cell_at table (place_of rides win.ride.id) column) 0 count) wins

-- with one win more
pub won-more : (table : Table) (rides : List Ride) (count : ℕ) (wins : List Win) (i : ℕ) (d : Win) → i < length wins
    → won_offers table rides count (take (i + 1) wins)
    ≡ won_offers table rides count (take i wins) ++ offer_row table (place_of rides (get_or wins i d).ride.id) count
won-more table rides count wins i d low =
    let row : Win → List (Option Offer) = λ (win : Win). offer_row table (place_of rides win.ride.id) count in
    ap (flat_map row) (take_more wins i d low)
    ∙ flat_map-append row (take i wins) (get_or wins i d ∷ [])
    ∙ ap (λ cells. flat_map row (take i wins) ++ cells) (append-nil (row (get_or wins i d)))

-- a win's ride is one of the rides
pub row-within : (rides : List Ride) (wins : List Win) (i : ℕ) (d : Win) → IsDistinct nat_eq (ride_ids rides)
    → All (Contains rides) (won_rides wins) → i < length wins → place_of rides (get_or wins i d).ride.id < length rides
row-within rides wins i d differ of_them low =
    let many : length (won_rides wins) ≡ length wins = length-map wins (λ (w : Win). w.ride) in
    let is : get_or (won_rides wins) i d.ride ≡ (get_or wins i d).ride = get_or-map (λ (w : Win). w.ride) wins i d d.ride low in
    (place-of-ride rides (get_or wins i d).ride differ (subst (Contains rides) is (of_them i d.ride (omega (arith, low, many))))).0

-- a cell of them is the cell of its ride
won-cell : (table : Table) (rides : List Ride) (count : ℕ) (wins : List Win) (r c : ℕ) (d : Win) → r < length wins → c < count
    → get_or (won_offers table rides count wins) (r * count + c) None ≡ cell_at table (place_of rides (get_or wins r d).ride.id) c
won-cell table rides count wins r c d row_in column_in =
    let row : Win → List (Option Offer) = λ (win : Win). offer_row table (place_of rides win.ride.id) count in
    let wide : (win : Win) → length (row win) ≡ count
    = λ win. length-map-range_with_len (λ column. cell_at table (place_of rides win.ride.id) column) 0 count in
    let before : length (flat_map row (take r wins)) ≡ r * count
    = length-won table rides count (take r wins) ∙ ap (λ n. n * count) (length-take-le r wins (omega (arith, row_in))) in
    ap (λ n. get_or (flat_map row wins) (n + c) None) (sym before)
    ∙ get_or-flat_map row wins r c d None row_in (omega (arith, column_in, wide (get_or wins r d)))
    ∙ get_or-map-range_with_len (λ column. cell_at table (place_of rides (get_or wins r d).ride.id) column) 0 count c c None column_in (omega arith)

-- they are the cells of the table of the wins' rides
pub table-of-won : (roads : RoadMap) (s : State) (table : Table) (rides : List Ride) (wins : List Win) (own : Table)
    → IsTableOf roads (quoting_batch s rides) table → IsDistinct nat_eq (ride_ids rides) → All (Contains rides) (won_rides wins)
    → own.rows ≡ length wins → own.columns ≡ table.columns → own.cells ≡ won_offers table rides table.columns wins
    → IsTableOf roads (quoting_batch s (won_rides wins)) own
table-of-won roads s table rides wins own is differ of_them rows columns cells =
    let many : length (won_rides wins) ≡ length wins = length-map wins (λ (w : Win). w.ride) in
    record {
      fits = record { rows_are = rows ∙ sym many; columns_are = columns ∙ is.fits.columns_are };
      cells_are = λ r c ride v row_in column_in.
          let win_in : r < length wins = omega (arith, row_in, many) in
          let win : Win = element wins r win_in in
          let won : Ride = get_or (won_rides wins) r ride in
          let won_is : (get_or wins r win).ride ≡ won = sym (get_or-map (λ (w : Win). w.ride) wins r win ride win_in) in
          let (place_in, there) = place-of-ride rides won differ (of_them r ride row_in) in
          let cell : cell_at own r c ≡ cell_at table (place_of rides won.id) c
          = (λ i. get_or (cells i) (r * columns i + c) None)
          ∙ won-cell table rides table.columns wins r c win win_in (omega (arith, column_in, is.fits.columns_are))
          ∙ ap (λ (q : Ride). cell_at table (place_of rides q.id) c) won_is in
          subst (λ (o : Option Offer). MatchOption o (price roads s.settings (get_or s.vehicles c v) won s.clock ≡ None)
          (IsLeastOffer roads (quoting_batch s (won_rides wins)) won (get_or s.vehicles c v))) (sym cell)
          (cell-alike roads (quoting_batch s rides) (quoting_batch s (won_rides wins)) refl refl won (get_or s.vehicles c v)
          (cell_at table (place_of rides won.id) c)
          (subst (λ (q : Ride). MatchOption (cell_at table (place_of rides won.id) c)
          (price roads s.settings (get_or s.vehicles c v) q s.clock ≡ None)
          (IsLeastOffer roads (quoting_batch s rides) q (get_or s.vehicles c v))) (there ride)
          (is.cells_are (place_of rides won.id) c ride v place_in column_in)));
    }
