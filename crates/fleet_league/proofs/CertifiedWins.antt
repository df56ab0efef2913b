-- The seats of wins that their prices certify.
use Rattle.fleet_league.proofs.Common.{◌≡◌, ℕ, zero, suc, ◌+◌, ◌*◌, ◌<◌, ◌≤◌, Bool, true, false, cond, List, [], ◌∷◌, length, take, get_or, eqb, ltb-false, nat_lt, Option, Some, None, refl, sym, ap, subst, ◌∙◌, arith, length-append, map, position, find, is_some, ◌==◌, ◌||◌, All, Contains, IsSomeAnd, unwrap_or, option_map, cons_option, flat_map, filter, filter_map, position_or_len, range_with_len, AllByRecursion, IsDistinct, eqb-true, eq-eqb, ne_eqb, length-map, get_or-map, get_or_default, length-take-le, get_or-flat_map, fill_by_all, position-Some, fails_before_first, IsDistinct-head, IsDistinct-tail, suc-mul, Offer, Seat, Settings, Ride, Vehicle, price, RoadMap, BatchCopy, amount_ids, amount_of, has_amount, vehicle_ids, ride_ids, CertifiesOverCells, Table, IsTableOf, Among, among_from_contains, contains_from_among, among_map_back, GridCells, amounts_over, column_of, CertifiesPairing, element, not-found, pay_at, pays_by, seat_at, seats_by, solved-certified, Brief, Win, prices_by, won_rides, won_column, won_columns, price_list, AreSeatsOf, IsWonBatch}
use Rattle.batch_commit.specs.inner.Table.{cell_at as offer_at}
use Rattle.dual_check.specs.Cells.{cell_at}
use Rattle.hungarian.specs.inner.Costs.{cost_of, HasCosts}
use Rattle.hungarian.specs.Seats.{prices_by as amounts_by}
use Rattle.fleet_league.proofs.PricedRows.{cost-is}

-- pieces of one length
pub flat-length : {X A : Type 0} (f : X → List A) (m : ℕ) → ((x : X) → length (f x) ≡ m) → (xs : List X)
    → length (flat_map f xs) ≡ length xs * m
flat-length f m each [] = omega arith
flat-length f m each (x ∷ xs) =
    omega (arith, length-append (f x) (flat_map f xs), each x, flat-length f m each xs, suc-mul (length xs) m)

-- the cell of a ride and a vehicle has their price
pub price-cell : (roads : RoadMap) (settings : Settings) (time : ℕ) (vehicles : List Vehicle) (rides : List Ride) (r c : ℕ) (ride : Ride)
    (v : Vehicle) → r < length rides → c < length vehicles
    → cell_at (prices_by roads settings time vehicles rides) r c ≡ price roads settings (get_or vehicles c v) (get_or rides r ride) time
price-cell roads settings time vehicles rides r c ride v row_in column_in =
    let row : Ride → List (Option ℕ) = λ (x : Ride). map (λ (w : Vehicle). price roads settings w x time) vehicles in
    let wide : (x : Ride) → length (row x) ≡ length vehicles
    = λ x. length-map vehicles (λ (w : Vehicle). price roads settings w x time) in
    let before : length (flat_map row (take r rides)) ≡ r * length vehicles
    = flat-length row (length vehicles) wide (take r rides)
    ∙ ap (λ n. n * length vehicles) (length-take-le r rides (omega (arith, row_in))) in
    ap (λ n. get_or (flat_map row rides) (n + c) None) (sym before)
    ∙ get_or-flat_map row rides r c ride None row_in (omega (arith, column_in, wide (get_or rides r ride)))
    ∙ get_or-map (λ (w : Vehicle). price roads settings w (get_or rides r ride) time) vehicles c v None column_in

-- a win's row has its ride's id and its vehicle's place
pub row-id : (wins : List Win) (row : ℕ) (d : Win) → row < length wins → get_or (ride_ids (won_rides wins)) row 0 ≡ (get_or wins row d).ride.id
row-id wins row d low =
    get_or-map (λ (ride : Ride). ride.id) (won_rides wins) row d.ride 0 (omega (arith, low, length-map wins (λ (w : Win). w.ride)))
    ∙ ap (λ (ride : Ride). ride.id) (get_or-map (λ (w : Win). w.ride) wins row d d.ride low)

pub row-column : (vehicles : List Vehicle) (wins : List Win) (row : ℕ) (d : Win) → row < length wins
    → column_of (won_columns vehicles wins) row ≡ won_column vehicles (get_or wins row d)
row-column vehicles wins row d low = get_or-map (won_column vehicles) wins row d None low

-- a vehicle of the fleet has a place in it
pub record HasColumn (vehicles : List Vehicle) (win : Win) : Type 0 where
  pub column : ℕ
  pub is : won_column vehicles win ≡ Some column
  pub within : column < length vehicles
  pub vehicle_is : (d : Vehicle) → (get_or vehicles column d).id ≡ win.vehicle

pub has-column : (vehicles : List Vehicle) (win : Win) → Among win.vehicle (vehicle_ids vehicles) → HasColumn vehicles win
has-column vehicles win there = by_place (won_column vehicles win) refl
  where
    first-in : (vs : List Vehicle) (i : ℕ) → position (λ (v : Vehicle). v.id == win.vehicle) vs ≡ Some i → i < length vs
    first-in [] i is = absurd (cc is)
    first-in (v ∷ vs) i is = (position-Some (λ (w : Vehicle). w.id == win.vehicle) (v ∷ vs) i v is).0

    none : (vs : List Vehicle) → Among win.vehicle (vehicle_ids vs) → position (λ (v : Vehicle). v.id == win.vehicle) vs ≡ None → ⊥
    none vs among is =
        let (v, v_there, id_is) = among_map_back (λ (w : Vehicle). w.id) vs win.vehicle among in
        let (k, low, at) = contains_from_among vs v v_there in
        let last : length vs ≤ position_or_len (λ (w : Vehicle). w.id == win.vehicle) vs
        = past (position_or_len (λ (w : Vehicle). w.id == win.vehicle) vs) (length vs)
        (nat_lt (position_or_len (λ (w : Vehicle). w.id == win.vehicle) vs) (length vs)) refl is in
        let fails = fails_before_first (λ (w : Vehicle). w.id == win.vehicle) vs k v (omega (arith, low, last)) in
        cc (fails, eq-eqb (get_or vs k v).id win.vehicle (ap (λ (w : Vehicle). w.id) at ∙ id_is))
      where
        past : (n many : ℕ) (b : Bool) → nat_lt n many ≡ b → cond b (Some n) None ≡ None → many ≤ n
        past n many true below some = absurd (cc some)
        past n many false below some = ltb-false n many below

    by_place : (o : Option ℕ) → won_column vehicles win ≡ o → HasColumn vehicles win
    by_place None is = absurd (none vehicles there is)
    by_place (Some column) is = record {
      column = column;
      is = is;
      within = first-in vehicles column is;
      vehicle_is = λ d. eqb-true (get_or vehicles column d).id win.vehicle
          (position-Some (λ (w : Vehicle). w.id == win.vehicle) vehicles column d is).1;
    }

-- places whose items are all there
gathered-each : {A B : Type 0} (f : ℕ → Option A) (g : A → B) (h : ℕ → B) (a n : ℕ)
    → ((k : ℕ) → a ≤ k → k < a + n → IsSomeAnd (f k) (λ x. g x ≡ h k))
    → map g (filter_map f (range_with_len a n)) ≡ map h (range_with_len a n)
gathered-each f g h a zero each = refl
gathered-each {A} {B} f g h a (suc n) each =
    by_item (f a) (each a (omega arith) (omega arith))
    (gathered-each f g h (a + 1) n (λ k low high. each k (omega (arith, low)) (omega (arith, high))))
  where
    by_item : (o : Option A) → IsSomeAnd o (λ x. g x ≡ h a)
        → map g (filter_map f (range_with_len (a + 1) n)) ≡ map h (range_with_len (a + 1) n)
        → map g (cons_option o (filter_map f (range_with_len (a + 1) n))) ≡ h a ∷ map h (range_with_len (a + 1) n)
    by_item None is rest = absurd is
    by_item (Some x) is rest = λ i. is i ∷ rest i

-- filters by tests that agree
filter-same : (p q : ℕ → Bool) (ids : List ℕ) → AllByRecursion (λ id. p id ≡ q id) ids → filter p ids ≡ filter q ids
filter-same p q [] same = refl
filter-same p q (id ∷ ids) (first, rest) = λ i. cond (first i) (id ∷ filter-same p q ids rest i) (filter-same p q ids rest i)

filter_map-same : {A : Type 0} (f g : ℕ → Option A) (ids : List ℕ) → AllByRecursion (λ id. f id ≡ g id) ids → filter_map f ids ≡ filter_map g ids
filter_map-same f g [] same = refl
filter_map-same f g (id ∷ ids) (first, rest) = λ i. cons_option (first i) (filter_map-same f g ids rest i)

each-weaker : (P Q : ℕ → Type 0) → ((id : ℕ) → P id → Q id) → (ids : List ℕ) → AllByRecursion P ids → AllByRecursion Q ids
each-weaker P Q weaker [] each = tt
each-weaker P Q weaker (id ∷ ids) (first, rest) = (weaker id first, each-weaker P Q weaker ids rest)

-- an amount above 0 is paid
pay-some : (id amount : ℕ) → 1 ≤ amount → pay_at id amount ≡ Some (id, amount)
pay-some id amount some = ap (λ b. cond b None (Some (id, amount))) (ne_eqb amount 0 (λ none. absurd (omega (arith, some, none))))

-- items of different ids, in the order of ids, and above 0, by the amounts of the ids
pays-of : (ids : List ℕ) (pays : List (ℕ × ℕ)) → IsDistinct eqb ids → amount_ids pays ≡ filter (has_amount pays) ids
    → All (λ (item : ℕ × ℕ). 1 ≤ item.1) pays → filter_map (λ id. pay_at id (amount_of pays id)) ids ≡ pays
pays-of [] [] distinct paying paid = refl
pays-of [] (item ∷ pays) distinct paying paid = absurd (cc paying)
pays-of (id ∷ ids) pays distinct paying paid =
    by_test pays (has_amount pays id) refl paying paid (IsDistinct-head eqb id ids distinct)
    (λ others later later_paid. pays-of ids others (IsDistinct-tail eqb id ids distinct) later later_paid)
  where
    by_test : (all : List (ℕ × ℕ)) (b : Bool) → has_amount all id ≡ b → amount_ids all ≡ cond b (id ∷ filter (has_amount all) ids) (filter (has_amount all) ids)
        → All (λ (item : ℕ × ℕ). 1 ≤ item.1) all → AllByRecursion (λ q. eqb id q ≡ false) ids
        → ((others : List (ℕ × ℕ)) → amount_ids others ≡ filter (has_amount others) ids → All (λ (item : ℕ × ℕ). 1 ≤ item.1) others
        → filter_map (λ q. pay_at q (amount_of others q)) ids ≡ others)
        → cons_option (pay_at id (amount_of all id)) (filter_map (λ q. pay_at q (amount_of all q)) ids) ≡ all
    by_test all false is order above differ later =
        let none : amount_of all id ≡ 0
        = ap (λ o. unwrap_or (option_map (λ (item : ℕ × ℕ). item.1) o) 0) (not-found (λ (item : ℕ × ℕ). item.0 == id) all is) in
        ap (λ n. cons_option (pay_at id n) (filter_map (λ q. pay_at q (amount_of all q)) ids)) none ∙ later all order above
    by_test [] true is order above differ later = absurd (cc order)
    by_test (item ∷ others) true is order above differ later =
        let head : item.0 ≡ id = cc order in
        let rest : amount_ids others ≡ filter (has_amount (item ∷ others)) ids = cc order in
        let other : AllByRecursion (λ q. eqb item.0 q ≡ false) ids = subst (λ n. AllByRecursion (λ q. eqb n q ≡ false) ids) (sym head) differ in
        let first : amount_of (item ∷ others) id ≡ item.1
        = ap (λ b. unwrap_or (option_map (λ (i : ℕ × ℕ). i.1) (cond b (Some item) (find (λ (i : ℕ × ℕ). i.0 == id) others))) 0) (eq-eqb item.0 id head) in
        let paid_one : 1 ≤ item.1 = above 0 item (omega arith) in
        let is_item : pay_at id (amount_of (item ∷ others) id) ≡ Some item
        = ap (pay_at id) first ∙ pay-some id item.1 paid_one ∙ ap (λ n. Some (n, item.1)) (sym head) in
        let amounts : filter_map (λ q. pay_at q (amount_of (item ∷ others) q)) ids ≡ filter_map (λ q. pay_at q (amount_of others q)) ids
        = filter_map-same (λ q. pay_at q (amount_of (item ∷ others) q)) (λ q. pay_at q (amount_of others q)) ids
        (each-weaker (λ q. eqb item.0 q ≡ false) (λ q. pay_at q (amount_of (item ∷ others) q) ≡ pay_at q (amount_of others q))
        (λ q fails. ap (λ b. pay_at q (unwrap_or (option_map (λ (i : ℕ × ℕ). i.1) (cond b (Some item) (find (λ (i : ℕ × ℕ). i.0 == q) others))) 0)) fails)
        ids other) in
        let orders : filter (has_amount (item ∷ others)) ids ≡ filter (has_amount others) ids
        = filter-same (has_amount (item ∷ others)) (has_amount others) ids
        (each-weaker (λ q. eqb item.0 q ≡ false) (λ q. has_amount (item ∷ others) q ≡ has_amount others q)
        (λ q fails. ap (λ b. b || has_amount others q) fails) ids other) in
        (λ i. cons_option (is_item i) (amounts i))
        ∙ ap (λ items. item ∷ items) (later others (rest ∙ orders) (λ k d low. above (suc k) d (omega (arith, low))))

-- items by places are items by elements
filter-range : {A : Type 0} (f g : ℕ → Option A) (xs : List ℕ) (a : ℕ) → ((k : ℕ) → k < length xs → f (a + k) ≡ g (get_or xs k 0))
    → filter_map f (range_with_len a (length xs)) ≡ filter_map g xs
filter-range f g [] a same = refl
filter-range {A} f g (x ∷ xs) a same =
    let none : a + 0 ≡ a = omega arith in
    let first : f a ≡ g x = subst (λ n. f n ≡ g x) none (same 0 (omega arith)) in
    let rest : filter_map f (range_with_len (a + 1) (length xs)) ≡ filter_map g xs
    = filter-range f g xs (a + 1) (λ k low.
    let next : a + suc k ≡ (a + 1) + k = omega arith in
    subst (λ n. f n ≡ g (get_or xs k 0)) next (same (suc k) (omega (arith, low)))) in
    λ i. cons_option (first i) (rest i)

-- pays are those of their amounts
pays-are : (vehicles : List Vehicle) (pays : List (ℕ × ℕ)) → IsDistinct eqb (vehicle_ids vehicles)
    → amount_ids pays ≡ filter (has_amount pays) (vehicle_ids vehicles) → All (λ (item : ℕ × ℕ). 1 ≤ item.1) pays
    → pays ≡ pays_by (vehicle_ids vehicles) (amounts_over (vehicle_ids vehicles) pays) (length vehicles)
pays-are vehicles pays distinct paying paid =
    let ids = vehicle_ids vehicles in
    let f : ℕ → Option (ℕ × ℕ) = λ column. pay_at (get_or ids column 0) (get_or (amounts_over ids pays) column 0) in
    sym (pays-of ids pays distinct paying paid)
    ∙ sym (filter-range f (λ id. pay_at id (amount_of pays id)) ids 0 (λ k low.
    let same : 0 + k ≡ k = omega arith in
    ap f same ∙ ap (pay_at (get_or ids k 0)) (get_or-map (amount_of pays) ids k 0 0 low)))
    ∙ ap (λ n. filter_map f (range_with_len 0 n)) (length-map vehicles (λ (v : Vehicle). v.id))

-- a win's request and price, and its request and vehicle
abbrev priced : Win → ℕ × ℕ
priced win = (win.ride.id, win.price)

abbrev placed : Win → ℕ × ℕ
placed win = (win.ride.id, win.vehicle)

-- prices are those of their rows
prices-are : (wins : List Win) → price_list wins ≡ amounts_by (ride_ids (won_rides wins)) (map (λ (w : Win). w.price) wins) (length (won_rides wins))
prices-are wins =
    let row : ℕ → ℕ × ℕ = λ k. (get_or (ride_ids (won_rides wins)) k 0, get_or (map (λ (w : Win). w.price) wins) k 0) in
    fill_by_all row (map priced wins) (length (won_rides wins)) (0, 0)
    (length-map wins priced ∙ sym (length-map wins (λ (w : Win). w.ride)))
    (λ k below.
    let low : k < length wins = omega (arith, below, length-map wins (λ (w : Win). w.ride)) in
    let w : Win = element wins k low in
    let at : ℕ → ℕ → ℕ × ℕ = λ a b. (a, b) in
    get_or-map priced wins k w (0, 0) low
    ∙ (λ i. at (sym (row-id wins k w low) i) (sym (get_or-map (λ (x : Win). x.price) wins k w 0 low) i)))

-- what is said of a value more weakly
some-weaker : {A : Type 0} (P Q : A → Type 0) (o : Option A) → ((x : A) → P x → Q x) → IsSomeAnd o P → IsSomeAnd o Q
some-weaker P Q None weaker some = absurd some
some-weaker P Q (Some x) weaker some = weaker x some

-- a seat at an offer's places
abbrev seat_with : ℕ → ℕ → Offer → Seat
seat_with request vehicle offer = record { request = request; vehicle = vehicle; i = offer.i; j = offer.j }

-- a table's batch of certified wins
pub record IsPriced (roads : RoadMap) (batch : BatchCopy) (table : Table) (brief : Brief) : Type 0 where
  pub of_batch : IsTableOf roads batch table
  pub won : IsWonBatch roads batch brief
  pub requests_differ : IsDistinct eqb (ride_ids batch.requests)
  pub vehicles_differ : IsDistinct eqb (vehicle_ids batch.vehicles)

module _ (roads : RoadMap) (batch : BatchCopy) (table : Table) (brief : Brief) (is : IsPriced roads batch table brief) where
  abbrev wins : List Win
  wins = brief.wins

  abbrev grid : GridCells
  grid = prices_by roads batch.settings batch.time batch.vehicles batch.requests

  certified_grid : CertifiesPairing grid batch.settings.penalty (won_columns batch.vehicles wins) (map (λ (w : Win). w.price) wins)
      (amounts_over (vehicle_ids batch.vehicles) brief.pays)
  certified_grid =
      subst (λ rides. CertifiesPairing (prices_by roads batch.settings batch.time batch.vehicles rides) batch.settings.penalty
      (won_columns batch.vehicles wins) (map (λ (w : Win). w.price) wins) (amounts_over (vehicle_ids batch.vehicles) brief.pays))
      (sym is.won.requests_are) is.won.certified.certified

  -- the prices are the costs in the table
  has_costs : HasCosts table grid
  has_costs = record {
    rows_are = sym is.of_batch.fits.rows_are;
    columns_are = sym is.of_batch.fits.columns_are;
    cells_are = λ row column row_in column_in.
        let low : row < length batch.requests = omega (arith, row_in, is.of_batch.fits.rows_are) in
        let in_fleet : column < length batch.vehicles = omega (arith, column_in, is.of_batch.fits.columns_are) in
        let ride = element batch.requests row low in
        let v = element batch.vehicles column in_fleet in
        price-cell roads batch.settings batch.time batch.vehicles batch.requests row column ride v low in_fleet
        ∙ sym (cost-is roads batch table is.of_batch row column ride v low in_fleet);
  }

  pub certified-wins : (seats : List Seat) (prices pays : List (ℕ × ℕ))
      → seats ≡ seats_by table (ride_ids (won_rides wins)) (vehicle_ids batch.vehicles) (won_columns batch.vehicles wins) (length wins)
      → prices ≡ price_list wins → pays ≡ brief.pays → CertifiesOverCells batch table seats prices pays
  certified-wins seats prices pays seats_are prices_is pays_is =
      solved-certified batch table grid (won_rides wins) batch.vehicles (won_columns batch.vehicles wins) (map (λ (w : Win). w.price) wins)
      (amounts_over (vehicle_ids batch.vehicles) brief.pays) batch.settings.penalty seats prices pays is.of_batch.fits
      is.requests_differ is.vehicles_differ has_costs refl certified_grid (sym is.won.requests_are) refl
      (seats_are ∙ ap (seats_by table (ride_ids (won_rides wins)) (vehicle_ids batch.vehicles) (won_columns batch.vehicles wins))
      (sym (length-map wins (λ (w : Win). w.ride))))
      (prices_is ∙ prices-are wins)
      (pays_is ∙ pays-are batch.vehicles brief.pays is.vehicles_differ is.won.certified.paying is.won.certified.paid)

  -- the seat of a win
  seat-is : (k : ℕ) (w : Win) → k < length wins → get_or wins k w ≡ w
      → IsSomeAnd (seat_at table (ride_ids (won_rides wins)) (vehicle_ids batch.vehicles) k (column_of (won_columns batch.vehicles wins) k))
      (λ (seat : Seat). (seat.request ≡ w.ride.id) × (seat.vehicle ≡ w.vehicle))
  seat-is k w low at =
      let has = has-column batch.vehicles w
      (among_from_contains (vehicle_ids batch.vehicles) w.vehicle
      (subst (λ (x : Win). Contains (vehicle_ids batch.vehicles) x.vehicle) at (is.won.certified.vehicles_there k w low))) in
      let column_is : column_of (won_columns batch.vehicles wins) k ≡ Some has.column
      = row-column batch.vehicles wins k w low ∙ ap (won_column batch.vehicles) at ∙ has.is in
      let row_in : k < table.rows = omega (
        arith,
        low,
        is.of_batch.fits.rows_are,
        ap (λ rides. length rides) is.won.requests_are,
        length-map wins (λ (x : Win). x.ride),
      ) in
      let column_in : has.column < table.columns = omega (arith, has.within, is.of_batch.fits.columns_are) in
      let offered : is_some (cost_of (offer_at table k has.column)) ≡ true
      = ap is_some (sym (has_costs.cells_are k has.column row_in column_in)) ∙ certified_grid.paired.in_cells k has.column column_is in
      let vehicle_at : get_or (vehicle_ids batch.vehicles) has.column 0 ≡ w.vehicle
      = get_or-map (λ (v : Vehicle). v.id) batch.vehicles has.column (element batch.vehicles has.column has.within) 0 has.within
      ∙ has.vehicle_is (element batch.vehicles has.column has.within) in
      let request_at : get_or (ride_ids (won_rides wins)) k 0 ≡ w.ride.id = row-id wins k w low ∙ ap (λ (x : Win). x.ride.id) at in
      subst (λ o. IsSomeAnd (seat_at table (ride_ids (won_rides wins)) (vehicle_ids batch.vehicles) k o)
      (λ (seat : Seat). (seat.request ≡ w.ride.id) × (seat.vehicle ≡ w.vehicle))) (sym column_is)
      (by_offer (offer_at table k has.column) offered (get_or (ride_ids (won_rides wins)) k 0) (get_or (vehicle_ids batch.vehicles) has.column 0)
      request_at vehicle_at)
    where
      by_offer : (o : Option Offer) → is_some (cost_of o) ≡ true → (request vehicle : ℕ) → request ≡ w.ride.id → vehicle ≡ w.vehicle
          → IsSomeAnd (option_map (λ (offer : Offer). seat_with request vehicle offer) o)
          (λ (seat : Seat). (seat.request ≡ w.ride.id) × (seat.vehicle ≡ w.vehicle))
      by_offer None some request vehicle r v = absurd (cc some)
      by_offer (Some offer) some request vehicle r v = (r, v)

  pub seats-are : (seats : List Seat)
      → seats ≡ seats_by table (ride_ids (won_rides wins)) (vehicle_ids batch.vehicles) (won_columns batch.vehicles wins) (length wins)
      → AreSeatsOf wins seats
  seats-are seats seats_is =
      let f : ℕ → Option Seat
      = λ k. seat_at table (ride_ids (won_rides wins)) (vehicle_ids batch.vehicles) k (column_of (won_columns batch.vehicles wins) k) in
      let g : Seat → ℕ × ℕ = λ (seat : Seat). (seat.request, seat.vehicle) in
      let h : ℕ → ℕ × ℕ = λ k. get_or (map placed wins) k (0, 0) in
      ap (map g) seats_is
      ∙ gathered-each f g h 0 (length wins) (λ k _ high.
      let low : k < length wins = omega (arith, high) in
      let d : Win = element wins k low in
      let w : Win = get_or wins k d in
      let pair : ℕ → ℕ → ℕ × ℕ = λ a b. (a, b) in
      some-weaker (λ (seat : Seat). (seat.request ≡ w.ride.id) × (seat.vehicle ≡ w.vehicle)) (λ (seat : Seat). g seat ≡ h k) (f k)
      (λ seat (request, vehicle). (λ i. pair (request i) (vehicle i)) ∙ sym (get_or-map placed wins k d (0, 0) low))
      (seat-is k w low (get_or_default wins k w d low)))
      ∙ sym (fill_by_all h (map placed wins) (length wins) (0, 0) (length-map wins placed) (λ k low. refl))
