-- A table with the seats' own offers in their cells.
use Rattle.log_audit.proofs.Common.{◌≡◌, ◌≢◌, ℕ, zero, suc, ◌+◌, ◌*◌, ◌<◌, ◌≤◌, inl, inr, List, [], ◌∷◌, length, get_or, refl, sym, ◌∙◌, ap, subst, arith, map, slice_set, All, Option, Some, None, IsSomeAnd, MatchOption, nat_eq, IsDistinct, cases_eq, get_or-set_same, get_or-set_other, get_or_default, get_or-map, length-map, All-from_recursion, same_from_place, same_Some, Offer, Seat, Ride, Vehicle, RoadMap, offer_of, price, ride_ids, BatchCopy, Certifies, IsSeating, find_ride, find_vehicle, seat_cost, seat_offer, vehicle_ids, price-le-cost, IsSeatAt, Table, cell_at, IsLeastOffer, IsTableOf, element, find-id, same-place, Placed, IsPlaced, ArePlaced}
use Rattle.model_laws.proofs.Costs.{offer_plan}
use Rattle.log_audit.proofs.DearSeats.{pair_price, seats-at-price}

-- the request and the vehicle of a seat that has its places
pub record OfSeat (roads : RoadMap) (batch : BatchCopy) (seat : Seat) (placed : Placed) : Type 0 where
  pub ride : Ride
  pub vehicle : Vehicle
  pub ride_at : (d : Ride) → get_or batch.requests placed.request d ≡ ride
  pub vehicle_at : (d : Vehicle) → get_or batch.vehicles placed.vehicle d ≡ vehicle
  pub ride_is : find_ride batch.requests seat.request ≡ Some ride
  pub vehicle_is : find_vehicle batch.vehicles seat.vehicle ≡ Some vehicle
  pub offered : offer_of roads batch.settings vehicle ride batch.time seat.i seat.j ≡ Some placed.offer

pub of-seat : (roads : RoadMap) (batch : BatchCopy) (seat : Seat) (placed : Placed) → IsDistinct nat_eq (ride_ids batch.requests)
    → IsDistinct nat_eq (vehicle_ids batch.vehicles) → IsPlaced roads batch seat placed → OfSeat roads batch seat placed
of-seat roads batch seat placed requests_differ vehicles_differ is =
    let d = element batch.requests placed.request is.request_in in
    let e = element batch.vehicles placed.vehicle is.vehicle_in in
    record {
      ride = get_or batch.requests placed.request d;
      vehicle = get_or batch.vehicles placed.vehicle e;
      ride_at = λ other. get_or_default batch.requests placed.request other d is.request_in;
      vehicle_at = λ other. get_or_default batch.vehicles placed.vehicle other e is.vehicle_in;
      ride_is = find-id (λ (r : Ride). r.id) batch.requests placed.request seat.request d requests_differ is.request_in (is.request_is d);
      vehicle_is = find-id (λ (v : Vehicle). v.id) batch.vehicles placed.vehicle seat.vehicle e vehicles_differ is.vehicle_in (is.vehicle_is e);
      offered = is.offered d e;
    }

-- what it costs
pub cost-of-seat : (roads : RoadMap) (batch : BatchCopy) (seat : Seat) (placed : Placed) → OfSeat roads batch seat placed
    → (seat_offer roads batch seat ≡ Some placed.offer) × (seat_cost roads batch seat ≡ placed.offer.cost)
cost-of-seat roads batch seat placed h = (rw (h.ride_is, h.vehicle_is, h.offered) refl, rw (h.ride_is, h.vehicle_is, h.offered) refl)

-- the cell of its pair, where there is one, costs what the pair is priced at
record CellFacts (roads : RoadMap) (batch : BatchCopy) (seat : Seat) (placed : Placed) (least : Offer) : Type 0 where
  is_price : pair_price roads batch seat ≡ least.cost
  no_dearer : least.cost ≤ placed.offer.cost
  priced : (d : Ride) (e : Vehicle) → price roads batch.settings (get_or batch.vehicles placed.vehicle e) (get_or batch.requests placed.request d) batch.time
      ≡ Some least.cost

cell-facts : (roads : RoadMap) (batch : BatchCopy) (table : Table) (seat : Seat) (placed : Placed) (least : Offer)
    → IsTableOf roads batch table → IsPlaced roads batch seat placed → OfSeat roads batch seat placed
    → cell_at table placed.request placed.vehicle ≡ Some least → CellFacts roads batch seat placed least
cell-facts roads batch table seat placed least of_map is h cell =
    let at_pair : (d : Ride) (e : Vehicle)
    → price roads batch.settings (get_or batch.vehicles placed.vehicle e) (get_or batch.requests placed.request d) batch.time ≡ Some least.cost
    = λ d e. (subst (λ o. MatchOption o
    (price roads batch.settings (get_or batch.vehicles placed.vehicle e) (get_or batch.requests placed.request d) batch.time ≡ None)
    (IsLeastOffer roads batch (get_or batch.requests placed.request d) (get_or batch.vehicles placed.vehicle e)))
    cell (of_map.cells_are placed.request placed.vehicle d e is.request_in is.vehicle_in)).least in
    let here : price roads batch.settings h.vehicle h.ride batch.time ≡ Some least.cost
    = sym (λ k. price roads batch.settings (h.vehicle_at h.vehicle k) (h.ride_at h.ride k) batch.time) ∙ at_pair h.ride h.vehicle in
    let (cost, price_is, below) = price-le-cost roads batch.settings h.vehicle h.ride batch.time seat.i seat.j placed.offer h.offered in
    let same : least.cost ≡ cost = same_Some least.cost cost (sym here ∙ price_is) in
    record {
      is_price = by_price h least.cost here;
      no_dearer = omega (arith, same, below);
      priced = at_pair;
    }
  where
    by_price : (h : OfSeat roads batch seat placed) (cost : ℕ) → price roads batch.settings h.vehicle h.ride batch.time ≡ Some cost
        → pair_price roads batch seat ≡ cost
    by_price h cost here = rw (h.ride_is, h.vehicle_is, here) refl

-- a pair that has an offer has a cell
pub has-cell : (roads : RoadMap) (batch : BatchCopy) (table : Table) (seat : Seat) (placed : Placed)
    → IsTableOf roads batch table → IsPlaced roads batch seat placed → OfSeat roads batch seat placed
    → cell_at table placed.request placed.vehicle ≡ None → ⊥
has-cell roads batch table seat placed of_map is h cell =
    let none : price roads batch.settings (get_or batch.vehicles placed.vehicle h.vehicle) (get_or batch.requests placed.request h.ride) batch.time ≡ None
    = subst (λ o. MatchOption o
    (price roads batch.settings (get_or batch.vehicles placed.vehicle h.vehicle) (get_or batch.requests placed.request h.ride) batch.time ≡ None)
    (IsLeastOffer roads batch (get_or batch.requests placed.request h.ride) (get_or batch.vehicles placed.vehicle h.vehicle)))
    cell (of_map.cells_are placed.request placed.vehicle h.ride h.vehicle is.request_in is.vehicle_in) in
    let here : price roads batch.settings h.vehicle h.ride batch.time ≡ None
    = sym (λ k. price roads batch.settings (h.vehicle_at h.vehicle k) (h.ride_at h.ride k) batch.time) ∙ none in
    let (cost, price_is, below) = price-le-cost roads batch.settings h.vehicle h.ride batch.time seat.i seat.j placed.offer h.offered in
    let never : None ≡ Some cost = sym here ∙ price_is in (cc never)

-- the seats so far stand in their cells
pub record OwnsSoFar (roads : RoadMap) (batch : BatchCopy) (table : Table) (seats : List Seat) (placed : List Placed) (k : ℕ) : Type 0 where
  pub of_map : IsTableOf roads batch table
  pub stand : (j : ℕ) (seat : Seat) (one : Placed) → j < k
      → IsSeatAt batch table (get_or seats j seat) (get_or placed j one).request (get_or placed j one).vehicle

-- what is known of the seats of a seating
pub record Premises (roads : RoadMap) (batch : BatchCopy) (seats : List Seat) (placed : List Placed) : Type 0 where
  pub requests_differ : IsDistinct nat_eq (ride_ids batch.requests)
  pub vehicles_differ : IsDistinct nat_eq (vehicle_ids batch.vehicles)
  pub seating : IsSeating roads batch seats
  pub placed_all : ArePlaced roads batch seats placed

pub own-none : (roads : RoadMap) (batch : BatchCopy) (table : Table) (seats : List Seat) (placed : List Placed) → IsTableOf roads batch table
    → OwnsSoFar roads batch table seats placed 0
own-none roads batch table seats placed of_map = record { of_map = of_map; stand = λ j seat one low. absurd (omega (arith, low)) }

-- a cell with an offer is one of the table's
cell-inside : (cells : List (Option Offer)) (k : ℕ) (least : Offer) → get_or cells k None ≡ Some least → k < length cells
cell-inside [] k least is = absurd (cc is)
cell-inside (cell ∷ cells) zero least is = omega arith
cell-inside (cell ∷ cells) (suc k) least is = omega (arith, cell-inside cells k least is)

-- the table with one more own offer
abbrev pub with_own : Table → Placed → Table
with_own table one = record table { cells = slice_set table.cells (one.request * table.columns + one.vehicle) (Some one.offer) }

pub own-more : (roads : RoadMap) (batch : BatchCopy) (table : Table) (seats : List Seat) (placed : List Placed) (k : ℕ) (one : Placed) (least : Offer)
    → Premises roads batch seats placed → OwnsSoFar roads batch table seats placed k → k < length seats → ((d : Placed) → get_or placed k d ≡ one)
    → cell_at table one.request one.vehicle ≡ Some least → one.offer.cost ≤ least.cost
    → OwnsSoFar roads batch (with_own table one) seats placed (k + 1)
own-more roads batch table seats placed k one least p now low one_is cell cheap =
    let seat = get_or seats k (element seats k low) in
    let is : IsPlaced roads batch seat one
    = subst (IsPlaced roads batch seat) (one_is one) (p.placed_all.each k (element seats k low) one low) in
    let h = of-seat roads batch seat one p.requests_differ p.vehicles_differ is in
    let facts = cell-facts roads batch table seat one least now.of_map is h cell in
    let same_cost : one.offer.cost ≡ least.cost = omega (arith, facts.no_dearer, cheap) in
    let plan = offer_plan roads batch.settings h.vehicle h.ride batch.time seat.i seat.j one.offer h.offered in
    let i_is : one.offer.i ≡ seat.i = ap (λ (o : Offer). o.i) plan.plan.offer_is in
    let j_is : one.offer.j ≡ seat.j = ap (λ (o : Offer). o.j) plan.plan.offer_is in
    let place = one.request * table.columns + one.vehicle in
    let inside : place < length table.cells = cell-inside table.cells place least cell in
    let columns_is : table.columns ≡ length batch.vehicles = now.of_map.fits.columns_are in
    let column_in : one.vehicle < table.columns = omega (arith, is.vehicle_in, columns_is) in
    let own : cell_at (with_own table one) one.request one.vehicle ≡ Some one.offer = get_or-set_same table.cells place (Some one.offer) None inside in
    let kept : (r c : ℕ) → (r ≡ one.request → c ≡ one.vehicle → ⊥) → c < table.columns
    → cell_at (with_own table one) r c ≡ cell_at table r c
    = λ r c apart c_in. get_or-set_other table.cells place (r * table.columns + c) (Some one.offer) None
    (λ same. let (rows, columns) = same_from_place r c one.request one.vehicle table.columns c_in column_in same in apart rows columns) in
    record {
      of_map = record {
        fits = record { rows_are = now.of_map.fits.rows_are; columns_are = now.of_map.fits.columns_are };
        cells_are = λ r c d e r_in c_in. elim (cases_eq r one.request) [
          | inl same_row ↦ elim (cases_eq c one.vehicle) [
            | inl same_column ↦
                subst (λ o. MatchOption o
                (price roads batch.settings (get_or batch.vehicles c e) (get_or batch.requests r d) batch.time ≡ None)
                (IsLeastOffer roads batch (get_or batch.requests r d) (get_or batch.vehicles c e)))
                (sym ((λ i. cell_at (with_own table one) (same_row i) (same_column i)) ∙ own))
                (record {
                  offered = (λ i. offer_of roads batch.settings (get_or batch.vehicles (same_column i) e) (get_or batch.requests (same_row i) d)
                      batch.time (i_is i) (j_is i)) ∙ is.offered d e;
                  least = (λ i. price roads batch.settings (get_or batch.vehicles (same_column i) e) (get_or batch.requests (same_row i) d) batch.time)
                      ∙ facts.priced d e ∙ ap Some (sym same_cost);
                })
            | inr other ↦ from_old r c d e r_in c_in (kept r c (λ _ same. other same) (omega (arith, c_in, columns_is)))
          ]
          | inr other ↦ from_old r c d e r_in c_in (kept r c (λ same _. other same) (omega (arith, c_in, columns_is)))
        ];
      };
      stand = λ j s o below. elim (cases_eq j k) [
        | inl same ↦ subst (λ n. IsSeatAt batch (with_own table one) (get_or seats n s) (get_or placed n o).request (get_or placed n o).vehicle) (sym same)
            (subst (λ x. IsSeatAt batch (with_own table one) x (get_or placed k o).request (get_or placed k o).vehicle)
            (sym (get_or_default seats k s (element seats k low) low))
            (subst (λ (x : Placed). IsSeatAt batch (with_own table one) seat x.request x.vehicle) (sym (one_is o)) (record {
              request_in = is.request_in;
              vehicle_in = is.vehicle_in;
              request_is = is.request_is;
              vehicle_is = is.vehicle_is;
              places_are = subst (λ c. IsSomeAnd c (λ (offer : Offer). (offer.i ≡ seat.i) × (offer.j ≡ seat.j))) (sym own) (i_is, j_is);
            })))
        | inr differs ↦
            let old = now.stand j s o (omega (arith, below, differs)) in
            let other : (get_or placed j o).vehicle ≢ one.vehicle = apart-vehicles j s o (omega (arith, below, differs)) differs in
            record {
              request_in = old.request_in;
              vehicle_in = old.vehicle_in;
              request_is = old.request_is;
              vehicle_is = old.vehicle_is;
              places_are = subst (λ c. IsSomeAnd c (λ (offer : Offer). (offer.i ≡ (get_or seats j s).i) × (offer.j ≡ (get_or seats j s).j)))
                  (sym (kept (get_or placed j o).request (get_or placed j o).vehicle (λ _ same. other same) (omega (arith, old.vehicle_in, columns_is))))
                  old.places_are;
            }
      ];
    }
  where
    from_old : (r c : ℕ) (d : Ride) (e : Vehicle) → r < length batch.requests → c < length batch.vehicles
        → cell_at (with_own table one) r c ≡ cell_at table r c
        → MatchOption (cell_at (with_own table one) r c)
        (price roads batch.settings (get_or batch.vehicles c e) (get_or batch.requests r d) batch.time ≡ None)
        (IsLeastOffer roads batch (get_or batch.requests r d) (get_or batch.vehicles c e))
    from_old r c d e r_in c_in same =
        subst (λ o. MatchOption o
        (price roads batch.settings (get_or batch.vehicles c e) (get_or batch.requests r d) batch.time ≡ None)
        (IsLeastOffer roads batch (get_or batch.requests r d) (get_or batch.vehicles c e)))
        (sym same) (now.of_map.cells_are r c d e r_in c_in)

    -- two seats are of two vehicles
    apart-vehicles : (j : ℕ) (s : Seat) (o : Placed) → j < k → j ≢ k → (get_or placed j o).vehicle ≢ one.vehicle
    apart-vehicles j s o below differs same =
        let e = element seats k low in
        let first = p.placed_all.each j s o (omega (arith, below, low)) in
        let second : IsPlaced roads batch (get_or seats k e) one = subst (IsPlaced roads batch (get_or seats k e)) (one_is one) (p.placed_all.each k e one low) in
        let v = element batch.vehicles one.vehicle second.vehicle_in in
        let vehicles : (get_or seats j s).vehicle ≡ (get_or seats k e).vehicle
        = sym (first.vehicle_is v) ∙ ap (λ n. (get_or batch.vehicles n v).id) same ∙ second.vehicle_is v in
        let ids = map (λ (x : Seat). x.vehicle) seats in
        let j_at : get_or ids j 0 ≡ (get_or seats j s).vehicle = get_or-map (λ (x : Seat). x.vehicle) seats j s 0 (omega (arith, below, low)) in
        let k_at : get_or ids k 0 ≡ (get_or seats k e).vehicle = get_or-map (λ (x : Seat). x.vehicle) seats k e 0 low in
        differs (same-place ids j k p.seating.vehicles_differ (omega (arith, below, low, length-map seats (λ (x : Seat). x.vehicle)))
        (omega (arith, low, length-map seats (λ (x : Seat). x.vehicle))) (j_at ∙ vehicles ∙ sym k_at))

-- a seat whose offer is dearer than its pair's price cannot be certified
pub own-dear : (roads : RoadMap) (batch : BatchCopy) (table : Table) (seats : List Seat) (placed : List Placed) (k : ℕ) (one : Placed) (least : Offer)
    → Premises roads batch seats placed → OwnsSoFar roads batch table seats placed k → k < length seats → ((d : Placed) → get_or placed k d ≡ one)
    → cell_at table one.request one.vehicle ≡ Some least → least.cost < one.offer.cost
    → (prices pays : List (ℕ × ℕ)) → Certifies roads batch seats prices pays → ⊥
own-dear roads batch table seats placed k one least p now low one_is cell dear prices pays certified =
    let e = element seats k low in
    let seat = get_or seats k e in
    let is : IsPlaced roads batch seat one = subst (IsPlaced roads batch seat) (one_is one) (p.placed_all.each k e one low) in
    let h = of-seat roads batch seat one p.requests_differ p.vehicles_differ is in
    let facts = cell-facts roads batch table seat one least now.of_map is h cell in
    let cheap : seat_cost roads batch seat ≤ pair_price roads batch seat
    = All-from_recursion (λ x. seat_cost roads batch x ≤ pair_price roads batch x) seats
    (seats-at-price roads batch seats prices pays p.requests_differ certified) k e low in
    omega (arith, cheap, facts.is_price, (cost-of-seat roads batch seat one h).1, dear)

-- a seat's cell is there
pub own-there : (roads : RoadMap) (batch : BatchCopy) (table : Table) (seats : List Seat) (placed : List Placed) (k : ℕ) (one : Placed)
    → Premises roads batch seats placed → OwnsSoFar roads batch table seats placed k → k < length seats → ((d : Placed) → get_or placed k d ≡ one)
    → cell_at table one.request one.vehicle ≡ None → ⊥
own-there roads batch table seats placed k one p now low one_is cell =
    let e = element seats k low in
    let seat = get_or seats k e in
    let is : IsPlaced roads batch seat one = subst (IsPlaced roads batch seat) (one_is one) (p.placed_all.each k e one low) in
    has-cell roads batch table seat one now.of_map is (of-seat roads batch seat one p.requests_differ p.vehicles_differ is) cell

-- all seats stand in their cells
pub own-all : (roads : RoadMap) (batch : BatchCopy) (table : Table) (seats : List Seat) (placed : List Placed) (k : ℕ)
    → ArePlaced roads batch seats placed → OwnsSoFar roads batch table seats placed k → length placed ≤ k
    → All (λ seat. (r : ℕ) × (c : ℕ) × IsSeatAt batch table seat r c) seats
own-all roads batch table seats placed k are now all = λ j d low.
    let o = element placed j (omega (arith, low, are.count)) in (
      (get_or placed j o).request,
      (get_or placed j o).vehicle,
      now.stand j d o (omega (arith, low, are.count, all)),
    )

-- what a read of no place gives
abbrev pub no_place : Placed
no_place = record {
  request = 0;
  vehicle = 0;
  offer = record { i = 0; j = 0; cost = 0; start = 0; joins = record { to_pickup = 0; after_pickup = 0; to_dropoff = 0; after_dropoff = 0 } };
}

pub place-read : (placed : List Placed) (k : ℕ) → k < length placed → (d : Placed) → get_or placed k d ≡ get_or placed k no_place
place-read placed k low d = get_or_default placed k d no_place low

-- a seat's cell is one of the table's
pub own-inside : (roads : RoadMap) (batch : BatchCopy) (table : Table) (seats : List Seat) (placed : List Placed) (k : ℕ)
    → ArePlaced roads batch seats placed → OwnsSoFar roads batch table seats placed k → k < length placed
    → ((get_or placed k no_place).request < table.rows) × ((get_or placed k no_place).vehicle < table.columns)
own-inside roads batch table seats placed k are now low =
    let in_seats : k < length seats = omega (arith, low, are.count) in
    let is = are.each k (element seats k in_seats) no_place in_seats in (
      omega (arith, is.request_in, now.of_map.fits.rows_are),
      omega (arith, is.vehicle_in, now.of_map.fits.columns_are),
    )
