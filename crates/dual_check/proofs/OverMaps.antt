-- What certifies a seating over a table's cells certifies it over each map over which the table is the batch's.
use Rattle.dual_check.proofs.Common.{◌≡◌, ℕ, ◌+◌, ◌-◌, ◌*◌, ◌≤◌, List, length, get_or, refl, sym, ◌∙◌, ap, subst, arith, Some, None, option_and_then, unwrap_or, IsSome, IfSome, IsSomeAnd, MatchOption, get_or-map, All-from_recursion, Offer, Seat, Ride, Vehicle, RoadMap, offer_of, price, BatchCopy, vehicle_ids, find_ride, find_vehicle, seat_offer, seat_cost, seating_cost, IsLeastSeating, amount_of, IsCovered, Certifies, Among, each-among, certified_is_least, Table, IsTableOf, IsLeastOffer, place_of, cell_cost, cells_cost, CertifiesOverCells}
use Rattle.batch_commit.specs.inner.Table.{cell_at as offer_at}
use Rattle.dual_check.proofs.DifferentIds.{find-id, element}
use Rattle.dual_check.proofs.SeatPlaces.{cost_in_cell, AreSeats, places-of}
use Rattle.dual_check.proofs.SeatCosts.{sum_by-agree}

-- the offer of a seat over a map is that of its cell
record HasOffer (roads : RoadMap) (batch : BatchCopy) (table : Table) (seat : Seat) : Type 0 where
  offer : Offer
  over_map : seat_offer roads batch seat ≡ Some offer
  in_cell : cell_cost batch table seat ≡ offer.cost

-- each seat has one, where the table is the batch's over the map
offer-of-seat : (roads : RoadMap) (batch : BatchCopy) (table : Table) (seats : List Seat) (seat : Seat)
    → IsTableOf roads batch table
    → AreSeats batch table seats → Among seat seats → HasOffer roads batch table seat
offer-of-seat roads batch table seats seat of_map are among =
    let at = places-of batch table seats seat are among in
    let ride = get_or batch.requests at.row (element batch.requests at.row at.row_in) in
    let v = get_or batch.vehicles at.column (element batch.vehicles at.column at.column_in) in
    let ride_is : find_ride batch.requests seat.request ≡ Some ride
    = find-id (λ (r : Ride). r.id) batch.requests at.row seat.request (element batch.requests at.row at.row_in)
    are.requests_differ at.row_in
    (sym (get_or-map (λ (r : Ride). r.id) batch.requests at.row (element batch.requests at.row at.row_in) 0 at.row_in)
    ∙ at.request_at) in
    let v_is : find_vehicle batch.vehicles seat.vehicle ≡ Some v
    = find-id (λ (w : Vehicle). w.id) batch.vehicles at.column seat.vehicle (element batch.vehicles at.column at.column_in)
    are.vehicles_differ
    at.column_in
    (sym (get_or-map (λ (w : Vehicle). w.id) batch.vehicles at.column (element batch.vehicles at.column at.column_in) 0
    at.column_in) ∙ at.vehicle_at) in
    let seat_offer_is : seat_offer roads batch seat ≡ offer_of roads batch.settings v ride batch.time seat.i seat.j
    = ap (option_and_then (λ r. option_and_then (λ w. offer_of roads batch.settings w r batch.time seat.i seat.j)
    (find_vehicle batch.vehicles seat.vehicle)))
    ride_is
    ∙ ap (option_and_then (λ w. offer_of roads batch.settings w ride batch.time seat.i seat.j)) v_is in
    let cell_is : cell_cost batch table seat ≡ unwrap_or (cost_in_cell (offer_at table at.row at.column)) 0
    = ap (λ r. unwrap_or (cost_in_cell (offer_at table r (place_of (vehicle_ids batch.vehicles) seat.vehicle))) 0)
    at.request_place
    ∙ ap (λ c. unwrap_or (cost_in_cell (offer_at table at.row c)) 0) at.vehicle_place in
    elim (offer_at table at.row at.column)
    as (λ o. offer_at table at.row at.column ≡ o
    → MatchOption o (price roads batch.settings v ride batch.time ≡ None) (IsLeastOffer roads batch ride v)
    → IsSomeAnd o (λ (offer : Offer). (offer.i ≡ seat.i) × (offer.j ≡ seat.j)) → HasOffer roads batch table seat) [
      | None ↦ λ _ _ none. absurd none
      | Some offer ↦ λ is least (i_is, j_is). record {
        offer = offer;
        over_map = seat_offer_is
            ∙ sym (ap (λ i. offer_of roads batch.settings v ride batch.time i offer.j) i_is
            ∙ ap (λ j. offer_of roads batch.settings v ride batch.time seat.i j) j_is)
            ∙ least.offered;
        in_cell = cell_is ∙ ap (λ o. unwrap_or (cost_in_cell o) 0) is;
      }
    ] refl (of_map.cells_are at.row at.column (element batch.requests at.row at.row_in)
    (element batch.vehicles at.column at.column_in) at.row_in at.column_in)
    at.offered

-- a seating costs by the map what it costs by the cells
cost-over-map : (roads : RoadMap) (batch : BatchCopy) (table : Table) (seats : List Seat) → IsTableOf roads batch table
    → AreSeats batch table seats → seating_cost roads batch seats ≡ cells_cost batch table seats
cost-over-map roads batch table seats of_map are =
    ap (λ n. n + batch.settings.penalty * (length batch.requests - length seats))
    (sum_by-agree (seat_cost roads batch) (cell_cost batch table) seats
    (each-among (λ seat. seat_cost roads batch seat ≡ cell_cost batch table seat) seats
    (λ seat among.
    let has = offer-of-seat roads batch table seats seat of_map are among in
    ap (λ o. unwrap_or (cost_in_cell o) 0) has.over_map ∙ sym has.in_cell)))

-- what certifies a seating over the cells certifies it over the map
pub certified-over-map : (roads : RoadMap) (batch : BatchCopy) (table : Table) (seats : List Seat) (prices pays : List (ℕ × ℕ))
    → IsTableOf roads batch table → AreSeats batch table seats
    → CertifiesOverCells batch table seats prices pays → Certifies roads batch seats prices pays
certified-over-map roads batch table seats prices pays of_map are certified = record {
  seating = record {
    in_order = certified.seating.in_order;
    vehicles_differ = certified.seating.vehicles_differ;
    offered = All-from_recursion (λ seat. IsSome (seat_offer roads batch seat)) seats
        (each-among (λ seat. IsSome (seat_offer roads batch seat)) seats
        (λ seat among. subst IsSome (sym (offer-of-seat roads batch table seats seat of_map are among).over_map) refl));
  };
  each_priced = certified.each_priced;
  capped = certified.capped;
  paying = certified.paying;
  paid = certified.paid;
  covered = λ r ride r_in c v c_in.
      elim (offer_at table r c)
      as (λ o. MatchOption o (price roads batch.settings (get_or batch.vehicles c v) (get_or batch.requests r ride) batch.time
      ≡ None)
      (IsLeastOffer roads batch (get_or batch.requests r ride) (get_or batch.vehicles c v))
      → IfSome o (λ (offer : Offer). amount_of prices (get_or batch.requests r ride).id ≤ offer.cost + amount_of pays
      (get_or batch.vehicles c v).id)
      → IsCovered roads batch prices pays (get_or batch.requests r ride) (get_or batch.vehicles c v)) [
        | None ↦ λ none _. subst (λ p. IfSome p (covers r ride c v)) (sym none) tt
        | Some offer ↦ λ least below. subst (λ p. IfSome p (covers r ride c v)) (sym least.least) below
      ] (of_map.cells_are r c ride v r_in c_in) (certified.covered r c ride v r_in c_in);
  balanced = omega (arith, certified.balanced, cost-over-map roads batch table seats of_map are);
}
  where
    covers : ℕ → Ride → ℕ → Vehicle → ℕ → Type 0
    covers r ride c v cost = amount_of prices (get_or batch.requests r ride).id ≤ cost + amount_of pays
        (get_or batch.vehicles c v).id

-- what certifies a seating over the map certifies it over the cells
pub certified-over-cells : (roads : RoadMap) (batch : BatchCopy) (table : Table) (seats : List Seat) (prices pays : List (ℕ × ℕ))
    → IsTableOf roads batch table → AreSeats batch table seats
    → Certifies roads batch seats prices pays → CertifiesOverCells batch table seats prices pays
certified-over-cells roads batch table seats prices pays of_map are certified = record {
  seating = record {
    in_order = certified.seating.in_order;
    vehicles_differ = certified.seating.vehicles_differ;
    in_cells = are.in_cells;
  };
  each_priced = certified.each_priced;
  capped = certified.capped;
  paying = certified.paying;
  paid = certified.paid;
  covered = λ r c ride v r_in c_in.
      elim (offer_at table r c)
      as (λ o. MatchOption o (price roads batch.settings (get_or batch.vehicles c v) (get_or batch.requests r ride) batch.time
      ≡ None)
      (IsLeastOffer roads batch (get_or batch.requests r ride) (get_or batch.vehicles c v))
      → IfSome o (λ (offer : Offer). amount_of prices (get_or batch.requests r ride).id ≤ offer.cost + amount_of pays
      (get_or batch.vehicles c v).id)) [
        | None ↦ λ _. tt
        | Some offer ↦ λ least.
            subst (λ p. IfSome p (λ cost. amount_of prices (get_or batch.requests r ride).id ≤ cost + amount_of pays
            (get_or batch.vehicles c v).id))
            least.least (certified.covered r ride r_in c v c_in)
      ] (of_map.cells_are r c ride v r_in c_in);
  balanced = omega (arith, certified.balanced, cost-over-map roads batch table seats of_map are);
}

-- what certifies a seating over the cells makes it least over the map
pub least-over-map : (roads : RoadMap) (batch : BatchCopy) (table : Table) (seats : List Seat) (prices pays : List (ℕ × ℕ))
    → IsTableOf roads batch table → AreSeats batch table seats
    → CertifiesOverCells batch table seats prices pays → IsLeastSeating roads batch seats
least-over-map roads batch table seats prices pays of_map are certified =
    certified_is_least roads batch seats prices pays are.requests_differ
    (certified-over-map roads batch table seats prices pays of_map are certified)
