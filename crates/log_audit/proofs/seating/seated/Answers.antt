use Rattle.log_audit.proofs.Common.{◌≡◌, length, refl, sym, ◌∙◌, ap, subst, arith, nat_eq, map, filter, IsDistinct, Seat, has_seat, vehicle_ids, ride_ids}
use Rattle.log_audit.proofs.SeatCosts.{each-offered, few-seats, places-found, cost-is}
use Rattle.log_audit.proofs.seating.seated.Goals as goal

pub cost_of-requires : goal.cost_of-requires
cost_of-requires c =
    let are = places-found c.args.pricing.now c.args.batch.now c.args.seats.now c.in_ok-placed.field-0 c.in-Some.placed c.in-Some.is
    c.in_ok-placed.ensures.placed in
    omega (
      arith,
      are.count,
      ap length c.as_slice.ensures.value,
      c.requires.priceable.over_map.few,
      few-seats c.args.batch.now c.args.seats.now (subst (λ rides. map (λ (seat : Seat). seat.request) c.args.seats.now ≡ filter (has_seat c.args.seats.now) (ride_ids rides))
          c.requests.ensures.requests (c.in_ok-stand_in_order.ensures.0 c.if-not-branch.false)),
    )

pub returns-then-cost_of-from-clause-seated : goal.returns-then-cost_of-from-clause-seated
returns-then-cost_of-from-clause-seated c =
    let roads = c.args.pricing.now in
    let batch = c.args.batch.now in
    let seats = c.args.seats.now in
    let are = places-found roads batch seats c.in_ok-placed.field-0 c.in-Some.placed c.in-Some.is c.in_ok-placed.ensures.placed in
    let vehicles_differ : IsDistinct nat_eq (vehicle_ids batch.vehicles)
    = subst (λ vehicles. IsDistinct nat_eq (vehicle_ids vehicles)) c.vehicles.ensures c.vehicles-vehicles.ensures.is_fleet.ids_differ in (
      (
        record {
          in_order = subst (λ rides. map (λ (seat : Seat). seat.request) seats ≡ filter (has_seat seats) (ride_ids rides)) c.requests.ensures.requests
              (c.in_ok-stand_in_order.ensures.0 c.if-not-branch.false);
          vehicles_differ = c.if-not-drive_once.ensures.0 refl;
          offered = each-offered roads batch seats c.in-Some.placed.items c.requests.ensures.ids_differ vehicles_differ are;
        },
        sym c.from.ensures ∙ sym c.if-cost_of-from.true
            ∙ cost-is roads batch seats c.in-Some.placed.items c.as_slice.result.now c.cost_of.result c.as_slice.ensures.value c.cost_of.ensures
            c.requests.ensures.ids_differ vehicles_differ are,
      ),
      are,
    )

pub returns-else-cost_of-from-clause-seated : goal.returns-else-cost_of-from-clause-seated
returns-else-cost_of-from-clause-seated c = λ seated.
    let roads = c.args.pricing.now in
    let batch = c.args.batch.now in
    let seats = c.args.seats.now in
    let are = places-found roads batch seats c.in_ok-placed.field-0 c.in-Some.placed c.in-Some.is c.in_ok-placed.ensures.placed in
    let vehicles_differ : IsDistinct nat_eq (vehicle_ids batch.vehicles)
    = subst (λ vehicles. IsDistinct nat_eq (vehicle_ids vehicles)) c.vehicles.ensures c.vehicles-vehicles.ensures.is_fleet.ids_differ in
    c.if-cost_of-from.false (cost-is roads batch seats c.in-Some.placed.items c.as_slice.result.now c.cost_of.result c.as_slice.ensures.value
    c.cost_of.ensures c.requests.ensures.ids_differ vehicles_differ are ∙ sym (c.from.ensures ∙ seated.1))
