use Rattle.idle_moves.proofs.Common.{◌≡◌, length, map, sym, ap, subst, ◌∙◌, arith, All, IfOk, not, All-filter, Ride, IsNode, has_seat, length-filter-le, IsSheetOver, stands_by, standby_of}
use Rattle.idle_moves.proofs.OverGrids.{left-found, left_out, of-batch, stand-at, stand-few, standing-found, standing_by}
use Rattle.idle_moves.proofs.sheets.plan_moves.Goals as goal

-- the requests that are left out, and the vehicles that stand by
rides-found : (c : goal.After-plan_over-arg-1) → c.as_slice.result.now ≡ left_out c.args.batch.now c.args.answer.now.seating
rides-found c =
    left-found c.args.batch.now c.args.answer.now.seating c.items-seats.result.now c.requests-rides.result.now c.as_slice.result.now
    c.in_ok-requests.requests.items c.as_slice.ensures.value c.in_ok-requests.ensures c.items-seats.ensures c.requests-rides.ensures.requests

vehicles-found : (c : goal.After-plan_over-arg-1)
    → c.as_slice-2.result.now ≡ map standby_of (standing_by c.args.batch.now c.args.answer.now.seating)
vehicles-found c =
    standing-found c.args.batch.now c.args.answer.now.seating c.items-seats.result.now c.vehicles-copies.result.now c.as_slice-2.result.now
    c.in_ok-vehicles.vehicles.items c.as_slice-2.ensures.value c.in_ok-vehicles.ensures c.items-seats.ensures
    (c.vehicles-copies.ensures.items ∙ c.vehicles.ensures)

pub plan_over-requires-clause-few_requests : goal.plan_over-requires-clause-few_requests
plan_over-requires-clause-few_requests c =
    omega (
      arith,
      ap length (rides-found c),
      length-filter-le (λ (ride : Ride). not (has_seat c.args.answer.now.seating ride.id)) c.args.batch.now.requests,
      c.requests-rides.ensures.few,
    )

pub plan_over-requires-clause-few_vehicles : goal.plan_over-requires-clause-few_vehicles
plan_over-requires-clause-few_vehicles c =
    omega (
      arith,
      stand-few c.args.batch.now.vehicles c.as_slice-2.result.now (stands_by c.args.answer.now.seating) (vehicles-found c),
      ap length c.vehicles.ensures,
      c.vehicles-copies.ensures.is_fleet.few,
    )

pub plan_over-requires-clause-pickups : goal.plan_over-requires-clause-pickups
plan_over-requires-clause-pickups c =
    subst (All (λ (ride : Ride). IsNode c.args.times.now ride.from)) (sym (rides-found c))
    (All-filter (λ (ride : Ride). not (has_seat c.args.answer.now.seating ride.id))
    (λ (ride : Ride). IsNode c.args.times.now ride.from) c.args.batch.now.requests c.requires.pickups)

pub plan_over-requires-clause-stands : goal.plan_over-requires-clause-stands
plan_over-requires-clause-stands c =
    stand-at c.args.times.now c.args.batch.now.vehicles c.as_slice-2.result.now (stands_by c.args.answer.now.seating) (vehicles-found c)
    c.requires.stands

pub returns-clause-sheet : goal.returns-clause-sheet
returns-clause-sheet c =
    let batch = c.args.batch.now in
    let seats = c.args.answer.now.seating in
    let rides = left-found batch seats c.items-seats.result.now c.requests-rides.result.now c.as_slice.result.now
    c.in_ok-requests.requests.items c.as_slice.ensures.value c.in_ok-requests.ensures c.items-seats.ensures c.requests-rides.ensures.requests in
    let vehicles = standing-found batch seats c.items-seats.result.now c.vehicles-copies.result.now c.as_slice-2.result.now
    c.in_ok-vehicles.vehicles.items c.as_slice-2.ensures.value c.in_ok-vehicles.ensures c.items-seats.ensures
    (c.vehicles-copies.ensures.items ∙ c.vehicles.ensures) in
    of-batch c.args.times.now batch seats c.args.reach c.plan_over.result
    (subst (λ n. IfOk c.plan_over.result (λ sheet. sheet.batch ≡ n)) c.number.ensures c.plan_over.ensures.number)
    (subst (λ rs. IfOk c.plan_over.result (IsSheetOver c.args.times.now c.args.reach rs (standing_by batch seats))) rides
    (c.plan_over.ensures.sheet (standing_by batch seats) vehicles))
