use Rattle.log_audit.proofs.Common.{◌+◌, get_or, sym, ◌∙◌, ap, subst, arith, nat_eq, option_copied, IsDistinct, vehicle_ids}
use Rattle.log_audit.proofs.OwnCells.{OwnsSoFar, own-none, own-more, own-dear, own-there, own-all, own-inside, place-read, no_place}
use Rattle.log_audit.proofs.commits.with_own_offers.Goals as goal

pub loop-one-init : goal.loop-one-init
loop-one-init c = λ roads of_map seating are. own-none roads c.args.batch.now c.args.table c.args.seats.now c.args.placed.now of_map

pub cell-requires-clause-request_in : goal.cell-requires-clause-request_in
cell-requires-clause-request_in c =
    let (roads, of_map, seating, are) = c.requires.table in
    (own-inside roads c.args.batch.now c.loop-one.table c.args.seats.now c.args.placed.now c.loop-one.one-index are
    (c.loop-one.invariant roads of_map seating are) c.loop-one-test.true).0

pub cell-requires-clause-vehicle_in : goal.cell-requires-clause-vehicle_in
cell-requires-clause-vehicle_in c =
    let (roads, of_map, seating, are) = c.requires.table in
    (own-inside roads c.args.batch.now c.loop-one.table c.args.seats.now c.args.placed.now c.loop-one.one-index are
    (c.loop-one.invariant roads of_map seating are) c.loop-one-test.true).1

pub returns : goal.returns
returns c = record {
  table = λ roads of_map seating are.
      let now = c.loop-one.invariant roads of_map seating are in
      (now.of_map, own-all roads c.args.batch.now c.loop-one.table c.args.seats.now c.args.placed.now c.loop-one.one-index are now c.loop-one-test.false);
}

pub returns-in_err-least : goal.returns-in_err-least
returns-in_err-least c = record {
  table = λ roads of_map seating are. absurd (own-there roads c.args.batch.now c.loop-one.table c.args.seats.now c.args.placed.now c.loop-one.one-index
      (get_or c.args.placed.now c.loop-one.one-index no_place)
      (record {
        requests_differ = c.requests-requests.ensures.ids_differ;
        vehicles_differ = subst (λ vehicles. IsDistinct nat_eq (vehicle_ids vehicles)) c.vehicles.ensures c.vehicles-vehicles.ensures.is_fleet.ids_differ;
        seating = seating;
        placed_all = are;
      })
      (c.loop-one.invariant roads of_map seating are) (omega (arith, c.loop-one-test.true, are.count))
      (place-read c.args.placed.now c.loop-one.one-index c.loop-one-test.true)
      (sym c.cell.ensures ∙ ap option_copied c.in_err-least.was));
}

pub returns-then-one-least : goal.returns-then-one-least
returns-then-one-least c = record {
  table = λ roads of_map seating are. own-dear roads c.args.batch.now c.loop-one.table c.args.seats.now c.args.placed.now c.loop-one.one-index
      (get_or c.args.placed.now c.loop-one.one-index no_place) c.in_ok-least.least.now
      (record {
        requests_differ = c.requests-requests.ensures.ids_differ;
        vehicles_differ = subst (λ vehicles. IsDistinct nat_eq (vehicle_ids vehicles)) c.vehicles.ensures c.vehicles-vehicles.ensures.is_fleet.ids_differ;
        seating = seating;
        placed_all = are;
      })
      (c.loop-one.invariant roads of_map seating are) (omega (arith, c.loop-one-test.true, are.count))
      (place-read c.args.placed.now c.loop-one.one-index c.loop-one-test.true)
      (sym c.cell.ensures ∙ ap option_copied c.in_ok-least.was)
      c.if-one-least.true;
}

pub put-requires-clause-vehicle_in : goal.put-requires-clause-vehicle_in
put-requires-clause-vehicle_in c =
    let (roads, of_map, seating, are) = c.requires.table in
    (own-inside roads c.args.batch.now c.loop-one.table c.args.seats.now c.args.placed.now c.loop-one.one-index are
    (c.loop-one.invariant roads of_map seating are) c.loop-one-test.true).1

pub loop-one-preserved : goal.loop-one-preserved
loop-one-preserved c = λ roads of_map seating are.
    subst (λ t. OwnsSoFar roads c.args.batch.now t c.args.seats.now c.args.placed.now (c.loop-one.one-index + 1)) (sym c.put.ensures)
    (own-more roads c.args.batch.now c.loop-one.table c.args.seats.now c.args.placed.now c.loop-one.one-index
    (get_or c.args.placed.now c.loop-one.one-index no_place) c.in_ok-least.least.now
    (record {
      requests_differ = c.requests-requests.ensures.ids_differ;
      vehicles_differ = subst (λ vehicles. IsDistinct nat_eq (vehicle_ids vehicles)) c.vehicles.ensures c.vehicles-vehicles.ensures.is_fleet.ids_differ;
      seating = seating;
      placed_all = are;
    })
    (c.loop-one.invariant roads of_map seating are) (omega (arith, c.loop-one-test.true, are.count))
    (place-read c.args.placed.now c.loop-one.one-index c.loop-one-test.true)
    (sym c.cell.ensures ∙ ap option_copied c.in_ok-least.was)
    c.if-one-least.false)
