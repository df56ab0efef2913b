use Rattle.fleet_league.proofs.Common.{subst, sym, IsFleet, SolvedBatch, AreSeatsOf}
use Rattle.fleet_league.proofs.CertifiedWins.{IsPriced, certified-wins, seats-are}
use Rattle.fleet_league.proofs.seating.solved.Goals as goal

pub tie-requires-clause-certified : goal.tie-requires-clause-certified
tie-requires-clause-certified c =
    let (roads, of_batch, won) = c.requires.won in
    let fleet : IsFleet c.args.batch.vehicles = subst IsFleet c.vehicles.ensures c.vehicles-vehicles.ensures.is_fleet in
    let is : IsPriced roads c.args.batch c.args.table c.args.brief.now = record {
      of_batch = of_batch;
      won = won;
      requests_differ = c.requests-requests.ensures.ids_differ;
      vehicles_differ = fleet.ids_differ;
    } in
    certified-wins roads c.args.batch c.args.table c.args.brief.now is
    c.in-Ok.answer.seating c.in-Ok.answer.prices c.in-Ok.answer.pays
    c.in-Ok.ensures.seats c.in-Ok.ensures.prices c.in-Ok.ensures.pays

pub returns-in-Ok-clause-seats : goal.returns-in-Ok-clause-seats
returns-in-Ok-clause-seats c =
    let (roads, of_batch, won) = c.requires.won in
    let fleet : IsFleet c.args.batch.vehicles = subst IsFleet c.vehicles.ensures c.vehicles-vehicles.ensures.is_fleet in
    let is : IsPriced roads c.args.batch c.args.table c.args.brief.now = record {
      of_batch = of_batch;
      won = won;
      requests_differ = c.requests-requests.ensures.ids_differ;
      vehicles_differ = fleet.ids_differ;
    } in
    subst (λ (s : SolvedBatch). AreSeatsOf c.args.brief.now.wins s.answer.seating) (sym c.tie.ensures)
    (seats-are roads c.args.batch c.args.table c.args.brief.now is c.in-Ok.answer.seating c.in-Ok.ensures.seats)
