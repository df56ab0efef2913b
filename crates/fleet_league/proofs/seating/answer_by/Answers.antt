use Rattle.fleet_league.proofs.Common.{◌≡◌, List, length, ap, ◌∙◌, IfOk-weaker, Vehicle, vehicle_ids, ride_ids, seats_by, Win, won_rides, won_columns}
use Rattle.batch_commit.specs.declared.answers.Answer.{Answer}
use Rattle.fleet_league.proofs.seating.answer_by.Goals as goal

pub returns-clause-seats : goal.returns-clause-seats
returns-clause-seats c =
    let vehicles : c.vehicles-2.result.now ≡ c.args.batch.now.vehicles = c.vehicles-2.ensures.items ∙ c.vehicles.ensures in
    let wins : c.items-wins.result.now ≡ c.args.brief.now.wins = c.items-wins.ensures in
    let seats_for = λ (ws : List Win) (vs : List Vehicle).
    seats_by c.args.table.now (ride_ids (won_rides ws)) (vehicle_ids vs) (won_columns vs ws) (length ws) in
    IfOk-weaker c.of-2.result _ _
    (λ answer is. ap (λ (a : Answer). a.seating) is ∙ c.in_ok-seats.ensures ∙ (λ i. seats_for (wins i) (vehicles i))) c.of-2.ensures
