use Rattle.hungarian.proofs.Common.{length, eqb, sym, ap, ◌∙◌, subst, IsDistinct, IfOk-weaker, Settings, RoadMap, ride_ids, vehicle_ids, IsLeastSeating, IsTableOf, CertifiesOverCells, prices_by, pays_by, seats_by}
use Rattle.batch_commit.specs.declared.answers.Answer.{Answer}
use Rattle.hungarian.proofs.BatchCertificates.{solved-certified, solved-least}
use Rattle.hungarian.proofs.batch.solve.Goals as goal

-- the vehicles of the batch differ
vehicles-differ : (c : goal.After-drop-grid-inside-2) → IsDistinct eqb (vehicle_ids c.args.batch.now.vehicles)
vehicles-differ c = subst
    (λ vs. IsDistinct eqb (vehicle_ids vs)) c.vehicles.ensures c.vehicles-vehicles.ensures.is_fleet.ids_differ

-- the parts of the answer are certified
certified : (c : goal.After-drop-grid-inside-2)
    → CertifiesOverCells c.args.batch.now c.args.table.now c.in_ok-seating.seating c.in_ok-prices.prices c.in_ok-pays.pays
certified c =
    let batch = c.args.batch.now in
    let requests = c.requests-requests.result.now in
    let vehicles = c.vehicles-vehicles.result.now in
    let paired = c.in_ok-paired.paired in
    solved-certified batch c.args.table.now c.in_ok-grid.grid requests vehicles paired.columns paired.prices paired.pays
    c.settings.result.now.penalty
    c.in_ok-seating.seating c.in_ok-prices.prices c.in_ok-pays.pays c.requires.fits c.requests-requests.ensures.ids_differ
    (vehicles-differ c)
    c.in_ok-grid.ensures (ap (λ (s : Settings). s.penalty) c.settings.ensures.settings) c.in_ok-paired.ensures.certified
    c.requests-requests.ensures.requests (c.vehicles-vehicles.ensures.items ∙ c.vehicles.ensures)
    (c.in_ok-seating.ensures
    ∙ ap (λ columns. seats_by c.args.table.now (ride_ids requests) (vehicle_ids vehicles) columns (length requests))
    c.items.ensures)
    (c.in_ok-prices.ensures ∙ ap (λ amounts. prices_by (ride_ids requests) amounts (length requests)) c.items-2.ensures)
    (c.in_ok-pays.ensures ∙ ap (λ amounts. pays_by (vehicle_ids vehicles) amounts (length vehicles)) c.items-3.ensures)

pub returns-clause-certified : goal.returns-clause-certified
returns-clause-certified c =
    IfOk-weaker c.of.result _
    (λ (answer : Answer). CertifiesOverCells c.args.batch.now c.args.table.now answer.seating answer.prices answer.pays)
    (λ answer is. subst (λ (a : Answer). CertifiesOverCells c.args.batch.now c.args.table.now a.seating a.prices a.pays)
    (sym is) (certified c))
    c.of.ensures

pub returns-clause-least : goal.returns-clause-least
returns-clause-least c =
    IfOk-weaker c.of.result _
    (λ (answer : Answer). (roads : RoadMap) → IsTableOf roads c.args.batch.now c.args.table.now
    → IsLeastSeating roads c.args.batch.now answer.seating)
    (λ answer is roads of_map. subst (λ (a : Answer). IsLeastSeating roads c.args.batch.now a.seating) (sym is)
    (solved-least c.args.batch.now c.args.table.now c.in_ok-seating.seating c.in_ok-prices.prices c.in_ok-pays.pays
    c.requires.fits
    c.requests-requests.ensures.ids_differ (vehicles-differ c) (certified c) roads of_map))
    c.of.ensures
