use Rattle.slack_tables.proofs.Common.{false, true, sym, ◌∙◌, ap, arith, cost_if_any, if-offered, cost_found}
use Rattle.slack_tables.proofs.BestFast.{may_offer, no-price, is_of, may-by, searches, least-is, answer-is, answer-costs}
use Rattle.slack_tables.proofs.best.best_place_fast.Goals as goal

pub returns-then-not-may_offer-clause-price : goal.returns-then-not-may_offer-clause-price
returns-then-not-may_offer-clause-price c = λ roads asked.
    let settings = c.args.settings.now in
    let v = c.args.vehicle.now in
    no-price roads settings v c.args.ride.now c.args.near.now c.args.now asked
    (may-by settings v c.args.now c.args.slack.now false c.requires.slack (sym c.may_offer.ensures ∙ c.if-not-may_offer.true))

pub cheapest-requires : goal.cheapest-requires
cheapest-requires c =
    let settings = c.args.settings.now in
    let v = c.args.vehicle.now in
    let ride = c.args.ride.now in
    let slack = c.args.slack.now in
    let terms = c.terms_of-terms.result in
    let start = c.start_of-start.result in
    let may = may_offer settings v c.args.now
    (may-by settings v c.args.now slack true c.requires.slack (sym c.may_offer.ensures ∙ c.if-not-may_offer.false)) in
    let of_it = is_of settings v ride c.args.now terms slack start c.start_of-start.ensures c.requires.slack c.terms_of-terms.ensures in
    let (roads, asked) = c.requires.asked in
    searches roads settings v ride c.args.near.now c.args.now terms slack start asked may of_it

pub returns-in_err-found-clause-price : goal.returns-in_err-found-clause-price
returns-in_err-found-clause-price c = λ roads asked.
    let settings = c.args.settings.now in
    let v = c.args.vehicle.now in
    let ride = c.args.ride.now in
    let slack = c.args.slack.now in
    let terms = c.terms_of-terms.result in
    let start = c.start_of-start.result in
    let may = may_offer settings v c.args.now
    (may-by settings v c.args.now slack true c.requires.slack (sym c.may_offer.ensures ∙ c.if-not-may_offer.false)) in
    let of_it = is_of settings v ride c.args.now terms slack start c.start_of-start.ensures c.requires.slack c.terms_of-terms.ensures in
    ap cost_if_any c.from_residual.ensures
    ∙ sym (ap cost_found c.in_err-found.was) ∙ c.cheapest.ensures.cost
    ∙ least-is roads settings v ride c.args.near.now c.args.now terms slack start asked may of_it

pub offered-requires-clause-in_range : goal.offered-requires-clause-in_range
offered-requires-clause-in_range c =
    let settings = c.args.settings.now in
    let v = c.args.vehicle.now in
    let ride = c.args.ride.now in
    let slack = c.args.slack.now in
    let terms = c.terms_of-terms.result in
    let start = c.start_of-start.result in
    let may = may_offer settings v c.args.now
    (may-by settings v c.args.now slack true c.requires.slack (sym c.may_offer.ensures ∙ c.if-not-may_offer.false)) in
    let of_it = is_of settings v ride c.args.now terms slack start c.start_of-start.ensures c.requires.slack c.terms_of-terms.ensures in
    let (roads, asked) = c.requires.asked in
    let search = searches roads settings v ride c.args.near.now c.args.now terms slack start asked may of_it in
    omega (arith, c.in_ok-found.ensures.places.in_range, search.one_each)

pub returns-clause-price : goal.returns-clause-price
returns-clause-price c = λ roads asked.
    let settings = c.args.settings.now in
    let v = c.args.vehicle.now in
    let ride = c.args.ride.now in
    let near = c.args.near.now in
    let slack = c.args.slack.now in
    let terms = c.terms_of-terms.result in
    let start = c.start_of-start.result in
    let found = c.in_ok-found.found in
    let there = c.in_ok-found.ensures.places in
    let may = may_offer settings v c.args.now
    (may-by settings v c.args.now slack true c.requires.slack (sym c.may_offer.ensures ∙ c.if-not-may_offer.false)) in
    let of_it = is_of settings v ride c.args.now terms slack start c.start_of-start.ensures c.requires.slack c.terms_of-terms.ensures in
    ap cost_if_any (c.offered.ensures ∙ answer-is roads settings v ride near c.args.now terms slack start found asked may of_it there)
    ∙ answer-costs roads settings v ride near c.args.now terms slack start found asked may of_it there
    ∙ c.in_ok-found.ensures.cost
    ∙ least-is roads settings v ride near c.args.now terms slack start asked may of_it

pub returns-clause-an_offer : goal.returns-clause-an_offer
returns-clause-an_offer c = λ roads asked.
    let settings = c.args.settings.now in
    let v = c.args.vehicle.now in
    let ride = c.args.ride.now in
    let slack = c.args.slack.now in
    let terms = c.terms_of-terms.result in
    let start = c.start_of-start.result in
    let found = c.in_ok-found.found in
    let may = may_offer settings v c.args.now
    (may-by settings v c.args.now slack true c.requires.slack (sym c.may_offer.ensures ∙ c.if-not-may_offer.false)) in
    let of_it = is_of settings v ride c.args.now terms slack start c.start_of-start.ensures c.requires.slack c.terms_of-terms.ensures in
    if-offered roads settings v ride c.args.now found.i found.j c.offered.result
    (c.offered.ensures
    ∙ answer-is roads settings v ride c.args.near.now c.args.now terms slack start found asked may of_it c.in_ok-found.ensures.places)
