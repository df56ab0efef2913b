use Rattle.slack_tables.proofs.Common.{◌+◌, length, sym, ◌∙◌, ap, arith, lesser, least-on, least-over, least_at, least_from, cost_found, IsFound}
use Rattle.slack_tables.proofs.Searching.{one_of}
use Rattle.slack_tables.proofs.best.cheapest.Goals as goal

pub loop-place-preserved : goal.loop-place-preserved
loop-place-preserved c =
    let terms = c.args.terms.now in
    let slack = c.args.slack.now in
    let near = c.args.near.now in
    let rest = least_from terms slack near (c.loop-place.place + 1) in
    record {
      end_is = omega (arith, c.stops.ensures);
      cost =
          ap (λ o. lesser o rest) c.cheaper-best.ensures.cost
          ∙ ap (λ o. lesser (lesser (cost_found c.loop-place.best) o) rest) c.cheapest_with_pickup_at.ensures.cost
          ∙ least-on (λ k. least_at terms slack near k k) (length slack.times) c.loop-place.place (cost_found c.loop-place.best)
          (omega (arith, c.stops.ensures))
          ∙ c.loop-place.invariant.cost;
      places = one_of (IsFound terms slack near) c.cheaper-best.result c.loop-place.best c.cheapest_with_pickup_at.result c.cheaper-best.ensures.one
          c.loop-place.invariant.places c.cheapest_with_pickup_at.ensures.places;
    }

pub returns-clause-cost : goal.returns-clause-cost
returns-clause-cost c =
    sym (least-over (λ k. least_at c.args.terms.now c.args.slack.now c.args.near.now k k) (length c.args.slack.now.times) c.loop-place.place
    (cost_found c.loop-place.best)
    (omega (arith, c.loop-place-test.false, c.stops.ensures)))
    ∙ c.loop-place.invariant.cost
