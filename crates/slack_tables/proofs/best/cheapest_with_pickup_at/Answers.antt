use Rattle.slack_tables.proofs.Common.{sym, ◌∙◌, ap, arith, lesser, cost_at, cost_found, IsFound}
use Rattle.slack_tables.proofs.Searching.{none-from, no-room-cost, no-pickup-cost, together-cost, cost-found, is-found, one_of, least-first}
use Rattle.slack_tables.proofs.best.cheapest_with_pickup_at.Goals as goal

pub returns-then-not-has_room-clause-cost : goal.returns-then-not-has_room-clause-cost
returns-then-not-has_room-clause-cost c =
    sym (none-from c.args.terms.now c.args.slack.now c.args.near.now c.args.place c.args.place (λ k high.
    no-room-cost c.args.terms.now c.args.slack.now c.args.near.now c.args.place c.args.place k
    (sym c.has_room.ensures ∙ c.if-not-has_room.true) (omega arith) high))

pub returns-in_err-time-clause-cost : goal.returns-in_err-time-clause-cost
returns-in_err-time-clause-cost c =
    ap cost_found c.from_residual.ensures
    ∙ sym (none-from c.args.terms.now c.args.slack.now c.args.near.now c.args.place c.args.place (λ k high.
    no-pickup-cost c.args.terms.now c.args.slack.now c.args.near.now c.args.place k
    (sym c.pickup_at.ensures.value ∙ c.in_err-time.was)))

pub returns-clause-cost : goal.returns-clause-cost
returns-clause-cost c =
    let terms = c.args.terms.now in
    let slack = c.args.slack.now in
    let near = c.args.near.now in
    let cost = c.cost_together.ensures
    ∙ together-cost terms slack near c.args.place c.in_ok-time.time (sym c.has_room.ensures ∙ c.if-not-has_room.false)
    (sym c.pickup_at.ensures.value ∙ c.in_ok-time.was) in
    c.cheaper.ensures.cost
    ∙ ap (λ o. lesser o (cost_found c.cheapest_behind.result))
    (ap cost_found c.found_at-together.ensures ∙ cost-found c.args.place c.args.place c.cost_together.result ∙ cost)
    ∙ ap (lesser (cost_at terms slack near c.args.place c.args.place)) c.cheapest_behind.ensures.cost
    ∙ least-first terms slack near c.args.place c.requires.within

pub returns-clause-places : goal.returns-clause-places
returns-clause-places c =
    let terms = c.args.terms.now in
    let slack = c.args.slack.now in
    let near = c.args.near.now in
    let cost = c.cost_together.ensures
    ∙ together-cost terms slack near c.args.place c.in_ok-time.time (sym c.has_room.ensures ∙ c.if-not-has_room.false)
    (sym c.pickup_at.ensures.value ∙ c.in_ok-time.was) in
    one_of (IsFound terms slack near) c.cheaper.result c.found_at-together.result c.cheapest_behind.result c.cheaper.ensures.one
    (rw c.found_at-together.ensures
    (is-found terms slack near c.args.place c.args.place c.cost_together.result cost (omega arith) c.requires.within))
    c.cheapest_behind.ensures.places
