use Rattle.slack_tables.proofs.Common.{◌+◌, length, sym, ◌∙◌, ap, arith, lesser, least-on, least-over, lesser-none, cost_at, least_at, cost_found, IsFound}
use Rattle.slack_tables.proofs.Searching.{room-more, no-room-cost, none-from, apart-cost, cost-found, is-found, one_of}
use Rattle.slack_tables.proofs.best.cheapest_apart.Goals as goal

pub returns-then-not-has_room-clause-cost : goal.returns-then-not-has_room-clause-cost
returns-then-not-has_room-clause-cost c =
    let none = none-from c.args.terms.now c.args.slack.now c.args.near.now c.args.pickup.place c.loop-place.place (λ k high.
    no-room-cost c.args.terms.now c.args.slack.now c.args.near.now c.args.pickup.place c.loop-place.place k
    (sym c.has_room.ensures ∙ c.if-not-has_room.true) (omega arith) high) in
    sym (ap (lesser (cost_found c.loop-place.best)) none ∙ lesser-none (cost_found c.loop-place.best))
    ∙ c.loop-place.invariant.cost

pub loop-place-preserved : goal.loop-place-preserved
loop-place-preserved c =
    let terms = c.args.terms.now in
    let slack = c.args.slack.now in
    let near = c.args.near.now in
    let rest = least_at terms slack near c.args.pickup.place (c.loop-place.place + 1) in
    let room = room-more terms slack c.args.pickup.place c.loop-place.place c.loop-place.invariant.room
    (sym c.has_room.ensures ∙ c.if-not-has_room.false) in
    let cost = c.cost_apart-cost.ensures
    ∙ apart-cost terms slack near c.args.pickup.place c.loop-place.place c.args.pickup.late c.args.pickup.time room c.requires.picks_up c.requires.is_late (omega arith) in
    record {
      end_is = omega (arith, c.stops.ensures);
      room = room;
      cost =
          ap (λ o. lesser o rest) c.cheaper-best.ensures.cost
          ∙ ap (λ o. lesser (lesser (cost_found c.loop-place.best) o) rest)
          (ap cost_found c.found_at.ensures ∙ cost-found c.args.pickup.place c.loop-place.place c.cost_apart-cost.result ∙ cost)
          ∙ least-on (cost_at terms slack near c.args.pickup.place) (length slack.times) c.loop-place.place
          (cost_found c.loop-place.best) (omega (arith, c.stops.ensures))
          ∙ c.loop-place.invariant.cost;
      places = one_of (IsFound terms slack near) c.cheaper-best.result c.loop-place.best c.found_at.result c.cheaper-best.ensures.one c.loop-place.invariant.places
          (rw c.found_at.ensures
          (is-found terms slack near c.args.pickup.place c.loop-place.place c.cost_apart-cost.result cost (omega arith)
          (omega (arith, c.stops.ensures))));
    }

pub returns-clause-cost : goal.returns-clause-cost
returns-clause-cost c =
    sym (least-over (cost_at c.args.terms.now c.args.slack.now c.args.near.now c.args.pickup.place)
    (length c.args.slack.now.times) c.loop-place.place (cost_found c.loop-place.best)
    (omega (arith, c.loop-place-test.false, c.stops.ensures)))
    ∙ c.loop-place.invariant.cost
