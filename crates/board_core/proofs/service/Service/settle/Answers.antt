use Rattle.board_core.proofs.Common.{◌≡◌, ◌<◌, ◌+◌, length, drop, get_or, sym, ◌∙◌, ap, subst, None, Ride, after_outcomes, BatchCopy, state_at}
use Rattle.board_core.proofs.Settled.{settle-step}
use Rattle.board_core.proofs.service.Service.settle.Goals as goal

pub settle_one-requires-clause-settled : goal.settle_one-requires-clause-settled
settle_one-requires-clause-settled c = let (setup, moment, k, t) = c.requires.settled in (setup, moment, k, c.loop-r.invariant.settled setup moment k t)

pub settle_one-requires-clause-fleet : goal.settle_one-requires-clause-fleet
settle_one-requires-clause-fleet c =
    let (setup, moment, k, t) = c.requires.settled in
    c.requires.fleet ∙ t.same_ids ∙ sym (c.loop-r.invariant.settled setup moment k t).same_ids

pub loop-r-preserved : goal.loop-r-preserved
loop-r-preserved c =
    let solved = c.args.solved.now in
    let no_ride : Ride = record { id = 0; from = 0; to = 0; seats = 0; chairs = 0; latest = 0; longest = 0; picked = None } in
    let ride : Ride = get_or c.requests-ride-items.result.now c.loop-r.r no_ride in
    let requests_are : c.requests-ride-items.result.now ≡ solved.batch.requests
    = c.requests-ride-items.ensures.requests ∙ ap (λ (b : BatchCopy). b.requests) c.batch.ensures in
    let low : c.loop-r.r < length solved.batch.requests = subst (λ rides. c.loop-r.r < length rides) requests_are c.loop-r-test.true in
    record {
      settled = λ setup moment k t. c.settle_one.ensures.settled setup moment k (c.loop-r.invariant.settled setup moment k t);
      state = λ setup moment rest k t.
          c.loop-r.invariant.state setup moment rest k t
          ∙ settle-step solved.batch solved.answer.seating moment solved.batch.requests c.loop-r.r ride no_ride low
          (ap (λ rides. get_or rides c.loop-r.r no_ride) requests_are) (state_at setup c.loop-r.self rest)
          ∙ ap (after_outcomes solved.batch solved.answer.seating moment (drop (c.loop-r.r + 1) solved.batch.requests))
          (c.settle_one.ensures.state setup moment rest k (c.loop-r.invariant.settled setup moment k t));
    }
