use Rattle.batch_commit.proofs.Common.{◌≡◌, ◌+◌, ◌<◌, ℕ, length, take, get_or, map, sym, ◌∙◌, ap, subst, arith, length-map, Outcome, Ride, State, ride_ids, outcome_of, outcomes_of}
use Rattle.batch_commit.proofs.Decided.{decided-more, ids-stay, get_or-map, next-outcome}
use Rattle.batch_commit.proofs.outcomes.decide_each.Goals as goal

pub loop-r-preserved : goal.loop-r-preserved
loop-r-preserved c =
    let ids = ride_ids c.args.batch.now.requests in
    let low : c.loop-r.r < length c.args.batch.now.requests
    = subst (λ requests. c.loop-r.r < length requests) c.requests-requests.ensures.requests c.loop-r-test.true in
    let low_ids : c.loop-r.r < length ids = omega (arith, low, length-map c.args.batch.now.requests (λ (q : Ride). q.id)) in
    let id_is = get_or-map (λ (q : Ride). q.id) c.requests-requests.result.now c.loop-r.r _ 0 c.loop-r-test.true
    ∙ ap (λ requests. get_or (ride_ids requests) c.loop-r.r 0) c.requests-requests.ensures.requests in
    record {
      decided = λ s stands.
          ap (take (c.loop-r.r + 1)) c.set.ensures
          ∙ decided-more (outcome_of c.args.batch.now c.args.seats.now s) ids c.loop-r.outcomes c.loop-r.r _ c.outcome_for-outcome.result
          (sym (length-map c.loop-r.outcomes (λ (item : ℕ × Outcome). item.0)) ∙ ap length c.loop-r.invariant.one_each) low_ids id_is
          (next-outcome c.args.batch.now c.args.seats.now c.args.now c.args.vehicles.now c.args.cancelled.now s c.loop-r.r _ c.outcome_for-outcome.result _
          stands low id_is (c.outcome_for-outcome.ensures s stands.vehicles_stand stands.clock_is))
          (c.loop-r.invariant.decided s stands);
      one_each = ap (map (λ (item : ℕ × Outcome). item.0)) c.set.ensures
          ∙ ids-stay ids c.loop-r.outcomes c.loop-r.r _ c.outcome_for-outcome.result low_ids id_is c.loop-r.invariant.one_each;
    }
