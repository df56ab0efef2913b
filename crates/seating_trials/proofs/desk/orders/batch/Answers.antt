use Rattle.std.proofs.Common.{rules, [], ◌∷◌}
use Rattle.plan_trials.proofs.trial_town.TwoOfEach.{two_requests}
use Rattle.seating_trials.proofs.desk.orders.batch.Goals as goal

pub of-requires-clause-ids_differ : goal.of-requires-clause-ids_differ
of-requires-clause-ids_differ g c =
    two_requests [] (c.request.result ∷ []) c.expect-requests.result.items c.request.result c.request-2.result 7 (search rules) (search rules)
    (search rules) c.request.ensures.id c.request-2.ensures.id
