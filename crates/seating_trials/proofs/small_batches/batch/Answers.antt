use Rattle.std.proofs.Common.{[], ◌∷◌, refl}
use Rattle.std.proofs.lemmas.Result.{IfOk-at_ok}
use Rattle.plan_trials.proofs.trial_town.TwoOfEach.{two_requests}
use Rattle.seating_trials.proofs.small_batches.batch.Goals as goal

pub of-requires-clause-ids_differ : goal.of-requires-clause-ids_differ
of-requires-clause-ids_differ g c =
    two_requests [] (c.request.result ∷ []) c.expect-requests.result.items c.request.result c.request-2.result c.args.first refl refl
    (IfOk-at_ok _ c.expect-requests.ensures c.vec-requests.ensures.items) c.request.ensures c.request-2.ensures
