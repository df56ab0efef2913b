use Rattle.std.proofs.Common.{eqb, sym, subst}
use Rattle.std.specs.List.{IsDistinct}
use Rattle.std.proofs.lemmas.Result.{IfOk-at_ok}
use Rattle.ride_model.specs.Vehicle.{ride_ids}
use Rattle.seating_trials.proofs.TwoRequests.{ids-differ}
use Rattle.seating_trials.proofs.prices.batch.Goals as goal

pub of-requires-clause-ids_differ : goal.of-requires-clause-ids_differ
of-requires-clause-ids_differ g c =
    subst (λ rides. IsDistinct eqb (ride_ids rides)) (sym (IfOk-at_ok _ c.expect-requests.ensures c.vec.ensures.items))
    (ids-differ c.args.first c.args.second c.requires)
