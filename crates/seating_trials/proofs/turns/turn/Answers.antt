use Rattle.std.proofs.Common.{false, true, eqb, sym, subst}
use Rattle.std.specs.List.{IsDistinct}
use Rattle.std.proofs.lemmas.Result.{IfOk-at_ok}
use Rattle.ride_model.specs.Vehicle.{ride_ids}
use Rattle.seating_trials.proofs.InTurn.{asked-differ}
use Rattle.seating_trials.proofs.turns.turn.Goals as goal

pub of-requires-clause-ids_differ : goal.of-requires-clause-ids_differ
of-requires-clause-ids_differ g c =
    subst (λ rides. IsDistinct eqb (ride_ids rides)) (sym (IfOk-at_ok _ c.expect-requests.ensures c.vec.ensures.items))
    (asked-differ false)

pub of-requires-2-clause-ids_differ : goal.of-requires-2-clause-ids_differ
of-requires-2-clause-ids_differ g c =
    subst (λ rides. IsDistinct eqb (ride_ids rides)) (sym (IfOk-at_ok _ c.expect-requests-2.ensures c.vec-2.ensures.items))
    (asked-differ true)
