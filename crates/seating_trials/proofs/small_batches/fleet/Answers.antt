use Rattle.std.proofs.Common.{[], ◌∷◌, refl}
use Rattle.std.proofs.lemmas.Result.{IfOk-at_ok}
use Rattle.plan_trials.proofs.trial_town.TwoOfEach.{two_vehicles}
use Rattle.seating_trials.proofs.small_batches.fleet.Goals as goal

pub new-requires : goal.new-requires
new-requires g c =
    two_vehicles [] (c.idle.result ∷ []) c.expect.result.items c.idle.result c.idle-2.result refl refl
    (IfOk-at_ok _ c.expect.ensures c.vec-vehicles.ensures.items) c.idle.ensures c.idle-2.ensures
