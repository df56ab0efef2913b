use Rattle.std.proofs.Common.{◌∷◌, [], sym, ap₂, ◌∙◌, subst}
use Rattle.std.proofs.lemmas.Result.{IfOk-at_ok}
use Rattle.ride_model.specs.Fleet.{IsFleet}
use Rattle.seating_trials.proofs.TwoRequests.{fleet}
use Rattle.seating_trials.proofs.prices.vehicles.Goals as goal

pub new-requires : goal.new-requires
new-requires g c =
    subst IsFleet (sym (IfOk-at_ok _ c.expect.ensures c.vec-vehicles.ensures.items
    ∙ ap₂ (λ first second. first ∷ second ∷ []) c.idle.ensures c.idle-2.ensures))
    (fleet c.args.duty)
