use Rattle.std.proofs.Common.{false, true, ◌∷◌, [], sym, ap, ◌∙◌, subst}
use Rattle.std.proofs.lemmas.Result.{IfOk-at_ok}
use Rattle.ride_model.specs.Fleet.{IsFleet}
use Rattle.seating_trials.proofs.InTurn.{fleet-is}
use Rattle.seating_trials.proofs.turns.fleet.Goals as goal

pub new-requires : goal.new-requires
new-requires g c =
    subst IsFleet (sym (IfOk-at_ok _ c.expect.ensures c.vec-vehicles.ensures.items)) (fleet-is c.args.first false c.requires)

pub new-requires-2 : goal.new-requires-2
new-requires-2 g c =
    subst IsFleet (sym (IfOk-at_ok _ c.expect-2.ensures c.vec-vehicles-2.ensures.items
    ∙ ap (λ second. c.args.first ∷ second ∷ []) c.idle.ensures))
    (fleet-is c.args.first true c.requires)
