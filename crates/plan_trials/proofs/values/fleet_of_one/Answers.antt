use Rattle.std.proofs.Common.{sym, ◌∙◌, ap, subst, arith}
use Rattle.std.specs.Prelude.{[], ◌∷◌, ◌++◌}
use Rattle.ride_model.specs.Fleet.{IsFleet}
use Rattle.plan_trials.proofs.trial_town.IdleVehicle.{fleet-of}
use Rattle.plan_trials.proofs.values.fleet_of_one.Goals as goal

pub new-fleet-requires : goal.new-fleet-requires
new-fleet-requires c =
    subst IsFleet (sym (c.in_ok-push.ensures.items ∙ ap (λ items. items ++ c.idle.result ∷ []) c.new-vehicles.ensures.items))
    (fleet-of c.idle.result (omega (arith, c.idle.ensures)))
