use Rattle.std.proofs.Common.{arith, refl}
use Rattle.plan_trials.proofs.trial_town.IdleVehicle.{fleet-of, lawful-idle, may-start}
use Rattle.plan_trials.proofs.trial_town.fleet.Goals as goal

pub new-requires-3 : goal.new-requires-3
new-requires-3 c = rw (c.in_ok-push.ensures.items, c.in_ok-vehicles.ensures.items) (fleet-of _ (omega arith))

pub returns-clause-start : goal.returns-clause-start
returns-clause-start c = λ settings fit.
    rw (c.new-3.ensures, c.in_ok-push.ensures.items, c.in_ok-vehicles.ensures.items)
    (may-start c.args.roads.now _ (lawful-idle c.args.roads.now _ c.new.ensures c.new-2.ensures (omega arith) (omega arith) (omega arith)
    (omega arith) (omega (arith, c.requires)) (omega arith)) c.new-2.ensures refl settings fit)
