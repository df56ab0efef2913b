use Rattle.std.proofs.Common.{arith}
use Rattle.plan_trials.proofs.drawn_plans.idle_vehicle.Goals as goal
use Rattle.plan_trials.specs.SmallPlans.{four_nodes}
use Rattle.plan_trials.proofs.trial_town.IdleVehicle.{lawful-idle}

pub returns-clause-lawful : goal.returns-clause-lawful
returns-clause-lawful c =
    lawful-idle four_nodes _ c.new.ensures c.new-2.ensures (omega arith) (omega (arith, c.below.ensures)) (omega (arith, c.below-2.ensures))
    (omega arith) (omega (arith, c.below-3.ensures)) (omega (arith, c.from.ensures, c.below-4.ensures))
