use Rattle.std.proofs.Common.{refl, arith}
use Rattle.plan_trials.proofs.trial_town.IdleVehicle.{fleet-of, lawful-idle}
use Rattle.league_trials.proofs.OneVehicle.{idle-fleet}
use Rattle.league_trials.proofs.three_companies.fleet_at.Goals as goal

pub new-requires-3 : goal.new-requires-3
new-requires-3 c = rw (c.in_ok-push.ensures.items, c.in_ok-vehicles.ensures.items) (fleet-of _ (omega arith))

pub returns : goal.returns
returns c =
    rw (c.new-3.ensures, c.in_ok-push.ensures.items, c.in_ok-vehicles.ensures.items)
    (idle-fleet c.args.roads.now _ (lawful-idle c.args.roads.now _ c.new.ensures c.new-2.ensures (omega arith) (omega arith) (omega arith)
    c.requires.node.0 (omega (arith, c.requires.node.1, c.requires.nodes)) (omega arith)) c.new-2.ensures refl refl)
