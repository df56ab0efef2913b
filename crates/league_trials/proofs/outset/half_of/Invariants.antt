use Rattle.std.proofs.Common.{◌≡◌, take}
use Rattle.league_trials.specs.Sides.{half_of}
use Rattle.league_trials.proofs.outset.half_of.Given as goal

-- those of the vehicles so far are kept
abbrev pub invariant-loop-vehicle : goal.invariant-loop-vehicle
invariant-loop-vehicle l = l.vehicles.items ≡ half_of l.rest (take l.vehicle-index l.fleet)
