use Rattle.fleet_league.proofs.Common.{◌≡◌, take}
use Rattle.fleet_league.proofs.quoting.copies_of.Given as goal

-- those so far are copied
abbrev pub invariant-loop-vehicle : goal.invariant-loop-vehicle
invariant-loop-vehicle l = l.copies.items ≡ take l.vehicle-index l.vehicles
