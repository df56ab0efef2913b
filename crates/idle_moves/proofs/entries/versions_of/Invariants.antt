use Rattle.idle_moves.proofs.Common.{◌≡◌, take, versions_of}
use Rattle.idle_moves.proofs.entries.versions_of.Given as goal

-- the versions so far
abbrev pub invariant-loop-vehicle : goal.invariant-loop-vehicle
invariant-loop-vehicle l = l.versions.entries ≡ versions_of (take l.vehicle-index l.vehicles)
