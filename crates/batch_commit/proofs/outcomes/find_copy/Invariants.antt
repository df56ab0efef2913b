use Rattle.batch_commit.proofs.Common.{◌≡◌, drop, find, ◌==◌, Vehicle}
use Rattle.batch_commit.proofs.outcomes.find_copy.Given as goal

-- what is found in all is what is found in those that are left
abbrev pub invariant-loop-vehicle : goal.invariant-loop-vehicle
invariant-loop-vehicle l = find (λ (x : Vehicle). x.id == l.id) l.vehicles ≡ find (λ (x : Vehicle). x.id == l.id) (drop l.vehicle-index l.vehicles)
