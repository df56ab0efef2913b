use Rattle.fleet_league.proofs.Common.{◌≡◌, drop, first_moved}
use Rattle.fleet_league.proofs.awards.first_moved.Given as goal

-- those so far have not moved
abbrev pub invariant-loop-place : goal.invariant-loop-place
invariant-loop-place l = first_moved l.plans l.vehicles ≡ first_moved (drop l.place l.plans) (drop l.place l.vehicles)
