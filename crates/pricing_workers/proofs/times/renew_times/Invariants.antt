use Rattle.pricing_workers.proofs.Common.{◌≤◌, length, take, All, HasRows}
use Rattle.pricing_workers.proofs.times.renew_times.Given as goal

-- the first are ready
abbrev pub invariant-loop-place : goal.invariant-loop-place
invariant-loop-place l = All (HasRows l.nodes) (take l.place l.times.items) × (l.place ≤ length l.times.items)
