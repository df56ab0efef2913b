use Rattle.pricing_workers.proofs.Common.{take, IsWanted}
use Rattle.pricing_workers.proofs.wanted.Wanted.renew.Given as goal

-- what is wanted for the vehicles so far
abbrev pub invariant-loop-place : goal.invariant-loop-place
invariant-loop-place l = IsWanted l.settings l.time (take l.place l.vehicles) l.self
