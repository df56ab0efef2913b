use Rattle.promises.proofs.Common.{◌≡◌, drop, arrival_of}
use Rattle.promises.proofs.arrivals.arrival.Given as goal

-- no stop so far is the visit
abbrev pub invariant-loop-i : goal.invariant-loop-i
invariant-loop-i l = arrival_of l.id l.kind (drop l.i l.stops) (drop l.i l.times) ≡ arrival_of l.id l.kind l.stops l.times
