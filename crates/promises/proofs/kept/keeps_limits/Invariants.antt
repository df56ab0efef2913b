use Rattle.promises.proofs.Common.{◌≡◌, drop, not, list_all, Ride, breaks_along}
use Rattle.promises.proofs.kept.keeps_limits.Given as goal

-- no ride so far is broken
abbrev pub invariant-loop-ride : goal.invariant-loop-ride
invariant-loop-ride l =
    list_all (λ (ride : Ride). not (breaks_along l.stops l.times ride)) (drop l.ride-index l.rides)
    ≡ list_all (λ (ride : Ride). not (breaks_along l.stops l.times ride)) l.rides
