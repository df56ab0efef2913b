use Rattle.slack_tables.proofs.Common.{◌≡◌, drop, first_visit}
use Rattle.slack_tables.proofs.trips.first_visit.Given as goal

-- no stop so far is the visit
abbrev pub invariant-loop-i : goal.invariant-loop-i
invariant-loop-i l = first_visit l.i l.id l.kind (drop l.i l.stops) (drop l.i l.times) ≡ first_visit 0 l.id l.kind l.stops l.times
