use Rattle.promises.proofs.Common.{◌≡◌, ◌≤◌, ◌++◌, length, drop, filter, ride_ids, breaks_along}
use Rattle.promises.proofs.late.broken_among.Given as goal

-- those so far and those of the rides that are left are all
abbrev pub invariant-loop-ride : goal.invariant-loop-ride
invariant-loop-ride l = record {
  so_far : l.broken ++ ride_ids (filter (breaks_along l.stops l.times) (drop l.ride-index l.rides))
      ≡ ride_ids (filter (breaks_along l.stops l.times) l.rides);
  few : length l.broken ≤ l.ride-index;
}
