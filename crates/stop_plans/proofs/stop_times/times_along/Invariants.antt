use Rattle.stop_plans.proofs.Common.{◌≡◌, ◌≤◌, ◌+◌, ◌*◌, ◌++◌, length, drop, times_from}
use Rattle.stop_plans.proofs.stop_times.times_along.Given as goal

-- the times so far and those of what is left are the times of all
abbrev pub invariant-loop-stop : goal.invariant-loop-stop
invariant-loop-stop l = record {
  so_far : l.times.items ++ times_from l.dwell l.leave (drop l.stop-index l.stops) ≡ times_from l.dwell l.start l.stops;
  many : length l.times.items ≡ l.stop-index;
  bound : l.leave ≤ l.start + l.stop-index * 500000000003600;
}
