use Rattle.stop_plans.proofs.Common.{◌≡◌, ◌+◌, ◌*◌, ◌≤◌, drop, seats_aboard, chairs_aboard}
use Rattle.stop_plans.proofs.stop_loads.load_of.Given as goal

-- the load so far and that of the rest is the load of all
abbrev pub invariant-loop-i : goal.invariant-loop-i
invariant-loop-i l = record {
  seats : l.load.seats + seats_aboard (drop l.i l.rides) (drop l.i l.aboard) ≡ seats_aboard l.rides l.aboard;
  chairs : l.load.chairs + chairs_aboard (drop l.i l.rides) (drop l.i l.aboard) ≡ chairs_aboard l.rides l.aboard;
  few_seats : l.load.seats ≤ 8 * l.i;
  few_chairs : l.load.chairs ≤ 4 * l.i;
}
