use Rattle.stop_plans.proofs.Common.{◌≡◌, load_aboard}
use Rattle.stop_plans.proofs.AboardLists.{so_far_boarded}
use Rattle.stop_plans.proofs.stop_loads.load_behind.Given as goal

-- the riders so far are in or out, and the load is that of those who are aboard
abbrev pub invariant-loop-i : goal.invariant-loop-i
invariant-loop-i l = record {
  riders : l.aboard ≡ so_far_boarded l.stop l.rides l.initial.aboard l.i;
  load : l.load ≡ load_aboard l.rides l.aboard;
}
