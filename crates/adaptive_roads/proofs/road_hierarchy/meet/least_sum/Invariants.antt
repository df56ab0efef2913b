use Rattle.adaptive_roads.proofs.Common.{length, IsMeeting}
use Rattle.adaptive_roads.proofs.road_hierarchy.meet.least_sum.Given as goal

abbrev pub invariant-loop-up : goal.invariant-loop-up
invariant-loop-up l = IsMeeting l.ups l.downs (length l.yielded) l.least
