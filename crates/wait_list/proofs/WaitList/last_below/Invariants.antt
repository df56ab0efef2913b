use Rattle.wait_list.proofs.Common.{list_at, nodes_left}
use Rattle.wait_list.proofs.Walk.{IsWalk}
use Rattle.wait_list.proofs.WaitList.last_below.Given as goal

abbrev pub invariant-loop-current : goal.invariant-loop-current
invariant-loop-current l = IsWalk (list_at l.self-inside.links 0) l.place l.last l.current

abbrev pub decreases-loop-current : goal.decreases-loop-current
decreases-loop-current l = nodes_left l.current (list_at l.self-inside.links 0)
