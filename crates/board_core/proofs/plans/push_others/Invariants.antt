use Rattle.board_core.proofs.Common.{◌≡◌, ◌++◌, take, map, Stop, stops_without}
use Rattle.board_core.proofs.plans.push_others.Given as goal

-- the nodes so far
abbrev pub invariant-loop-stop : goal.invariant-loop-stop
invariant-loop-stop l = l.nodes.items ≡ l.initial.nodes.items ++ map (λ (stop : Stop). stop.node) (stops_without l.id (take l.stop-index l.stops))
