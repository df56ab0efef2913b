use Rattle.pricing_workers.proofs.Common.{◌≡◌, ◌+◌, map, range_with_len, near_at}
use Rattle.pricing_workers.proofs.pairs.near_stops.Given as goal

-- the times at the nodes so far
abbrev pub invariant-loop-node : goal.invariant-loop-node
invariant-loop-node l = l.near.items ≡ map (λ node. near_at l.times (l.first + node)) (range_with_len 0 l.node)
