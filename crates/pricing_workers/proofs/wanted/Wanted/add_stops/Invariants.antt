use Rattle.pricing_workers.proofs.Common.{◌≡◌, ◌++◌, map, take, Stop}
use Rattle.pricing_workers.proofs.wanted.Wanted.add_stops.Given as goal

-- the nodes of the stops so far were added, and nothing else
abbrev pub invariant-loop-stop : goal.invariant-loop-stop
invariant-loop-stop l =
    (l.self.nodes.items ≡ l.initial.self.nodes.items ++ map (λ (stop : Stop). stop.node) (take l.stop-index l.stops))
    × (l.self.plans ≡ l.initial.self.plans)
