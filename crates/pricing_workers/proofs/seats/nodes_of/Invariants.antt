use Rattle.pricing_workers.proofs.Common.{◌≡◌, ◌∷◌, map, take, Stop}
use Rattle.pricing_workers.proofs.seats.nodes_of.Given as goal

-- the nodes so far
abbrev pub invariant-loop-stop : goal.invariant-loop-stop
invariant-loop-stop l = l.nodes.items ≡ l.vehicle.at ∷ map (λ (stop : Stop). stop.node) (take l.stop-index l.stop-items)
