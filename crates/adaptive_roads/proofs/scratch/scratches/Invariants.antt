use Rattle.adaptive_roads.proofs.Common.{◌≡◌, length, All}
use Rattle.adaptive_roads.proofs.scratch.scratches.Given as goal

-- as many as were counted, each for the map
abbrev pub invariant-loop : goal.invariant-loop
invariant-loop l = All (λ scratch. scratch.nodes ≡ l.roads.nodes) l.scratches.items × (length l.scratches.items ≡ l.counter)
