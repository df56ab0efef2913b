use Rattle.adaptive_roads.proofs.Common.{◌≡◌, ℕ, Out, IsFound, IsRoomy, IsWitness}
use Rattle.adaptive_roads.proofs.contraction.Collecting.{IsCursor}
use Rattle.adaptive_roads.proofs.contraction.witness.Witness.relax.Given as goal

abbrev pub invariant-loop-cursor : goal.invariant-loop-cursor
invariant-loop-cursor l = record {
  at_arc : IsCursor Out l.graph.arcs.items l.node l.cursor;
  room : IsRoomy l.graph.nodes l.self;
  floor : l.self.queue.floor ≡ l.time;
  ways : (source : ℕ) → IsFound l.graph l.avoided source l.node l.time → IsWitness l.graph l.avoided source l.initial.self
      → IsWitness l.graph l.avoided source l.self;
}

abbrev pub decreases-loop-cursor : goal.decreases-loop-cursor
decreases-loop-cursor l = l.cursor
