use Rattle.adaptive_roads.proofs.Common.{IsRoomy, IsWitness}
use Rattle.adaptive_roads.proofs.contraction.witness.Witness.search.Given as goal

abbrev pub invariant-settling : goal.invariant-settling
invariant-settling l = record {
  room : IsRoomy l.graph.nodes l.self;
  ways : IsWitness l.graph l.avoided l.source l.self;
}
