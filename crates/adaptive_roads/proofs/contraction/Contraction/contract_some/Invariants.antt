use Rattle.adaptive_roads.proofs.Common.{◌≡◌, IsFalse, RoadMap, IsContractionOf}
use Rattle.adaptive_roads.proofs.contraction.Contraction.contract_some.Given as goal

abbrev pub invariant-loop-left : goal.invariant-loop-left
invariant-loop-left l = record {
  hierarchy : (roads : RoadMap) → IsContractionOf roads l.initial.self → IsContractionOf roads l.self;
  nodes : l.self.nodes ≡ l.initial.self.nodes;
  unspent : IsFalse l.self.is_spent;
}

abbrev pub decreases-loop-left : goal.decreases-loop-left
decreases-loop-left l = l.left
