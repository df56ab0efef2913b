use Rattle.adaptive_roads.proofs.contraction.Pruning.{same-hierarchy}
use Rattle.adaptive_roads.proofs.contraction.shortcuts.contract.Goals as goal

pub returns-clause-hierarchy : goal.returns-clause-hierarchy
returns-clause-hierarchy c = λ roads h.
    same-hierarchy roads c.prune_all.new.graph c.prune_all-2.new.graph c.prune_all-2.ensures.same
    (same-hierarchy roads c.take_out.new.graph c.prune_all.new.graph c.prune_all.ensures.same
    (c.take_out.ensures.hierarchy roads h))
