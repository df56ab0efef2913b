use Rattle.adaptive_roads.proofs.Common.{subst, Contains}
use Rattle.adaptive_roads.proofs.contraction.Growths.{incoming-from_neighbor, outgoing-from_neighbor}
use Rattle.adaptive_roads.proofs.contraction.shortcuts.judge.Goals as goal

pub judge_all-requires-clause-ins : goal.judge_all-requires-clause-ins
judge_all-requires-clause-ins c = λ into there.
    incoming-from_neighbor c.args.graph.now c.args.node into
    (c.in_ok-neighbors.ensures.sound into (subst (λ list. Contains list into) c.as_slice.ensures.value there))

pub judge_all-requires-clause-outs : goal.judge_all-requires-clause-outs
judge_all-requires-clause-outs c = λ onward there.
    outgoing-from_neighbor c.args.graph.now c.args.node onward
    (c.in_ok-neighbors-2.ensures.sound onward (subst (λ list. Contains list onward) c.as_slice-2.ensures.value there))
