use Rattle.radix_queue.proofs.Counts.{key_in-within}
use Rattle.adaptive_roads.proofs.Common.{◌∙◌, arith}
use Rattle.adaptive_roads.proofs.contraction.Contraction.step.Goals as goal

pub invariant_of-self : goal.invariant_of-self
invariant_of-self c =
    let (graph, room, keyed) = c.self.invariant in
    (graph, room, c.take_least.ensures.size ∙ keyed)

pub judge-requires-clause-node : goal.judge-requires-clause-node
judge-requires-clause-node c =
    let (graph, room, keyed) = c.self.invariant in
    omega (arith, keyed, key_in-within c.self.inside.queue.keys c.in-Some.node c.in-Some.key c.in-Some.ensures.least.here)

pub invariant_of-self-in_err-judged : goal.invariant_of-self-in_err-judged
invariant_of-self-in_err-judged c =
    let (graph, room, keyed) = c.self.invariant in
    (graph, c.judge.ensures, c.take_least.ensures.size ∙ keyed)

pub invariant_of-self-then-judged-saturating_sub : goal.invariant_of-self-then-judged-saturating_sub
invariant_of-self-then-judged-saturating_sub c =
    let (graph, room, keyed) = c.self.invariant in
    (graph, c.judge.ensures, c.take_least.ensures.size ∙ keyed)

pub put_or_lower-requires-clause-node_in : goal.put_or_lower-requires-clause-node_in
put_or_lower-requires-clause-node_in c =
    omega (arith, c.take_least.ensures.size, key_in-within c.self.inside.queue.keys c.in-Some.node c.in-Some.key c.in-Some.ensures.least.here)

pub put_or_lower-requires-clause-floor : goal.put_or_lower-requires-clause-floor
put_or_lower-requires-clause-floor c = omega (arith, c.in-Some.ensures.floor, c.if-wanted-key.true)

pub invariant_of-self-then-wanted-key : goal.invariant_of-self-then-wanted-key
invariant_of-self-then-wanted-key c =
    let (graph, room, keyed) = c.self.invariant in
    (graph, c.judge.ensures, c.put_or_lower.ensures.size ∙ (c.take_least.ensures.size ∙ keyed))

pub invariant_of-self-else-wanted-key : goal.invariant_of-self-else-wanted-key
invariant_of-self-else-wanted-key c =
    let (graph, room, keyed) = c.self.invariant in
    (graph, c.judge.ensures, c.take_least.ensures.size ∙ keyed)
