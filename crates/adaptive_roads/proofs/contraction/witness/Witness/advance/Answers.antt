use Rattle.adaptive_roads.proofs.Common.{refl, Witness}
use Rattle.adaptive_roads.proofs.contraction.Witnesses.{witness-taken}
use Rattle.adaptive_roads.proofs.contraction.witness.Witness.advance.Goals as goal

pub returns-then-time-limit-clause-ways : goal.returns-then-time-limit-clause-ways
returns-then-time-limit-clause-ways c = λ source w.
    let old = c.args.self.now in
    let taken : Witness = record { queue = c.take_least.new.self; reached = old.reached; round = old.round } in
    witness-taken old taken c.in_ok-node.node c.args.graph.now c.args.avoided source w refl refl c.in_ok-node.ensures.taken_out c.in_ok-node.ensures.others

pub returns-clause-ways : goal.returns-clause-ways
returns-clause-ways c = λ source w.
    let old = c.args.self.now in
    let taken : Witness = record { queue = c.take_least.new.self; reached = old.reached; round = old.round } in
    let found = w.keyed c.in_ok-node.node c.in_ok-node.time c.in_ok-node.ensures.least.here in
    c.relax.ensures.ways source found
    (witness-taken old taken c.in_ok-node.node c.args.graph.now c.args.avoided source w refl refl c.in_ok-node.ensures.taken_out c.in_ok-node.ensures.others)
