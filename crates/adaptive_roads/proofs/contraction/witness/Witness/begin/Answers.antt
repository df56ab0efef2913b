use Rattle.adaptive_roads.proofs.Common.{◌+◌, refl, Witness}
use Rattle.adaptive_roads.proofs.contraction.Witnesses.{roomy-begun, witness-begun}
use Rattle.adaptive_roads.proofs.contraction.witness.Witness.begin.Goals as goal

pub returns-clause-room : goal.returns-clause-room
returns-clause-room c = λ nodes roomy.
    let old = c.args.self.now in
    let begun : Witness = record { queue = c.clear.new.self; reached = old.reached; round = old.round + 1 } in
    c.improve.ensures.room nodes (roomy-begun old begun nodes roomy refl refl c.clear.ensures.empty)

pub returns-clause-ways : goal.returns-clause-ways
returns-clause-ways c = λ _ graph avoided found.
    let old = c.args.self.now in
    let (nodes, roomy, _) = c.requires.room in
    let begun : Witness = record { queue = c.clear.new.self; reached = old.reached; round = old.round + 1 } in
    c.improve.ensures.ways graph avoided c.args.source found (witness-begun old begun nodes roomy refl refl c.clear.ensures.empty graph avoided c.args.source)
