use Rattle.adaptive_roads.proofs.Common.{refl}
use Rattle.adaptive_roads.proofs.contraction.Witnesses.{witness-improved}
use Rattle.adaptive_roads.proofs.contraction.witness.Witness.improve.Goals as goal

pub returns-clause-ways : goal.returns-clause-ways
returns-clause-ways c =
    let (nodes, roomy, low) = c.requires.room in
    witness-improved c.args.self.now _ c.args.node c.args.time nodes roomy low refl refl c.put_or_lower.ensures.key c.put_or_lower.ensures.others
