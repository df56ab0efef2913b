use Rattle.dual_check.proofs.CertifiedPairings.{certified_pairing_is_least}
use Rattle.dual_check.proofs.laws.weak_duality_grid.Goals as goal

pub returns : goal.returns
returns c = certified_pairing_is_least c.args.grid.now c.args.penalty c.args.paired.now.columns c.args.paired.now.prices
    c.args.paired.now.pays c.requires
