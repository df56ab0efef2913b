use Rattle.adaptive_roads.proofs.Common.{subst, IsFitContraction}
use Rattle.adaptive_roads.proofs.contraction.Views.{fit-seen}
use Rattle.adaptive_roads.proofs.contraction.Contraction.nodes.Goals as goal

pub returns-clause-fits : goal.returns-clause-fits
returns-clause-fits c = subst IsFitContraction c.self.view_is (fit-seen c.self.inside.is_spent c.self.inside.graph c.self.invariant.0)
