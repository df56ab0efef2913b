use Rattle.adaptive_roads.proofs.Common.{subst, IsFitContraction}
use Rattle.adaptive_roads.proofs.contraction.Views.{fit-seen}
use Rattle.adaptive_roads.proofs.contraction.Contraction.finish.Goals as goal

pub returns-clause-fits : goal.returns-clause-fits
returns-clause-fits c = subst IsFitContraction c.into_graph-graph.ensures.seen (fit-seen c.args.self.is_spent c.into_graph-graph.result c.into_graph-graph.ensures.graph)
