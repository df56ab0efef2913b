use Rattle.adaptive_roads.proofs.Common.{Contains}
use Rattle.adaptive_roads.proofs.hierarchy_laws.Sweeping.{gathered}
use Rattle.adaptive_roads.proofs.hierarchy_laws.the_sweep_gathers_least_weights.Goals as goal

pub returns : goal.returns
returns c never links = gathered never (Contains links)
