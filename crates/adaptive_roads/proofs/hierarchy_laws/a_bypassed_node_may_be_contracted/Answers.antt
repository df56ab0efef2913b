use Rattle.adaptive_roads.proofs.Common.{Contains}
use Rattle.adaptive_roads.proofs.hierarchy_laws.Growing.{hierarchy-taken}
use Rattle.adaptive_roads.proofs.hierarchy_laws.a_bypassed_node_may_be_contracted.Goals as goal

pub returns : goal.returns
returns c roads links = hierarchy-taken (Contains roads.arcs) (Contains links)
