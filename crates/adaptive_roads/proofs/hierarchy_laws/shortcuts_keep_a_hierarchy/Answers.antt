use Rattle.adaptive_roads.proofs.Common.{Contains}
use Rattle.adaptive_roads.proofs.hierarchy_laws.Growing.{hierarchy-grown}
use Rattle.adaptive_roads.proofs.hierarchy_laws.shortcuts_keep_a_hierarchy.Goals as goal

pub returns : goal.returns
returns c roads links more = hierarchy-grown (Contains roads.arcs) (Contains links) (Contains more)
