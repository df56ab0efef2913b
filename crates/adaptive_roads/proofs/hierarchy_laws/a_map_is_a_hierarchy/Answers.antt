use Rattle.adaptive_roads.proofs.Common.{Contains}
use Rattle.adaptive_roads.proofs.hierarchy_laws.Growing.{hierarchy-none}
use Rattle.adaptive_roads.proofs.hierarchy_laws.a_map_is_a_hierarchy.Goals as goal

pub returns : goal.returns
returns c roads = hierarchy-none (Contains roads.arcs)
