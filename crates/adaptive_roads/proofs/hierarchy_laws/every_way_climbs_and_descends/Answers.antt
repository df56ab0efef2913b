use Rattle.adaptive_roads.proofs.Common.{Contains}
use Rattle.adaptive_roads.proofs.hierarchy_laws.Climbing.{climbs}
use Rattle.adaptive_roads.proofs.hierarchy_laws.every_way_climbs_and_descends.Goals as goal

pub returns : goal.returns
returns c roads links = climbs (Contains roads.arcs) (Contains links)
