use Rattle.adaptive_roads.proofs.Common.{Contains}
use Rattle.adaptive_roads.proofs.hierarchy_laws.Growing.{hierarchy-flipped}
use Rattle.adaptive_roads.proofs.hierarchy_laws.Sweeping.{travel-flipped}
use Rattle.adaptive_roads.proofs.hierarchy_laws.a_hierarchy_may_be_turned_round.Goals as goal

pub returns-clause-hierarchy : goal.returns-clause-hierarchy
returns-clause-hierarchy c roads back links chain = hierarchy-flipped (Contains roads.arcs) (Contains links) (Contains back.arcs) (Contains chain)

pub returns-clause-times : goal.returns-clause-times
returns-clause-times c = travel-flipped
