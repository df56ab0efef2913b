use Rattle.adaptive_roads.proofs.Common.{Contains}
use Rattle.adaptive_roads.proofs.hierarchy_laws.Sweeping.{swept-is_travel}
use Rattle.adaptive_roads.proofs.hierarchy_laws.labels_are_travel_times.Goals as goal

pub returns : goal.returns
returns c never roads links = swept-is_travel never roads (Contains links)
