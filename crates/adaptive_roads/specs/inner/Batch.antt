-- What a contract sees of the roads of a batch.
use Rattle.std.specs.Prelude.{ℕ, List, Option, IfSome, All}
use Rattle.ride_model.specs.Road.{RoadMap, IsNode}
use Rattle.adaptive_roads.specs.inner.Selections.{Selected, IsSelectedOf}

-- the roads, and the wanted nodes
pub record Wants : Type 0 where
  pub roads : RoadMap
  pub wanted : List ℕ

-- the wanted nodes are nodes of the roads, and what was selected is for them
pub record AreServed (roads : RoadMap) (wanted : List ℕ) (selections : Option Selected) : Type 0 where
  pub wanted_inside : All (IsNode roads) wanted
  pub selected : IfSome selections (IsSelectedOf roads wanted)
