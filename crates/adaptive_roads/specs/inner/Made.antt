-- A hierarchy, and what it was made of.
use Rattle.std.specs.Prelude.{◌≡◌}
use Rattle.ride_model.specs.Road.{RoadMap}
use Rattle.adaptive_roads.specs.inner.contraction.Contracted.{Contracted, IsContractionOf}

-- a map, and a hierarchy that was made of it
pub record MadeOf : Type 0 where
  pub roads : RoadMap
  pub hierarchy : Contracted

-- it is a hierarchy of the map, over the same nodes
pub record IsMadeOf (roads : RoadMap) (hierarchy : Contracted) : Type 0 where
  pub contraction : IsContractionOf roads hierarchy
  pub nodes : hierarchy.nodes ≡ roads.nodes
