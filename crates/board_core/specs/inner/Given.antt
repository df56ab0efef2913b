-- What never changes while a board stands.
use Rattle.std.specs.Prelude.{ℕ, List}
use Rattle.ride_model.specs.declared.settings.Settings.{Settings}
use Rattle.ride_model.specs.Road.{RoadMap}

-- the map, the owner's settings, and the vehicles' ids in fleet order
pub record Given : Type 0 where
  pub roads : RoadMap
  pub settings : Settings
  pub ids : List ℕ
