-- What a city has over its road network.
use Rattle.std.specs.Prelude.{◌≢◌, ⊤}
use Rattle.ride_model.specs.declared.command.Command.{Command}
use Rattle.ride_model.specs.declared.command.Command.TheVariants.{Request, At}
use Rattle.ride_model.specs.Road.{RoadMap, IsNode}

-- each node that a command names is on the map, and a request joins two
abbrev pub IsOnMap : RoadMap → Command → Type 0
IsOnMap map (Request id from to seats latest longest chairs) = IsNode map from × IsNode map to × (from ≢ to)
IsOnMap map (At vehicle node time) = IsNode map node
IsOnMap map _ = ⊤
