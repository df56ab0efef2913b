-- Whether the hierarchy of roads was seen.
use Rattle.ride_model.specs.Road.{RoadMap}
use Rattle.adaptive_roads.specs.inner.Made.{IsMadeOf}
use Rattle.adaptive_roads.specs.declared.travel_times.Seen.{Seen}
use Rattle.adaptive_roads.specs.declared.travel_times.Seen.TheVariants.{NotYet, There, Never}

-- what was seen is a hierarchy of these roads
abbrev pub IsSeenOf : RoadMap → Seen → Type 0
IsSeenOf roads NotYet = Unit {0}
IsSeenOf roads (There hierarchy) = IsMadeOf roads hierarchy.now
IsSeenOf roads Never = Unit {0}
