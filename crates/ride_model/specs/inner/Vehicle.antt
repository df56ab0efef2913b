-- What only lemmas and lower contracts use beside Vehicle.antt.
use Rattle.std.specs.Prelude.{ℕ, List, map, Contains}
use Rattle.ride_model.specs.declared.vehicle.Ride.{Ride}
use Rattle.ride_model.specs.declared.vehicle.Vehicle.{Vehicle}
use Rattle.ride_model.specs.Road.{RoadMap, IsRoadMap}
use Rattle.ride_model.specs.Vehicle.{ride_ids, IsRouted, IsLawful}

-- an id that no ride has
abbrev pub IsFresh : List Ride → ℕ → Type 0
IsFresh rides id = Contains (ride_ids rides) id → ⊥

-- a vehicle that is lawful over some map
abbrev pub IsLawfulSomewhere : Vehicle → Type 0
IsLawfulSomewhere v = (map : RoadMap) × IsRoadMap map × IsLawful map v

-- a vehicle whose record is in order over some map
abbrev pub IsRoutedSomewhere : Vehicle → Type 0
IsRoutedSomewhere v = (map : RoadMap) × IsRoadMap map × IsRouted map v
