-- Room for a ride more beside what is aboard.
use Rattle.std.specs.Prelude.{◌+◌, Bool, List, [], ◌∷◌, map}
use Rattle.ride_model.specs.declared.vehicle.Load.{Load}
use Rattle.ride_model.specs.declared.vehicle.Ride.{Ride}
use Rattle.ride_model.specs.declared.vehicle.Vehicle.{Vehicle}
use Rattle.ride_model.specs.Loads.{fits_load, load_after, loads_of}

-- a load with that of a ride more
abbrev pub load_beside : Ride → Load → Load
load_beside ride load = record { seats = load.seats + ride.seats; chairs = load.chairs + ride.chairs }

-- whether a ride fits beside a load
abbrev pub fits_beside : Vehicle → Ride → Load → Bool
fits_beside v ride load = fits_load v (load_beside ride load)

-- whether a ride fits beside the load before each place of a plan
abbrev pub rooms_of : Vehicle → Ride → List Bool
rooms_of v ride = map (fits_beside v ride) (load_after v.rides.items [] ∷ loads_of v)
