-- Who is aboard, ride by ride.
use Rattle.std.specs.Prelude.{ℕ, ◌+◌, ◌≤◌, ◌==◌, if◌then◌else◌, Bool, List, [], ◌∷◌}
use Rattle.ride_model.specs.declared.vehicle.Load.{Load}
use Rattle.ride_model.specs.declared.vehicle.Ride.{Ride}
use Rattle.ride_model.specs.declared.vehicle.Stop.{Stop}
use Rattle.ride_model.specs.Loads.{is_pickup}

-- who is aboard after a stop, where these were before it
abbrev pub boarded : Stop → List Ride → List Bool → List Bool
boarded stop (ride ∷ rides) (aboard ∷ more) =
    (if stop.ride == ride.id then is_pickup stop.kind else aboard) ∷ boarded stop rides more
boarded stop _ _ = []

-- the seats, and the chairs, of those who are aboard
abbrev pub seats_aboard : List Ride → List Bool → ℕ
seats_aboard (ride ∷ rides) (aboard ∷ more) = (if aboard then ride.seats else 0) + seats_aboard rides more
seats_aboard _ _ = 0

abbrev pub chairs_aboard : List Ride → List Bool → ℕ
chairs_aboard (ride ∷ rides) (aboard ∷ more) = (if aboard then ride.chairs else 0) + chairs_aboard rides more
chairs_aboard _ _ = 0

-- a load of at most 8 seats and 4 chairs
abbrev pub IsSmall : Ride → Type 0
IsSmall ride = (ride.seats ≤ 8) × (ride.chairs ≤ 4)

-- the load of those who are aboard
abbrev pub load_aboard : List Ride → List Bool → Load
load_aboard rides aboard = record { seats = seats_aboard rides aboard; chairs = chairs_aboard rides aboard }

-- the load after each of these stops, where these are aboard before them
abbrev pub loads_behind : List Ride → List Bool → List Stop → List Load
loads_behind rides aboard [] = []
loads_behind rides aboard (stop ∷ stops) =
    load_aboard rides (boarded stop rides aboard) ∷ loads_behind rides (boarded stop rides aboard) stops
