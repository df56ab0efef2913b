-- Stop times.
use Rattle.std.specs.Prelude.{ℕ, ◌+◌, ◌==◌, List, [], ◌∷◌, filter, zip, unwrap_or, None}
use Rattle.std.specs.List.{last_or}
use Rattle.ride_model.specs.declared.vehicle.Stop.{Stop}
use Rattle.ride_model.specs.declared.vehicle.Vehicle.{Vehicle}

-- the arrival at each stop of a vehicle that leaves at a time and stands dwell seconds at each stop
abbrev pub times_from : ℕ → ℕ → List Stop → List ℕ
times_from dwell leave [] = []
times_from dwell leave (stop ∷ stops) = (leave + stop.leg) ∷ times_from dwell (leave + stop.leg + dwell) stops

-- a vehicle's arrivals from a start
abbrev pub times_of : Vehicle → ℕ → ℕ → List ℕ
times_of v start dwell = times_from dwell start v.stops.items

-- the seconds from the start to the last arrival, 0 for an idle vehicle
abbrev pub drive_of : Vehicle → ℕ → ℕ
drive_of v dwell = unwrap_or (last_or None (times_of v 0 dwell)) 0

-- a ride's stops with their times
abbrev pub visits_of : Vehicle → ℕ → ℕ → ℕ → List (Stop × ℕ)
visits_of v start dwell id = filter (λ (visit : Stop × ℕ). visit.0.ride == id) (zip v.stops.items (times_of v start dwell))
