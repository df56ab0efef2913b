-- What a company quotes.
use Rattle.std.specs.Prelude.{ℕ, List, length, map}
use Rattle.std.specs.List.{flat_map}
use Rattle.ride_model.specs.declared.settings.Settings.{Settings}
use Rattle.ride_model.specs.declared.vehicle.Ride.{Ride}
use Rattle.ride_model.specs.declared.vehicle.Vehicle.{Vehicle}
use Rattle.ride_model.specs.Legal.{versions_of}
use Rattle.ride_model.specs.Offers.{price}
use Rattle.ride_model.specs.Road.{RoadMap}
use Rattle.ride_model.specs.State.{State}
use Rattle.dual_check.specs.Cells.{GridCells}
use Rattle.fleet_league.specs.declared.quotes.Quote.{Quote}

-- the prices of vehicles for rides at a time: a row for each ride, a column for each vehicle
abbrev pub prices_by : RoadMap → Settings → ℕ → List Vehicle → List Ride → GridCells
prices_by roads settings time vehicles rides = record {
  rows = length rides;
  columns = length vehicles;
  cells = flat_map (λ (ride : Ride). map (λ (v : Vehicle). price roads settings v ride time) vehicles) rides;
}

-- the prices of a state's vehicles, as they stand, for rides at its clock
abbrev pub prices_of : State → List Ride → GridCells
prices_of s rides = prices_by s.roads s.settings s.clock s.vehicles rides

-- what is quoted of a state for rides: its clock, its vehicles' versions in fleet order, and their prices
abbrev pub quote_of : State → List Ride → Quote
quote_of s rides = record { time = s.clock; plans = versions_of s.vehicles; prices = prices_of s rides }
