-- Companies of one vehicle in a town of four nodes, rides there, and what the vehicle wins.
use Rattle.std.specs.Prelude.{◌≡◌, ◌≢◌, ℕ, ◌≤◌, List, [], ◌∷◌, Some, All, IsTrue}
use Rattle.ride_model.specs.declared.vehicle.Ride.{Ride}
use Rattle.ride_model.specs.declared.settings.Settings.{Settings}
use Rattle.ride_model.specs.declared.vehicle.Vehicle.{Vehicle}
use Rattle.ride_model.specs.Fleet.{MayStart}
use Rattle.ride_model.specs.Legal.{versions_of}
use Rattle.ride_model.specs.Road.{RoadMap}
use Rattle.ride_model.specs.Seating.{vehicle_ids}
use Rattle.ride_model.specs.State.{State}
use Rattle.ride_model.specs.Settings.{IsSettings}
use Rattle.dual_check.specs.Cells.{GridCells}
use Rattle.fleet_league.specs.Awards.{AddsAward}
use Rattle.fleet_league.specs.inner.Companies.{CompanyState}
use Rattle.fleet_league.specs.declared.briefs.Brief.{Brief}
use Rattle.fleet_league.specs.declared.quotes.Quote.{Quote}
use Rattle.fleet_league.specs.Prices.{prices_of}
use Rattle.fleet_league.specs.inner.Round.{IsPriced}
use Rattle.league_trials.specs.Sides.{IsRideOf}

-- a node of the town
abbrev pub IsTownNode : ℕ → Type 0
IsTownNode node = (1 ≤ node) × (node ≤ 4)

-- a ride of a map of four nodes
abbrev pub IsTownRide : Ride → Type 0
IsTownRide ride = IsRideOf 4 ride

-- two such rides
pub record AreTownRides (rides : List Ride) : Type 0 where
  pub first : Ride
  pub second : Ride
  pub rides_are : rides ≡ first ∷ second ∷ []
  pub first_fits : IsTownRide first
  pub second_fits : IsTownRide second
  pub ids_differ : first.id ≢ second.id

-- the fleet of vehicle 1 before anything happened
pub record IsOneVehicleFleet (roads : RoadMap) (fleet : List Vehicle) : Type 0 where
  pub start : (settings : Settings) → IsSettings settings → MayStart roads settings fleet
  pub one : vehicle_ids fleet ≡ 1 ∷ []

-- the state of it in a map of four nodes
pub record IsOneVehicle (start : State) : Type 0 where
  pub four_nodes : start.roads.nodes ≡ 4
  pub one_vehicle : vehicle_ids start.vehicles ≡ 1 ∷ []
  pub penalty : start.settings.penalty ≡ 3600
  pub batch : start.settings.batch ≡ 1
  pub version : start.settings.log ≡ 1
  pub no_requests : start.requests ≡ []
  pub none_asked : start.asked ≡ 0

-- an open company of it, on whose board nothing happened yet
pub record IsNewCompany (company : CompanyState) : Type 0 where
  pub is_open : IsTrue company.is_open
  pub start : IsOneVehicle company.board.start
  pub nothing_yet : company.board.history ≡ []

-- the price of one vehicle for one ride
abbrev pub one_price : ℕ → GridCells
one_price price = record { rows = 1; columns = 1; cells = Some price ∷ [] }

-- vehicle 1 wins a ride, and pays nothing
abbrev pub won_alone : Ride → ℕ → Brief
won_alone ride price = record { wins = (record { ride = ride; vehicle = 1; price = price }) ∷ []; pays = [] }

-- it wins nothing
abbrev pub won_none : Brief
won_none = record { wins = []; pays = [] }

-- what a company quotes of the state that its board starts from, for a ride of this price
pub record IsQuoteOf (start : State) (ride : Ride) (price : ℕ) (quote : Quote) : Type 0 where
  pub time : quote.time ≡ start.clock
  pub plans : quote.plans ≡ versions_of start.vehicles
  pub price_is : quote.prices ≡ one_price price
  pub prices : prices_of start (ride ∷ []) ≡ one_price price

-- an open company whose board has an award of a ride, and nothing else
pub record HasWon (ride : Ride) (price : ℕ) (company : CompanyState) : Type 0 where
  pub is_open : IsTrue company.is_open
  pub start : IsOneVehicle company.board.start
  pub adds : AddsAward company.board.start (won_alone ride price) [] company.board.history

-- prices of one vehicle for two rides
pub record IsQuoteOfTwo (quote : Quote) : Type 0 where
  pub priced : IsPriced quote.prices
  pub two_rides : quote.prices.rows ≡ 2
  pub one_vehicle : quote.prices.columns ≡ 1
