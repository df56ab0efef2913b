-- What a company of a day is asked.
use Rattle.std.specs.Prelude.{◌≡◌, ℕ, ◌%◌, ◌==◌, Bool, List, [], filter, None, All}
use Rattle.ride_model.specs.declared.vehicle.Ride.{Ride}
use Rattle.ride_model.specs.declared.vehicle.Vehicle.{Vehicle}
use Rattle.ride_model.specs.Road.{RoadMap}
use Rattle.ride_model.specs.State.{State, accepted_request}
use Rattle.ride_model.specs.Text.{IsSpelled}
use Rattle.ride_model.specs.Vehicle.{IsLawful, IsRide}
use Rattle.dual_check.specs.declared.paired.Paired.{Paired}
use Rattle.fleet_league.specs.declared.briefs.Brief.{Brief}
use Rattle.fleet_league.specs.declared.quotes.Quote.{Quote}
use Rattle.fleet_league.specs.league_session.League.{round_columns, round_rows}
use Rattle.fleet_league.specs.Round.{IsRound, company_prices}
use Rattle.fleet_league.specs.league_session.RoundParts.{brief_of}

-- a ride that waits, fits every map of so many nodes, and whose request has a text of the first version
pub record IsRideOf (nodes : ℕ) (ride : Ride) : Type 0 where
  pub fits : (roads : RoadMap) → roads.nodes ≡ nodes → IsRide roads ride
  pub waits : ride.picked ≡ None
  pub spelled : IsSpelled ride.id
  pub no_chairs : ride.chairs ≡ 0

-- one that a state has not accepted
pub record IsFreshRide (nodes : ℕ) (s : State) (ride : Ride) : Type 0 where
  pub of_map : IsRideOf nodes ride
  pub not_accepted : accepted_request s ride.id ≡ None

-- the vehicles of a fleet whose ids have this rest by 2
abbrev pub has_rest : ℕ → ℕ → Bool
has_rest rest id = id % 2 == rest

abbrev pub half_of : ℕ → List Vehicle → List Vehicle
half_of rest vehicles = filter (λ (v : Vehicle). has_rest rest v.id) vehicles

-- two companies' parts of a round over their quotes for rides
pub record AreParts (quotes : List Quote) (rides : List Ride) (first second : Brief) : Type 0 where
  pub round : Paired
  pub is_round : IsRound 3600 (company_prices quotes) round
  pub first_is : first ≡ brief_of 1 (round_rows quotes rides round) (round_columns quotes round)
  pub second_is : second ≡ brief_of 2 (round_rows quotes rides round) (round_columns quotes round)
