-- Awards, and what they leave.
use Rattle.std.specs.Prelude.{◌≡◌, ℕ, ◌+◌, ◌==◌, List, [], ◌∷◌, ◌++◌, map, position, Option}
use Rattle.ride_model.specs.declared.command.Actor.TheVariants.{Feed, Desk}
use Rattle.ride_model.specs.declared.command.Command.{Command}
use Rattle.ride_model.specs.declared.command.Command.TheVariants.{Request, Ask}
use Rattle.ride_model.specs.declared.entry.Entry.{Entry}
use Rattle.ride_model.specs.declared.entry.Event.TheVariants.{Fed, Opened, Committed}
use Rattle.ride_model.specs.declared.entry.Outcome.TheVariants.{Confirmed as ConfirmedState}
use Rattle.ride_model.specs.declared.offer.Seat.{Seat}
use Rattle.ride_model.specs.declared.reply.Reply.TheVariants.{Waiting, Asked}
use Rattle.ride_model.specs.declared.vehicle.Ride.{Ride}
use Rattle.ride_model.specs.declared.vehicle.Vehicle.{Vehicle}
use Rattle.ride_model.specs.Legal.{versions_of}
use Rattle.ride_model.specs.State.{State}
use Rattle.ride_model.specs.Vehicle.{ride_ids}
use Rattle.dual_check.specs.Grid.{pairing_cost}
use Rattle.fleet_league.specs.declared.briefs.Brief.{Brief}
use Rattle.fleet_league.specs.declared.briefs.Win.{Win}
use Rattle.fleet_league.specs.Prices.{prices_of}

-- the rides of wins, and the places in the fleet of their vehicles
abbrev pub won_rides : List Win → List Ride
won_rides wins = map (λ (win : Win). win.ride) wins

abbrev pub won_columns : List Vehicle → List Win → List (Option ℕ)
won_columns vehicles wins = map (λ (win : Win). position (λ (v : Vehicle). v.id == win.vehicle) vehicles) wins

-- the request of a ride
abbrev pub request_of : Ride → Command
request_of ride = Request ride.id ride.from ride.to ride.seats ride.latest ride.longest ride.chairs

-- the entries by which wins are requested, and by which a batch of them is asked for
abbrev pub asking_entries : State → List Win → List Entry
asking_entries s wins = map (λ (win : Win). record { actor = Feed 1; event = Fed (request_of win.ride) Waiting }) wins
    ++ (record { actor = Feed 1; event = Fed Ask (Asked (s.asked + 1)) }) ∷ []

-- the entries by which this batch is opened, committed and given up
abbrev pub opening_entry : State → List Win → Entry
opening_entry s wins =
    record { actor = Desk 1; event = Opened (s.opened + 1) s.clock (ride_ids (won_rides wins)) (versions_of s.vehicles) }

-- its cost is that of the pairs, and each win is confirmed
abbrev pub confirming_entry : State → Brief → List Seat → Entry
confirming_entry s brief seats = record {
  actor = Desk 1;
  event = Committed (s.opened + 1)
      (pairing_cost (prices_of s (won_rides brief.wins)) s.settings.penalty (won_columns s.vehicles brief.wins)) seats
      (map (λ (win : Win). (win.ride.id, win.price)) brief.wins) brief.pays
      (map (λ (win : Win). (win.ride.id, ConfirmedState)) brief.wins);
}

-- seats of just the wins, each ride in its vehicle
abbrev pub AreSeatsOf : List Win → List Seat → Type 0
AreSeatsOf wins seats =
    map {B = ℕ × ℕ} (λ (seat : Seat). (seat.request, seat.vehicle)) seats ≡ map (λ (win : Win). (win.ride.id, win.vehicle)) wins

-- a history goes on by a confirmed award: its wins are requested, and one batch is asked for, opened and committed with these seats
pub record AddsAward (s : State) (brief : Brief) (old new : List Entry) : Type 0 where
  pub seats : List Seat
  pub seats_are : AreSeatsOf brief.wins seats
  pub grows : new ≡ old ++ asking_entries s brief.wins ++ opening_entry s brief.wins ∷ confirming_entry s brief seats ∷ []
