-- A new company of one vehicle quotes two rides of the town.
use Rattle.std.proofs.Common.{◌≡◌, List, [], ◌∷◌, length, Result, Ok, Err, sym, ap, subst, ◌∙◌}
use Rattle.std.specs.Prelude.{All, IfOk, nat_eq}
use Rattle.std.specs.List.{IsDistinct}
use Rattle.std.specs.declared.alloc.AllocError.{AllocError}
use Rattle.std.proofs.lemmas.Bool.{ne_eqb}
use Rattle.std.proofs.lemmas.List.Elements.{All-from_recursion}
use Rattle.std.proofs.lemmas.Map.Keys.{IsDistinct-cons}
use Rattle.ride_model.specs.declared.vehicle.Ride.{Ride}
use Rattle.ride_model.specs.State.{State}
use Rattle.ride_model.specs.Vehicle.{ride_ids}
use Rattle.dual_check.specs.Cells.{GridCells}
use Rattle.board_core.specs.Recorded.{state_of}
use Rattle.fleet_league.specs.inner.Companies.{CompanyState}
use Rattle.fleet_league.specs.declared.quotes.Quote.{Quote}
use Rattle.fleet_league.specs.Prices.{prices_of}
use Rattle.fleet_league.specs.inner.Prices.{IsNewRide}
use Rattle.fleet_league.specs.inner.Round.{IsPriced}
use Rattle.league_trials.specs.OneVehicle.{AreTownRides, IsNewCompany, IsQuoteOfTwo, IsTownRide}
use Rattle.league_trials.proofs.OneVehicle.{begun, new-rides, one-column, one-ride}

pub new-two : (company : CompanyState) (rides : List Ride) → IsNewCompany company → AreTownRides rides
    → All (IsNewRide (state_of company.board)) rides
new-two company rides is two =
    new-rides company rides is (subst (All IsTownRide) (sym two.rides_are)
    (All-from_recursion IsTownRide (two.first ∷ two.second ∷ []) (two.first_fits, (two.second_fits, tt))))

pub two-differ : (rides : List Ride) → AreTownRides rides → IsDistinct nat_eq (ride_ids rides)
two-differ rides two =
    subst (λ (rs : List Ride). IsDistinct nat_eq (ride_ids rs)) (sym two.rides_are)
    (IsDistinct-cons nat_eq two.first.id (two.second.id ∷ []) (ne_eqb two.first.id two.second.id two.ids_differ, tt) (one-ride two.second))

-- its quote has a price for each ride
pub quote-of-two : (company : CompanyState) (rides : List Ride) (quoted : Result Quote AllocError) → IsNewCompany company → AreTownRides rides
    → IfOk quoted (λ quote. quote.prices ≡ prices_of (state_of company.board) rides) → IfOk quoted (λ quote. IsPriced quote.prices)
    → IfOk quoted IsQuoteOfTwo
quote-of-two company rides (Err e) is two prices priced = tt
quote-of-two company rides (Ok quote) is two prices priced = record {
  priced = priced;
  two_rides = ap (λ (p : GridCells). p.rows) prices ∙ ap length two.rides_are;
  one_vehicle = ap (λ (p : GridCells). p.columns) prices ∙ ap (λ (s : State). length s.vehicles) (begun company.board is.nothing_yet)
      ∙ one-column company.board.start is.start.one_vehicle;
}
