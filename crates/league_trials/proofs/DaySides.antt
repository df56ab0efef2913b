-- What holds of a company before a call of a day.
use Rattle.std.proofs.Common.{◌≡◌, ℕ, ◌+◌, ◌-◌, ◌<◌, ◌≤◌, inl, inr, false, List, [], ◌∷◌, length, get_or, eqb, refl, sym, ap, subst, ◌∙◌, arith}
use Rattle.std.specs.Prelude.{All, IsTrue, Option, Some, None, is_some, nat_eq, option_map}
use Rattle.std.specs.List.{IsDistinct}
use Rattle.std.proofs.lemmas.Bool.{cases_lt, ne_eqb}
use Rattle.std.proofs.lemmas.List.{get_or-map, get_or_default, length-map}
use Rattle.std.proofs.lemmas.List.Sums.{count_by-le-length}
use Rattle.std.proofs.lemmas.Map.Keys.{IsDistinct-from_apart}
use Rattle.ride_model.specs.declared.settings.Settings.{Settings}
use Rattle.ride_model.specs.declared.vehicle.Ride.{Ride}
use Rattle.ride_model.specs.declared.vehicle.Vehicle.{Vehicle}
use Rattle.ride_model.specs.History.{fed_commands}
use Rattle.ride_model.specs.Road.{IsRoadMap}
use Rattle.ride_model.specs.State.{State, AcceptedRequest, accepted_request, request_state}
use Rattle.ride_model.specs.Text.{IsSpelledCommand}
use Rattle.ride_model.specs.Vehicle.{IsLawful, ride_ids}
use Rattle.ride_model.specs.inner.Vehicle.{IsRoutedSomewhere}
use Rattle.model_laws.proofs.plain.Among.{Among}
use Rattle.model_laws.proofs.plain.Each.{of_all, all_of}
use Rattle.board_core.specs.Recorded.{Recorded, state_of}
use Rattle.board_core.proofs.OpenBatches.{fed-le}
use Rattle.city_maker.specs.Fleets.{default_settings}
use Rattle.fleet_league.specs.Awards.{request_of}
use Rattle.fleet_league.specs.inner.Companies.{CompanyState, is_report, report_count}
use Rattle.fleet_league.specs.inner.Winning.{MayPlay}
use Rattle.fleet_league.specs.inner.Prices.{IsNewRide}
use Rattle.fleet_league.proofs.Legality.{IsLegalBoard, board-roads, sure}
use Rattle.fleet_league.proofs.MayAward.{ride-spelled}
use Rattle.league_trials.specs.Sides.{IsFreshRide}
use Rattle.league_trials.proofs.FewRequests.{few-requests}

-- there are no more reports than entries
pub few-reports : (board : Recorded) → report_count board.history ≤ length board.history
few-reports board = omega (arith, count_by-le-length is_report (fed_commands 1 board.history), fed-le 1 board.history)

-- rides whose ids rise differ
pub rising-differ : (rides : List Ride)
    → ((i j : ℕ) (d : Ride) → i < j → j < length rides → (get_or rides i d).id < (get_or rides j d).id)
    → IsDistinct nat_eq (ride_ids rides)
rising-differ rides rising = IsDistinct-from_apart eqb (ride_ids rides) (λ i j d before j_in.
    let low : j < length rides = omega (arith, j_in, length-map rides (λ (r : Ride). r.id)) in
    apart rides i j d before low (rising i j))
  where
    apart : (all : List Ride) (i j d : ℕ) → i < j → j < length all
        → ((e : Ride) → i < j → j < length all → (get_or all i e).id < (get_or all j e).id)
        → eqb (get_or (ride_ids all) i d) (get_or (ride_ids all) j d) ≡ false
    apart [] i j d before low rise = absurd (omega (arith, low))
    apart (r ∷ rest) i j d before low rise =
        let first : get_or (ride_ids (r ∷ rest)) i d ≡ (get_or (r ∷ rest) i r).id
        = get_or-map (λ (x : Ride). x.id) (r ∷ rest) i r d (omega (arith, before, low)) in
        let second : get_or (ride_ids (r ∷ rest)) j d ≡ (get_or (r ∷ rest) j r).id
        = get_or-map (λ (x : Ride). x.id) (r ∷ rest) j r d low in
        ne_eqb _ _ (λ same. omega (arith, rise r before low, first, second, same))

-- with one id more that is higher than the one before it
pub rises-more : (rides : List Ride) (place : ℕ) (a b : Ride) → 1 ≤ place → place < length rides
    → (get_or rides (place - 1) a).id < (get_or rides place b).id
    → ((i j : ℕ) (d : Ride) → i < j → j < place → (get_or rides i d).id < (get_or rides j d).id)
    → (i j : ℕ) (d : Ride) → i < j → j < place + 1 → (get_or rides i d).id < (get_or rides j d).id
rises-more rides place a b some low last before i j d less within = elim (cases_lt j place) [
  | inl earlier ↦ before i j d less earlier
  | inr at ↦
      let here : j ≡ place = omega (arith, at, within) in
      let end : (get_or rides (place - 1) d).id < (get_or rides place d).id
      = subst (λ (r : Ride). r.id < (get_or rides place d).id) (get_or_default rides (place - 1) a d (omega (arith, low)))
      (subst (λ (r : Ride). (get_or rides (place - 1) a).id < r.id) (get_or_default rides place b d low) last) in
      subst (λ (n : ℕ). (get_or rides i d).id < (get_or rides n d).id) (sym here) (elim (cases_lt i (place - 1)) [
        | inl lower ↦ omega (arith, before i (place - 1) d lower (omega (arith, some)), end)
        | inr same ↦
            let is : i ≡ place - 1 = omega (arith, same, less, here) in
            subst (λ (n : ℕ). (get_or rides n d).id < (get_or rides place d).id) (sym is) end
      ])
]

-- a vehicle of a board is routed
pub routed-at : (board : Recorded) (vehicles : List Vehicle) (place : ℕ) (d : Vehicle) → IsLegalBoard board
    → vehicles ≡ (state_of board).vehicles → place < length vehicles → IsRoutedSomewhere (get_or vehicles place d)
routed-at board vehicles place d legal same low =
    let lawful : All (IsLawful board.start.roads) vehicles = subst (All (IsLawful board.start.roads)) (sym same)
    (subst (λ m. All (IsLawful m) (state_of board).vehicles) (board-roads board legal) (sure board legal).lawful) in
    (board.start.roads, legal.begins.map_fits, (lawful place d low).routed)

-- a request without a state is not accepted
pub not-accepted : (s : State) (id : ℕ) → is_some (request_state s id) ≡ false → accepted_request s id ≡ None
not-accepted s id none = by_found (accepted_request s id) none
  where
    by_found : (found : Option AcceptedRequest) → is_some (option_map (λ (r : AcceptedRequest). r.state) found) ≡ false → found ≡ None
    by_found None is = refl
    by_found (Some r) is = absurd (cc is)

-- fresh rides may be quoted and won
pub may-play : (company : CompanyState) (nodes : ℕ) (rides : List Ride) → IsLegalBoard company.board
    → company.board.start.settings ≡ default_settings → company.board.start.roads.nodes ≡ nodes → IsTrue company.is_open
    → length rides ≤ 32 → length company.board.history < 90000 → (state_of company.board).asked < 2000
    → IsDistinct nat_eq (ride_ids rides) → All (IsFreshRide nodes (state_of company.board)) rides → MayPlay company rides
may-play company nodes rides legal settings map_is is_open few short asked differ fresh =
    let board : Recorded = company.board in
    let s : State = state_of board in
    let roads = board-roads board legal in
    let none : length board.start.requests ≡ 0 = ap (λ (t : State). length t.requests) legal.begins.nothing_yet in
    let each : (ride : Ride) → Among ride rides → IsFreshRide nodes s ride = λ ride there. of_all (IsFreshRide nodes s) rides ride fresh there in
    record {
      is_open = is_open;
      each = all_of (IsNewRide s) rides (λ ride there. record {
        fits = (each ride there).of_map.fits s.roads (ap (λ m. m.nodes) roads ∙ map_is);
        waits = (each ride there).of_map.waits;
        not_accepted = (each ride there).not_accepted;
      });
      differ = differ;
      spelled = all_of (λ (ride : Ride). IsSpelledCommand board.start.settings.log (request_of ride)) rides (λ ride there.
          ride-spelled s.roads board.start.settings.log ride (subst IsRoadMap (sym roads) legal.begins.map_fits)
          ((each ride there).of_map.fits s.roads (ap (λ m. m.nodes) roads ∙ map_is)) (each ride there).of_map.spelled
          (λ _. (each ride there).of_map.no_chairs));
      room = record {
        in_batch = omega (arith, few, ap (λ (x : Settings). x.batch) settings);
        requests = omega (arith, few-requests board.start board.history, none, short, few);
        batches = asked;
      };
    }

-- a ride whose request has a text of the first version asks for no chairs
pub no-chairs : (log : ℕ) (ride : Ride) → IsSpelledCommand log (request_of ride) → log ≡ 1 → ride.chairs ≡ 0
no-chairs log ride (id, from, to, seats, latest, longest, chairs, rule) = rule
