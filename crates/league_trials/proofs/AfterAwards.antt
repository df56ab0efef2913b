-- A board of one vehicle after a report, or after an award of one ride, may be awarded another ride.
use Rattle.std.proofs.Common.{◌≡◌, ◌≢◌, ℕ, ◌≤◌, ◌||◌, Bool, true, false, cond, List, [], ◌∷◌, ◌++◌, length, eqb, Option, Some, None, refl, sym, ap, subst, ◌∙◌, arith}
use Rattle.std.specs.Prelude.{IsTrue, find, ◌==◌, nat_eq}
use Rattle.std.specs.List.{IsDistinct}
use Rattle.std.proofs.lemmas.Bool.{eq-eqb, eqb-true, ne_eqb}
use Rattle.std.proofs.lemmas.Map.Keys.{IsDistinct-head}
use Rattle.ride_model.specs.declared.command.Command.{Command}
use Rattle.ride_model.specs.declared.entry.Entry.{Entry}
use Rattle.ride_model.specs.declared.vehicle.Ride.{Ride}
use Rattle.ride_model.specs.Legal.{IsLegal, replay}
use Rattle.ride_model.specs.State.{State, AcceptedRequest, accepted_request}
use Rattle.model_laws.specs.inner.history_laws.Consistent.{request_ids}
use Rattle.model_laws.specs.history_laws.Start.{IsStart}
use Rattle.model_laws.proofs.history_laws.EveryState.{consistent}
use Rattle.board_core.specs.Recorded.{Recorded, state_of}
use Rattle.board_core.specs.inner.Recorded.{fed_entry}
use Rattle.board_core.proofs.OpenBatches.{state-push}
use Rattle.fleet_league.specs.Awards.{AddsAward, asking_entries, confirming_entry, opening_entry}
use Rattle.fleet_league.specs.inner.Companies.{CompanyState, is_report}
use Rattle.fleet_league.specs.declared.briefs.Brief.{Brief}
use Rattle.fleet_league.proofs.Reports.{quiet-step}
use Rattle.fleet_league.proofs.WonOnly.{won-only}
use Rattle.league_trials.specs.OneVehicle.{HasWon, IsNewCompany, IsOneVehicle, won_alone}
use Rattle.league_trials.proofs.OneVehicle.{IsClear, begun, none-accepted}

-- what an award or a report leaves of a company: where its board starts
pub start-stays : (old new : CompanyState) (is_open : Bool)
    → new ≡ record { board = record old.board { history = new.board.history; spare = new.board.spare }; is_open = is_open }
    → new.board.start ≡ old.board.start
start-stays old new is_open others = ap (λ (company : CompanyState). company.board.start) others

-- after a report
pub clear-reported : (company : CompanyState) (board : Recorded) (command : Command) (ride : Ride) → IsNewCompany company
    → is_report command ≡ true → board.start ≡ company.board.start
    → board.history ≡ company.board.history ++ fed_entry (state_of company.board) 1 command ∷ []
    → IsStart board.start → IsLegal board.feeds board.desks board.start board.history → IsClear ride board
clear-reported company board command ride is report start history begins legal =
    let entry = fed_entry (state_of company.board) 1 command in
    let before = begun company.board is.nothing_yet in
    let sure = consistent board.feeds board.desks board.start board.history begins legal in
    let state_is = state-push company.board board entry start history in
    let quiet = quiet-step (state_of company.board) command report in
    let none : length (state_of board).requests ≡ 0 = ap (λ (s : State). length s.requests) state_is ∙ quiet.as_many
    ∙ ap (λ (s : State). length s.requests) before ∙ ap length is.start.no_requests in
    let none_asked : (state_of board).asked ≡ 0 = ap (λ (s : State). s.asked) state_is ∙ quiet.asked ∙ ap (λ (s : State). s.asked) before
    ∙ is.start.none_asked in
    record {
      roads_stay = sure.roads_stay;
      not_accepted = none-accepted (state_of board) ride.id none;
      few_requests = omega (arith, none);
      few_asked = omega (arith, none_asked);
    }

-- the request of an id in a list
abbrev found_in : List AcceptedRequest → ℕ → Option AcceptedRequest
found_in requests id = find (λ (r : AcceptedRequest). r.ride.id == id) requests

-- at most one request is there where all have one id
one-left : (s : State) (id : ℕ) → IsDistinct nat_eq (request_ids s.requests)
    → ((other : ℕ) → eqb id other ≡ false → accepted_request s other ≡ None) → length s.requests ≤ 1
one-left s id differ others = by s.requests differ others
  where
    is-first : (r : AcceptedRequest) (requests : List AcceptedRequest)
        → ((other : ℕ) → eqb id other ≡ false → found_in (r ∷ requests) other ≡ None) → (b : Bool) → eqb id r.ride.id ≡ b → id ≡ r.ride.id
    is-first r requests others true is = eqb-true id r.ride.id is
    is-first r requests others false is =
        absurd (cc (others r.ride.id is, ap (λ b. cond b (Some r) (found_in requests r.ride.id)) (eq-eqb r.ride.id r.ride.id refl)))

    is-second : (r t : AcceptedRequest) (requests : List AcceptedRequest)
        → ((other : ℕ) → eqb id other ≡ false → found_in (r ∷ t ∷ requests) other ≡ None) → (b : Bool) → eqb id t.ride.id ≡ b → id ≡ t.ride.id
    is-second r t requests others true is = eqb-true id t.ride.id is
    is-second r t requests others false is =
        absurd (some (eqb r.ride.id t.ride.id) (ap (λ b. cond b (Some t) (found_in requests t.ride.id)) (eq-eqb t.ride.id t.ride.id refl)) (others t.ride.id is))
      where
        some : (b : Bool) → found_in (t ∷ requests) t.ride.id ≡ Some t → cond b (Some r) (found_in (t ∷ requests) t.ride.id) ≡ None → ⊥
        some true found none = cc none
        some false found none = cc (found, none)

    by : (requests : List AcceptedRequest) → IsDistinct nat_eq (request_ids requests)
        → ((other : ℕ) → eqb id other ≡ false → found_in requests other ≡ None) → length requests ≤ 1
    by [] differ others = omega arith
    by (r ∷ []) differ others = omega arith
    by (r ∷ t ∷ requests) differ others =
        let same : r.ride.id ≡ t.ride.id = sym (is-first r (t ∷ requests) others (eqb id r.ride.id) refl)
        ∙ is-second r t requests others (eqb id t.ride.id) refl in
        absurd (cc ((IsDistinct-head eqb r.ride.id (request_ids (t ∷ requests)) differ).0, eq-eqb r.ride.id t.ride.id same))

-- after an award of another ride
pub clear-awarded : (board : Recorded) (won ride : Ride) (price : ℕ) → IsOneVehicle board.start
    → AddsAward board.start (won_alone won price) [] board.history → won.id ≢ ride.id
    → IsStart board.start → IsLegal board.feeds board.desks board.start board.history → IsClear ride board
clear-awarded board won ride price start adds another begins legal =
    let s : State = board.start in
    let brief : Brief = won_alone won price in
    let sure = consistent board.feeds board.desks board.start board.history begins legal in
    let state_is : state_of board
    ≡ replay s (asking_entries s brief.wins ++ opening_entry s brief.wins ∷ confirming_entry s brief adds.seats ∷ [])
    = ap (replay s) adds.grows in
    let no_other : (other : ℕ) → eqb won.id other ≡ false → accepted_request (state_of board) other ≡ None = λ other differs.
    ap (λ (t : State). accepted_request t other) state_is
    ∙ (won-only other s brief adds.seats).no_other (ap (λ b. b || false) differs) (none-accepted s other (ap length start.no_requests)) in
    record {
      roads_stay = sure.roads_stay;
      not_accepted = no_other ride.id (ne_eqb won.id ride.id another);
      few_requests = one-left (state_of board) won.id sure.requests_differ no_other;
      few_asked = omega (arith, ap (λ (t : State). t.asked) state_is, (won-only 0 s brief adds.seats).few_asked, start.none_asked);
    }

-- a new company that was awarded a ride
pub has-won : (old new : CompanyState) (ride : Ride) (price : ℕ) (brief : Brief) → IsNewCompany old → brief ≡ won_alone ride price
    → new.board.start ≡ old.board.start → IsTrue new.is_open
    → AddsAward (state_of old.board) brief old.board.history new.board.history → HasWon ride price new
has-won old new ride price brief is brief_is start still adds =
    let here : state_of old.board ≡ new.board.start = begun old.board is.nothing_yet ∙ sym start in record {
      is_open = still;
      start = subst IsOneVehicle (sym start) is.start;
      adds = subst (λ (s : State). AddsAward s (won_alone ride price) [] new.board.history) here
          (subst (λ (b : Brief). AddsAward (state_of old.board) b [] new.board.history) brief_is
          (subst (λ (h : List Entry). AddsAward (state_of old.board) brief h new.board.history) is.nothing_yet adds));
    }
