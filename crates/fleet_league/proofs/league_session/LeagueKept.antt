-- A league stays in order from line to line.
use Rattle.fleet_league.proofs.Common.{Result, Ok, Err, ◌≡◌, ℕ, ◌+◌, true, List, [], length, refl, sym, ap, subst, ◌∙◌, arith, is_some, OnOk, Vehicle, RoadMap, replay, Command, Request, Cancel, At, Done, On, Off, Clock, Ask, Bad, Settings, Ride, entries_of, fed_commands, State, accepted_request, start_state, step, IsSpelledCommand, Recorded, state_of, CompanyState, is_report, report_count, is_driver_report, after_round, league_start, IsBeside, IsDesk, IsLeague, IsMember, IsPlayed, IsReported, LeagueBoards, is_riders, league_of}
use Rattle.fleet_league.proofs.league_session.Beside.{AreWaiting, beside-answered, beside-played, beside-reported}

-- a driver's report is a report
pub driver-reports : (command : Command) → is_driver_report command ≡ true → is_report command ≡ true
driver-reports (Request id from to seats latest longest chairs) is = absurd (cc is)
driver-reports (Cancel id) is = absurd (cc is)
driver-reports (At vehicle node time) is = refl
driver-reports (Done vehicle) is = refl
driver-reports (On vehicle) is = refl
driver-reports (Off vehicle) is = refl
driver-reports (Clock time) is = absurd (cc is)
driver-reports Ask is = absurd (cc is)
driver-reports (Bad line) is = absurd (cc is)

-- a company of which a line has asked nothing
pub member-later : (desk : Recorded) (company : CompanyState) (lines : ℕ) → IsMember desk company lines → IsMember desk company (lines + 1)
member-later desk company lines member = record {
  is_open = member.is_open;
  same_roads = member.same_roads;
  same_settings = member.same_settings;
  beside = member.beside;
  few_reports = omega (arith, member.few_reports);
}

-- one that has answered a report
pub member-reported : (desk : Recorded) (old new : CompanyState) (lines : ℕ) (command : Command) → IsMember desk old lines
    → is_report command ≡ true → IsReported command old new → IsMember desk new (lines + 1)
member-reported desk old new lines command member is reported = record {
  is_open = reported.is_open ∙ member.is_open;
  same_roads = ap (λ (t : State). t.roads) reported.start ∙ member.same_roads;
  same_settings = ap (λ (t : State). t.settings) reported.start ∙ member.same_settings;
  beside = subst (IsBeside (state_of desk)) (sym reported.state_is)
      (beside-reported (state_of desk) (state_of old.board) command member.beside is);
  few_reports = omega (arith, reported.reports, member.few_reports);
}

-- one beside a desk that has answered a rider
pub member-answered : (old new : Recorded) (company : CompanyState) (lines log : ℕ) (command : Command) → IsMember old company lines
    → is_riders command ≡ true → IsSpelledCommand log command → new.start ≡ old.start
    → state_of new ≡ (step (state_of old) command).state → IsMember new company (lines + 1)
member-answered old new company lines log command member is spelled start state_is = record {
  is_open = member.is_open;
  same_roads = member.same_roads ∙ sym (ap (λ (t : State). t.roads) start);
  same_settings = member.same_settings ∙ sym (ap (λ (t : State). t.settings) start);
  beside = subst (λ (t : State). IsBeside t (state_of company.board)) (sym state_is)
      (beside-answered log (state_of old) (state_of company.board) command member.beside is spelled);
  few_reports = omega (arith, member.few_reports);
}

-- one that has played a round
pub member-played : (old new : Recorded) (company after : CompanyState) (lines : ℕ) (rides : List Ride) → IsMember old company lines
    → AreWaiting (state_of old) rides → IsPlayed rides company after → new.start ≡ old.start
    → state_of new ≡ after_round (state_of old) rides → IsMember new after (lines + 1)
member-played old new company after lines rides member waiting played start state_is = record {
  is_open = played.is_open;
  same_roads = ap (λ (t : State). t.roads) played.start ∙ member.same_roads ∙ sym (ap (λ (t : State). t.roads) start);
  same_settings = ap (λ (t : State). t.settings) played.start ∙ member.same_settings ∙ sym (ap (λ (t : State). t.settings) start);
  beside = subst (λ (t : State). IsBeside t (state_of after.board)) (sym state_is)
      (beside-played (state_of old) company after rides member.beside waiting played);
  few_reports = omega (arith, played.reports, member.few_reports);
}

-- one whose companies have answered
pub league-reported : (boards : LeagueBoards) (first second : CompanyState) (lines : ℕ) → IsLeague lines boards
    → IsMember boards.desk first (lines + 1) → IsMember boards.desk second (lines + 1)
    → IsLeague (lines + 1) (record boards { first = first; second = second })
league-reported boards first second lines league one two = record {
  desk_fits = league.desk_fits;
  few_commands = omega (arith, league.few_commands);
  first_fits = one;
  second_fits = two;
}

-- one whose desk has answered
pub league-answered : (boards : LeagueBoards) (desk : Recorded) (lines log : ℕ) (command : Command) → IsLeague lines boards
    → is_riders command ≡ true → IsSpelledCommand log command → IsDesk desk → desk.start ≡ boards.desk.start
    → state_of desk ≡ (step (state_of boards.desk) command).state
    → length (fed_commands 1 desk.history) ≡ length (fed_commands 1 boards.desk.history) + 1
    → IsLeague (lines + 1) (record boards { desk = desk })
league-answered boards desk lines log command league is spelled fits start state_is more = record {
  desk_fits = fits;
  few_commands = omega (arith, league.few_commands, more);
  first_fits = member-answered boards.desk desk boards.first lines log command league.first_fits is spelled start state_is;
  second_fits = member-answered boards.desk desk boards.second lines log command league.second_fits is spelled start state_is;
}

-- three parts of what holds where there is an answer
pub on-three : {A E P Q R S : Type 0} (r : Result A E) → OnOk r P → OnOk r Q → OnOk r R → (P → Q → R → S) → OnOk r S
on-three (Ok a) p q s f = f p q s
on-three (Err e) p q s f = tt

-- a company at its start
pub member-new : (desk : Recorded) (company : CompanyState) (roads : RoadMap) (settings : Settings) (fleet : List Vehicle)
    → desk.start ≡ start_state roads settings [] → desk.history ≡ [] → company.board.start ≡ start_state roads settings fleet
    → company.board.history ≡ [] → company.is_open ≡ true → IsMember desk company 0
unfolding replay entries_of
member-new desk company roads settings fleet desk_start desk_history start history is_open =
    let state_is : state_of company.board ≡ start_state roads settings fleet = λ i. replay (start i) (history i) in
    record {
      is_open = is_open;
      same_roads = ap (λ (t : State). t.roads) start ∙ sym (ap (λ (t : State). t.roads) desk_start);
      same_settings = ap (λ (t : State). t.settings) start ∙ sym (ap (λ (t : State). t.settings) desk_start);
      beside = record {
        closed = λ id there. absurd (cc (ap (λ (t : State). is_some (accepted_request t id)) state_is, there));
        few_asked = omega (arith, ap (λ (t : State). t.asked) state_is);
      };
      few_reports = omega (arith, ap report_count history);
    }

-- a league at its start
pub league-new : (boards : LeagueBoards) (roads : RoadMap) (settings : Settings) (first second : List Vehicle) → IsDesk boards.desk
    → boards.desk.start ≡ start_state roads settings [] → boards.desk.history ≡ []
    → boards.first.board.start ≡ start_state roads settings first → boards.first.board.history ≡ [] → boards.first.is_open ≡ true
    → boards.second.board.start ≡ start_state roads settings second → boards.second.board.history ≡ [] → boards.second.is_open ≡ true
    → (league_of boards ≡ league_start roads settings first second) × IsLeague 0 boards
unfolding replay entries_of
league-new boards roads settings first second fits desk_start desk_history first_start first_history first_open second_start second_history second_open = (
  (λ i. record {
    desk = replay (desk_start i) (desk_history i);
    first = replay (first_start i) (first_history i);
    second = replay (second_start i) (second_history i);
  }),
  record {
    desk_fits = fits;
    few_commands = omega (arith, ap (λ h. length (fed_commands 1 h)) desk_history);
    first_fits = member-new boards.desk boards.first roads settings first desk_start desk_history first_start first_history first_open;
    second_fits = member-new boards.desk boards.second roads settings second desk_start desk_history second_start second_history second_open;
  },
)
