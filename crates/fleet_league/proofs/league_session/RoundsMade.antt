-- A league makes a round: both companies may play it, and the league stays in order.
use Rattle.fleet_league.proofs.Common.{◌≡◌, ℕ, ◌+◌, ◌<◌, ◌≤◌, true, List, length, take, sym, ap, subst, ◌∙◌, arith, nat_eq, nat_lt, IsDistinct, lt-ltb, Ask, Settings, Ride, waiting_rides, fed_commands, State, ride_ids, state_of, League, RoundSheet, Round, PlaysRound, TakesLine, after_round, MayPlay, IsDesk, IsLeague, IsPlayed, LeagueBoards, league_of}
use Rattle.fleet_league.proofs.league_session.Beside.{AreWaiting, first-waiting, may-play}
use Rattle.fleet_league.proofs.league_session.LeagueKept.{member-played}
use Rattle.fleet_league.proofs.Legality.{IsLegalBoard, board-settings}

-- a league that makes a round of rides
pub record MakesNow (boards : LeagueBoards) (lines : ℕ) (rides : List Ride) : Type 0 where
  pub league : IsLeague lines boards
  pub desk_legal : IsLegalBoard boards.desk
  pub first_legal : IsLegalBoard boards.first.board
  pub second_legal : IsLegalBoard boards.second.board
  pub few_asked : (state_of boards.desk).asked < 2000
  pub differ : IsDistinct nat_eq (ride_ids rides)
  pub rides_are : rides ≡ take (state_of boards.desk).settings.batch (waiting_rides (state_of boards.desk))

-- what was played
pub record HasMade (boards new : LeagueBoards) (rides : List Ride) : Type 0 where
  pub fits : IsDesk new.desk
  pub few : length (fed_commands 1 new.desk.history) ≤ length (fed_commands 1 boards.desk.history) + 129
  pub start : new.desk.start ≡ boards.desk.start
  pub state_is : state_of new.desk ≡ after_round (state_of boards.desk) rides
  pub first_played : IsPlayed rides boards.first new.first
  pub second_played : IsPlayed rides boards.second new.second

module _ (boards : LeagueBoards) (lines : ℕ) (rides : List Ride) (now : MakesNow boards lines rides) where
  differ-now : IsDistinct nat_eq (ride_ids (take (state_of boards.desk).settings.batch (waiting_rides (state_of boards.desk))))
  differ-now = subst (λ (rs : List Ride). IsDistinct nat_eq (ride_ids rs)) now.rides_are now.differ

  pub first-plays : MayPlay boards.first rides
  first-plays =
      subst (MayPlay boards.first) (sym now.rides_are)
      (may-play boards.desk boards.first lines now.league.desk_fits now.desk_legal now.league.first_fits now.first_legal differ-now now.few_asked)

  pub second-plays : MayPlay boards.second rides
  second-plays =
      subst (MayPlay boards.second) (sym now.rides_are)
      (may-play boards.desk boards.second lines now.league.desk_fits now.desk_legal now.league.second_fits now.second_legal differ-now now.few_asked)

  waiting-now : AreWaiting (state_of boards.desk) rides
  waiting-now =
      subst (AreWaiting (state_of boards.desk)) (sym now.rides_are)
      (first-waiting boards.desk (state_of boards.desk).settings.batch now.desk_legal)

  pub round-kept : (new : LeagueBoards) → HasMade boards new rides → IsLeague (lines + 1) new
  round-kept new made = record {
    desk_fits = made.fits;
    few_commands = omega (arith, made.few, now.league.few_commands);
    first_fits = member-played boards.desk new.desk boards.first new.first lines rides now.league.first_fits waiting-now made.first_played
        made.start made.state_is;
    second_fits = member-played boards.desk new.desk boards.second new.second lines rides now.league.second_fits waiting-now made.second_played
        made.start made.state_is;
  }

  pub round-made : (new : LeagueBoards) (penalty number : ℕ) (sheet : RoundSheet) → penalty ≡ boards.desk.start.settings.penalty
      → number ≡ (state_of boards.desk).asked + 1 → state_of new.desk ≡ after_round (state_of boards.desk) rides
      → PlaysRound penalty rides (state_of boards.first.board) (state_of new.first.board) (state_of boards.second.board)
      (state_of new.second.board) sheet
      → TakesLine (league_of boards) (league_of new) (League Ask) (Round number sheet)
  round-made new penalty number sheet penalty_is number_is state_is plays =
      let s : State = state_of boards.desk in
      let below : nat_lt s.asked 2000 ≡ true = lt-ltb s.asked 2000 now.few_asked in
      let cost : penalty ≡ s.settings.penalty
      = penalty_is ∙ sym (ap (λ (settings : Settings). settings.penalty) (board-settings boards.desk now.desk_legal)) in
      record {
        answered = λ none. absurd (cc (none, below));
        made = λ some. (
          sheet,
          (
            state_is ∙ ap (after_round s) now.rides_are,
            subst (λ (rs : List Ride). PlaysRound s.settings.penalty rs (state_of boards.first.board) (state_of new.first.board)
                (state_of boards.second.board) (state_of new.second.board) sheet) now.rides_are
                (subst (λ (n : ℕ). PlaysRound n rides (state_of boards.first.board) (state_of new.first.board) (state_of boards.second.board)
                (state_of new.second.board) sheet) cost plays),
          ),
          ap (λ (n : ℕ). Round n sheet) number_is,
        );
      }
