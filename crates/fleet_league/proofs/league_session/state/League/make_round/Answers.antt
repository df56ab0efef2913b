use Rattle.fleet_league.proofs.Common.{◌≡◌, ℕ, ◌+◌, List, sym, ap, subst, ◌∙◌, arith, nat_eq, IsDistinct, Ride, ride_ids, Ask, state_of, League, Round, TakesLine, after_round, IsLeague, LeagueBoards, league_of}
use Rattle.fleet_league.proofs.Legality.{IsLegalBoard}
use Rattle.fleet_league.proofs.league_session.RoundsMade.{HasMade, MakesNow, first-plays, round-kept, round-made, second-plays}
use Rattle.fleet_league.proofs.league_session.state.League.make_round.Goals as goal

-- the league when the round is played
before-play : (g : _) (c : goal.After-requests g) (lines : ℕ) → IsLeague lines c.args.self.now
    → MakesNow (record { desk = c.self.inside.desk; first = c.self.inside.first; second = c.self.inside.second }) lines c.requests.result.now
before-play g c lines league =
    let (few, has) = c.in_ok-batch.ensures.opened c.in-Some.batch c.in-Some.is in
    let given = c.requests.ensures.requests in
    record {
      league = subst (IsLeague lines) (sym c.self.view_is) league;
      desk_legal = subst IsLegalBoard c.board.ensures
          (record { begins = c.entries-requests.ensures.start; legal = c.entries-requests.ensures.legal });
      first_legal = subst IsLegalBoard c.board-2.ensures
          (record { begins = c.entries-first.ensures.start; legal = c.entries-first.ensures.legal });
      second_legal = subst IsLegalBoard c.board-3.ensures
          (record { begins = c.entries-second.ensures.start; legal = c.entries-second.ensures.legal });
      few_asked = few;
      differ = subst (λ (rs : List Ride). IsDistinct nat_eq (ride_ids rs)) (sym given) has.differ;
      rides_are = given ∙ c.in_ok-batch.ensures.rides c.in-Some.batch c.in-Some.is;
    }

pub play-requires-clause-first : goal.play-requires-clause-first
play-requires-clause-first g c κs within =
    let (lines, low, league) = c.requires.fits in
    first-plays (record { desk = c.self.inside.desk; first = c.self.inside.first; second = c.self.inside.second }) lines c.requests.result.now
    (before-play g c lines league)

pub play-requires-clause-second : goal.play-requires-clause-second
play-requires-clause-second g c κs within =
    let (lines, low, league) = c.requires.fits in
    second-plays (record { desk = c.self.inside.desk; first = c.self.inside.first; second = c.self.inside.second }) lines c.requests.result.now
    (before-play g c lines league)

-- the same, once it was played
before-close : (g : _) (c : goal.In_ok-close_round g) (lines : ℕ) → IsLeague lines c.args.self.now
    → MakesNow (record { desk = c.self.inside.desk; first = c.self.inside.first; second = c.self.inside.second }) lines c.requests.result.now
before-close g c lines league =
    let (few, has) = c.in_ok-batch.ensures.opened c.in-Some.batch c.in-Some.is in
    let given = c.requests.ensures.requests in
    record {
      league = subst (IsLeague lines) (sym c.self.view_is) league;
      desk_legal = subst IsLegalBoard c.board.ensures
          (record { begins = c.entries-requests.ensures.start; legal = c.entries-requests.ensures.legal });
      first_legal = subst IsLegalBoard c.board-2.ensures
          (record { begins = c.entries-first.ensures.start; legal = c.entries-first.ensures.legal });
      second_legal = subst IsLegalBoard c.board-3.ensures
          (record { begins = c.entries-second.ensures.start; legal = c.entries-second.ensures.legal });
      few_asked = few;
      differ = subst (λ (rs : List Ride). IsDistinct nat_eq (ride_ids rs)) (sym given) has.differ;
      rides_are = given ∙ c.in_ok-batch.ensures.rides c.in-Some.batch c.in-Some.is;
    }

pub returns-clause-told : goal.returns-clause-told
returns-clause-told g c =
    let (lines, low, league) = c.requires.fits in
    let (few, has) = c.in_ok-batch.ensures.opened c.in-Some.batch c.in-Some.is in
    let given = c.requests.ensures.requests in
    let boards : LeagueBoards = record { desk = c.self.inside.desk; first = c.self.inside.first; second = c.self.inside.second } in
    let new : LeagueBoards = record { desk = c.close_round.new.self; first = c.play.new.first; second = c.play.new.second } in
    let state_is : state_of new.desk ≡ after_round (state_of boards.desk) c.requests.result.now
    = c.in_ok-close_round.ensures.state (state_of boards.desk) has ∙ ap (after_round (state_of boards.desk)) (sym given) in
    subst (λ (b : LeagueBoards). TakesLine (league_of b) (league_of new) (League Ask) (Round c.number-number.result c.in_ok-sheet.sheet)) c.self.view_is
    (round-made boards lines c.requests.result.now (before-close g c lines league) new c.self.inside.penalty c.number-number.result c.in_ok-sheet.sheet
    c.self.invariant (c.number-number.ensures ∙ has.number_is ∙ ap (λ (n : ℕ). n + 1) has.all_opened) state_is c.in_ok-sheet.ensures.played)

pub returns-clause-fits : goal.returns-clause-fits
returns-clause-fits g c lines league =
    let (few, has) = c.in_ok-batch.ensures.opened c.in-Some.batch c.in-Some.is in
    let given = c.requests.ensures.requests in
    let boards : LeagueBoards = record { desk = c.self.inside.desk; first = c.self.inside.first; second = c.self.inside.second } in
    let new : LeagueBoards = record { desk = c.close_round.new.self; first = c.play.new.first; second = c.play.new.second } in
    let state_is : state_of new.desk ≡ after_round (state_of boards.desk) c.requests.result.now
    = c.in_ok-close_round.ensures.state (state_of boards.desk) has ∙ ap (after_round (state_of boards.desk)) (sym given) in
    let made : HasMade boards new c.requests.result.now = record {
      fits = c.in_ok-close_round.ensures.fits;
      few = omega (arith, c.in_ok-close_round.ensures.some_more, c.in_ok-batch.ensures.one_more);
      start = c.close_round.ensures.start ∙ c.open_round.ensures.start;
      state_is = state_is;
      first_played = c.in_ok-sheet.ensures.first_played;
      second_played = c.in_ok-sheet.ensures.second_played;
    } in
    round-kept boards lines c.requests.result.now (before-close g c lines league) new made
