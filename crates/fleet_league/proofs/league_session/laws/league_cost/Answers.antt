use Rattle.fleet_league.proofs.Common.{◌≡◌, ℕ, ◌+◌, ◌*◌, List, length, subst, sym, Ride, Paired, pairing_cost, state_of, Brief, CompanyState, commit_cost, part_between, IsSound}
use Rattle.fleet_league.proofs.league_session.LeagueCost.{league-cost}
use Rattle.fleet_league.proofs.league_session.LeagueMembers.{sound}
use Rattle.fleet_league.proofs.league_session.PlayedRounds.{AreMet}
use Rattle.fleet_league.proofs.league_session.laws.league_cost.Goals as goal

pub returns : goal.returns
returns c least =
    let first : CompanyState = c.args.first.now in
    let second : CompanyState = c.args.second.now in
    let rides : List Ride = c.args.rides.now in
    let round : Paired = c.args.round.now in
    let penalty : ℕ = c.args.penalty in
    let met : AreMet first second penalty = record {
      first_sound = subst IsSound c.board.ensures.board
          (sound c.board.result.now (record { begins = c.entries-first_history.ensures.start; legal = c.entries-first_history.ensures.legal }));
      second_sound = subst IsSound c.board-2.ensures.board
          (sound c.board-2.result.now (record { begins = c.entries-second_history.ensures.start; legal = c.entries-second_history.ensures.legal }));
      first_penalty = c.requires.first_penalty;
      second_penalty = c.requires.second_penalty;
    } in
    let says : Brief → Brief → Type 0 = λ one two. c.args.left_out + length one.wins + length two.wins ≡ length rides
    → commit_cost (state_of first.board) one + commit_cost (state_of second.board) two + c.args.left_out * penalty
    ≡ pairing_cost least.grid penalty round.columns in
    subst (λ (one : Brief). says one c.args.second_brief.now) (sym c.requires.first_brief)
    (subst (λ (two : Brief). says (part_between 1 first second rides round) two) (sym c.requires.second_brief)
    (league-cost first second rides penalty round met least c.args.left_out)) c.requires.left_out
