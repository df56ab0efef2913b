use Rattle.fleet_league.proofs.Common.{◌≡◌, ◌≤◌, List, ℕ, sym, subst, Ride, IsTableOf, state_of, Quote, CompanyState, IsRoundOf, quotes_of, MayWin, IsPlayed, quoting_batch}
use Rattle.fleet_league.proofs.league_session.PlayedRounds.{AreMet, first-wins, second-wins}
use Rattle.fleet_league.proofs.league_session.playing.play.Goals as goal

pub parts_of-requires-clause-penalty_limit : goal.parts_of-requires-clause-penalty_limit
parts_of-requires-clause-penalty_limit g c =
    subst (λ (n : ℕ). n ≤ 1000000000000) (sym c.requires.first_penalty) c.prices_of.ensures.first_sound.settings_fit.penalty_limit

pub award-requires-clause-may : goal.award-requires-clause-may
award-requires-clause-may g c =
    let first : CompanyState = c.args.first.now in
    let second : CompanyState = c.args.second.now in
    let rides : List Ride = c.args.rides.now in
    let sound = c.prices_of.ensures in
    let quotes : c.in_ok-prices.prices.quotes ≡ quotes_of (state_of first.board) (state_of second.board) rides = c.in_ok-prices.ensures.quotes in
    let met : AreMet first second c.args.penalty = record {
      first_sound = sound.first_sound;
      second_sound = sound.second_sound;
      first_penalty = c.requires.first_penalty;
      second_penalty = c.requires.second_penalty;
    } in
    let parts = c.in_ok-parts.parts in
    let is = subst (λ (qs : List Quote). IsRoundOf c.args.penalty qs rides parts.sheet parts.first parts.second) quotes c.in_ok-parts.ensures in
    subst (λ (s : CompanyState). MayWin s rides parts.first) (sym sound.first)
    (first-wins first second rides c.args.penalty parts.sheet parts.first parts.second met is c.requires.first)

pub award-requires-clause-table : goal.award-requires-clause-table
award-requires-clause-table g c =
    subst (λ (s : CompanyState). IsTableOf s.board.start.roads (quoting_batch (state_of s.board) c.args.rides.now) c.in_ok-prices.prices.first)
    (sym c.prices_of.ensures.first) c.in_ok-prices.ensures.first_table

pub award-requires-2-clause-may : goal.award-requires-2-clause-may
award-requires-2-clause-may g c =
    let first : CompanyState = c.args.first.now in
    let second : CompanyState = c.args.second.now in
    let rides : List Ride = c.args.rides.now in
    let sound = c.prices_of.ensures in
    let quotes : c.in_ok-prices.prices.quotes ≡ quotes_of (state_of first.board) (state_of second.board) rides = c.in_ok-prices.ensures.quotes in
    let met : AreMet first second c.args.penalty = record {
      first_sound = sound.first_sound;
      second_sound = sound.second_sound;
      first_penalty = c.requires.first_penalty;
      second_penalty = c.requires.second_penalty;
    } in
    let parts = c.in_ok-parts.parts in
    let is = subst (λ (qs : List Quote). IsRoundOf c.args.penalty qs rides parts.sheet parts.first parts.second) quotes c.in_ok-parts.ensures in
    subst (λ (s : CompanyState). MayWin s rides parts.second) (sym sound.second)
    (second-wins first second rides c.args.penalty parts.sheet parts.first parts.second met is c.requires.second)

pub award-requires-2-clause-table : goal.award-requires-2-clause-table
award-requires-2-clause-table g c =
    subst (λ (s : CompanyState). IsTableOf s.board.start.roads (quoting_batch (state_of s.board) c.args.rides.now) c.in_ok-prices.prices.second)
    (sym c.prices_of.ensures.second) c.in_ok-prices.ensures.second_table

pub returns-clause-first_played : goal.returns-clause-first_played
returns-clause-first_played g c =
    subst (λ (s : CompanyState). IsPlayed c.args.rides.now s c.award.new.self) c.prices_of.ensures.first c.in_ok-award.ensures.played

pub returns-clause-second_played : goal.returns-clause-second_played
returns-clause-second_played g c =
    subst (λ (s : CompanyState). IsPlayed c.args.rides.now s c.award-2.new.self) c.prices_of.ensures.second c.in_ok-award-2.ensures.played
