use Rattle.fleet_league.proofs.Common.{ℕ, ◌≤◌, List, length, sym, ap, subst, arith, All, Contains, Vehicle, IsLegal, State, IsTableOf, Recorded, state_of, Win, won_rides, CompanyState, IsAwarded, IsPlayed, quoting_batch}
use Rattle.fleet_league.proofs.league_session.AwardedMembers.{is-awarded, is-played}
use Rattle.fleet_league.proofs.Legality.{IsLegalBoard, board-fleet}
use Rattle.fleet_league.proofs.league_session.members.Member.award.Goals as goal

pub overflow_cast-vehicles : goal.overflow_cast-vehicles
overflow_cast-vehicles c =
    let board : Recorded = c.self.inside.company.board in
    let legal : IsLegalBoard board = subst IsLegalBoard c.board.ensures.board
    (record { begins = c.entries-history.ensures.start; legal = c.entries-history.ensures.legal }) in
    omega (
      arith,
      (board-fleet board legal).few,
      ap (λ (vs : List Vehicle). length vs) c.vehicles.ensures,
      ap (λ (b : Recorded). length (state_of b).vehicles) c.board-2.ensures.board,
    )

pub table_of_won-requires-clause-vehicles_are : goal.table_of_won-requires-clause-vehicles_are
table_of_won-requires-clause-vehicles_are c =
    omega (
      arith,
      c.requires.table.fits.columns_are,
      ap (λ (vs : List Vehicle). length vs) c.vehicles.ensures,
      ap (λ (b : Recorded). length (state_of b).vehicles) c.board-2.ensures.board,
      ap (λ (s : CompanyState). length (state_of s.board).vehicles) c.self.view_is,
    )

pub table_of_won-requires-clause-few_rides : goal.table_of_won-requires-clause-few_rides
table_of_won-requires-clause-few_rides c =
    let board : Recorded = c.self.inside.company.board in
    let legal : IsLegalBoard board = subst IsLegalBoard c.board.ensures.board
    (record { begins = c.entries-history.ensures.start; legal = c.entries-history.ensures.legal }) in
    let most : board.start.settings.batch ≤ 128 = legal.begins.may_start.settings_fit.batch_limit in
    omega (arith, c.requires.may.may.room.in_batch, most, ap (λ (s : CompanyState). s.board.start.settings.batch) c.self.view_is)

pub table_of_won-requires-clause-few_wins : goal.table_of_won-requires-clause-few_wins
table_of_won-requires-clause-few_wins c =
    let board : Recorded = c.self.inside.company.board in
    let legal : IsLegalBoard board = subst IsLegalBoard c.board.ensures.board
    (record { begins = c.entries-history.ensures.start; legal = c.entries-history.ensures.legal }) in
    let most : board.start.settings.batch ≤ 128 = legal.begins.may_start.settings_fit.batch_limit in
    omega (
      arith,
      c.requires.may.few,
      c.requires.may.may.room.in_batch,
      most,
      ap (λ (s : CompanyState). s.board.start.settings.batch) c.self.view_is,
      ap (λ (ws : List Win). length ws) c.items.ensures,
    )

pub table_of_won-requires-clause-of_them : goal.table_of_won-requires-clause-of_them
table_of_won-requires-clause-of_them c =
    subst (λ (ws : List Win). All (Contains c.args.rides.now) (won_rides ws)) (sym c.items.ensures) c.requires.may.of_them

pub award_priced-requires-clause-table : goal.award_priced-requires-clause-table
award_priced-requires-clause-table c =
    let s : State = state_of c.args.self.now.board in
    let of_items = c.in_ok-won.ensures c.args.self.now.board.start.roads s c.requires.table in
    let of_wins = subst (λ (ws : List Win). IsTableOf c.args.self.now.board.start.roads (quoting_batch s (won_rides ws)) c.in_ok-won.won)
    c.items.ensures of_items in
    subst (λ (x : CompanyState). IsTableOf x.board.start.roads (quoting_batch (state_of x.board) (won_rides c.args.brief.now.wins)) c.in_ok-won.won)
    (sym c.self.view_is) of_wins

pub returns-clause-awarded : goal.returns-clause-awarded
returns-clause-awarded c =
    let ensures = c.in_ok-award_priced.ensures in
    let board : Recorded = c.award_priced.new.self.board in
    let after : IsLegalBoard board = subst IsLegalBoard c.board-3.ensures.board
    (record { begins = c.entries-awarded.ensures.start; legal = c.entries-awarded.ensures.legal }) in
    let legal : IsLegal 1 1 board.start board.history =
    subst (λ (f : ℕ). IsLegal f 1 board.start board.history) c.board-3.ensures.one_feed
    (subst (λ (d : ℕ). IsLegal board.feeds d board.start board.history) c.board-3.ensures.one_desk after.legal) in
    subst (λ (s : CompanyState). IsAwarded c.args.brief.now (state_of s.board) (state_of c.award_priced.new.self.board)) c.self.view_is
    (is-awarded c.self.inside.company c.award_priced.new.self c.args.brief.now (ap (λ (s : CompanyState). s.board.start) ensures.others)
    ensures.no_wins ensures.confirmed legal)

pub returns-clause-played : goal.returns-clause-played
returns-clause-played c =
    let ensures = c.in_ok-award_priced.ensures in
    subst (λ (s : CompanyState). IsPlayed c.args.rides.now s c.award_priced.new.self) c.self.view_is
    (is-played c.self.inside.company c.award_priced.new.self c.args.brief.now c.args.rides.now
    (ap (λ (s : CompanyState). s.board.start) ensures.others) ensures.stays_open ensures.no_wins ensures.confirmed c.requires.may.of_them)
