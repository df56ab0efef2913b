use Rattle.fleet_league.proofs.Common.{◌≡◌, sym, ap, ◌∙◌, State, CompanyState, LeagueState, IsLeague, LeagueBoards, league_of}
use Rattle.fleet_league.proofs.league_session.LeagueKept.{league-new}
use Rattle.fleet_league.proofs.league_session.state.League.new.Goals as goal

pub new-requires-3 : goal.new-requires-3
new-requires-3 c = record { same_roads = ap (λ (s : State). s.roads) c.in_ok-new.ensures.start }

pub new-requires-5 : goal.new-requires-5
new-requires-5 c = record { same_roads = ap (λ (s : State). s.roads) c.in_ok-new-2.ensures.start }

pub invariant_of-result : goal.invariant_of-result
invariant_of-result c =
    ap (λ (s : LeagueState). s.desk.settings.penalty) c.outset.view_is ∙ sym (ap (λ (s : State). s.settings.penalty) c.in_ok-desk.ensures.start)

at-start : (c : goal.In_ok-second)
    → (league_of (record { desk = c.in_ok-desk.desk; first = c.in_ok-first.first; second = c.in_ok-second.second }) ≡ c.args.outset)
    × IsLeague 0 (record { desk = c.in_ok-desk.desk; first = c.in_ok-first.first; second = c.in_ok-second.second })
at-start c =
    let inside = c.outset.inside in
    let boards : LeagueBoards = record { desk = c.in_ok-desk.desk; first = c.in_ok-first.first; second = c.in_ok-second.second } in
    let (start, fits) = league-new boards inside.roads.now inside.settings inside.first inside.second
    c.in_ok-desk.ensures.fits (c.in_ok-desk.ensures.start ∙ sym (ap (λ (s : LeagueState). s.desk) c.outset.view_is)) c.in_ok-desk.ensures.history
    (ap (λ (m : CompanyState). m.board.start) c.in_ok-first.ensures ∙ c.in_ok-new.ensures.start)
    (ap (λ (m : CompanyState). m.board.history) c.in_ok-first.ensures ∙ c.in_ok-new.ensures.history)
    (ap (λ (m : CompanyState). m.is_open) c.in_ok-first.ensures ∙ c.in_ok-new.ensures.is_open)
    (ap (λ (m : CompanyState). m.board.start) c.in_ok-second.ensures ∙ c.in_ok-new-2.ensures.start)
    (ap (λ (m : CompanyState). m.board.history) c.in_ok-second.ensures ∙ c.in_ok-new-2.ensures.history)
    (ap (λ (m : CompanyState). m.is_open) c.in_ok-second.ensures ∙ c.in_ok-new-2.ensures.is_open) in
    (start ∙ c.outset.view_is, fits)

pub returns-clause-start : goal.returns-clause-start
returns-clause-start c = (at-start c).0

pub returns-clause-fits : goal.returns-clause-fits
returns-clause-fits c = (at-start c).1
