use Rattle.fleet_league.proofs.Common.{ap, subst, sym, ◌∙◌, IsFleet, MayStart, start_state, LeagueState}
use Rattle.fleet_league.proofs.league_session.Desks.{desk-new, no-fleet, none-start}
use Rattle.fleet_league.proofs.league_session.desk.RequestDesk.new.Goals as goal

pub new-nobody-requires : goal.new-nobody-requires
new-nobody-requires c = subst IsFleet (sym c.new.ensures.items) no-fleet

pub new-requires-2-clause-start : goal.new-requires-2-clause-start
new-requires-2-clause-start c =
    let inside = c.outset.inside in
    subst (MayStart inside.roads.now inside.settings) (sym (c.new-nobody.ensures ∙ c.new.ensures.items))
    (none-start inside.roads.now inside.settings c.outset.invariant.0.settings_fit)

pub returns-clause-start : goal.returns-clause-start
returns-clause-start c =
    let inside = c.outset.inside in
    c.in_ok-board.ensures.start ∙ ap (start_state inside.roads.now inside.settings) (c.new-nobody.ensures ∙ c.new.ensures.items)
    ∙ ap (λ (s : LeagueState). s.desk) c.outset.view_is

pub returns-clause-fits : goal.returns-clause-fits
returns-clause-fits c =
    let inside = c.outset.inside in
    desk-new c.in_ok-board.board inside.roads.now inside.settings
    (c.in_ok-board.ensures.start ∙ ap (start_state inside.roads.now inside.settings) (c.new-nobody.ensures ∙ c.new.ensures.items))
    c.in_ok-board.ensures.history c.in_ok-board.ensures.feeds c.in_ok-board.ensures.desks
