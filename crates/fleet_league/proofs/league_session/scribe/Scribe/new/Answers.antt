use Rattle.fleet_league.proofs.Common.{sym, ap, ◌∙◌, State, LeagueState}
use Rattle.fleet_league.proofs.league_session.TextRuns.{told-nothing}
use Rattle.fleet_league.proofs.league_session.scribe.Scribe.new.Goals as goal

pub returns-clause-nothing_told : goal.returns-clause-nothing_told
returns-clause-nothing_told g c =
    let log_is = ap (λ (s : LeagueState). s.desk.settings.log) c.outset.view_is in
    let fit = c.outset.invariant.0.settings_fit in
    told-nothing _ c.in_ok-league.league (fit.log_first, fit.log_limit)
    (log_is ∙ sym (ap (λ (s : LeagueState). s.desk.settings.log) c.in_ok-league.ensures.start))
    (log_is ∙ sym (ap (λ (t : State). t.settings.log) c.in_ok-league.ensures.desk)) c.in_ok-league.ensures.fits
