use Rattle.fleet_league.proofs.Common.{refl, sym, subst, Cancel, IsLeague, LeagueBoards}
use Rattle.fleet_league.proofs.league_session.Desks.{on-ok}
use Rattle.fleet_league.proofs.league_session.LeagueKept.{league-answered, league-reported, member-later, member-reported, on-three}
use Rattle.fleet_league.proofs.league_session.state.League.cancel.Goals as goal

pub returns-then-has-clause-fits : goal.returns-then-has-clause-fits
returns-then-has-clause-fits c lines league =
    let boards : LeagueBoards = record { desk = c.self.inside.desk; first = c.self.inside.first; second = c.self.inside.second } in
    let now = subst (IsLeague lines) (sym c.self.view_is) league in
    on-ok c.report.result c.report.ensures.reported (λ reported.
    league-reported boards c.report.new.self boards.second lines now
    (member-reported boards.desk boards.first c.report.new.self lines (Cancel c.args.id) now.first_fits refl reported)
    (member-later boards.desk boards.second lines now.second_fits))

pub returns-then-has-2-clause-fits : goal.returns-then-has-2-clause-fits
returns-then-has-2-clause-fits c lines league =
    let boards : LeagueBoards = record { desk = c.self.inside.desk; first = c.self.inside.first; second = c.self.inside.second } in
    let now = subst (IsLeague lines) (sym c.self.view_is) league in
    on-ok c.report-then-has-2.result c.report-then-has-2.ensures.reported (λ reported.
    league-reported boards boards.first c.report-then-has-2.new.self lines now
    (member-later boards.desk boards.first lines now.first_fits)
    (member-reported boards.desk boards.second c.report-then-has-2.new.self lines (Cancel c.args.id) now.second_fits refl reported))

pub returns-clause-fits : goal.returns-clause-fits
returns-clause-fits c lines league =
    let boards : LeagueBoards = record { desk = c.self.inside.desk; first = c.self.inside.first; second = c.self.inside.second } in
    let now = subst (IsLeague lines) (sym c.self.view_is) league in
    on-three c.answer.result c.answer.ensures.fits c.answer.ensures.state c.answer.ensures.one_more (λ fits state_is more.
    league-answered boards c.answer.new.self lines boards.desk.start.settings.log (Cancel c.args.id) now refl c.requires.spelled fits c.answer.ensures.start state_is more)
