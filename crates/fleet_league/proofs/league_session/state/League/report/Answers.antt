use Rattle.fleet_league.proofs.Common.{sym, subst, IsLeague, LeagueBoards}
use Rattle.fleet_league.proofs.league_session.Desks.{on-ok}
use Rattle.fleet_league.proofs.league_session.LeagueKept.{driver-reports, league-reported, member-later, member-reported}
use Rattle.fleet_league.proofs.league_session.state.League.report.Goals as goal

pub returns-in-1-clause-fits : goal.returns-in-1-clause-fits
returns-in-1-clause-fits c lines league =
    let boards : LeagueBoards = record { desk = c.self.inside.desk; first = c.self.inside.first; second = c.self.inside.second } in
    let now = subst (IsLeague lines) (sym c.self.view_is) league in
    on-ok c.report.result c.report.ensures.reported (λ reported.
    league-reported boards c.report.new.self boards.second lines now
    (member-reported boards.desk boards.first c.report.new.self lines c.args.command.now now.first_fits (driver-reports c.args.command.now c.requires.a_report) reported)
    (member-later boards.desk boards.second lines now.second_fits))

pub returns-in-2-clause-fits : goal.returns-in-2-clause-fits
returns-in-2-clause-fits c lines league =
    let boards : LeagueBoards = record { desk = c.self.inside.desk; first = c.self.inside.first; second = c.self.inside.second } in
    let now = subst (IsLeague lines) (sym c.self.view_is) league in
    on-ok c.report-in-2.result c.report-in-2.ensures.reported (λ reported.
    league-reported boards boards.first c.report-in-2.new.self lines now
    (member-later boards.desk boards.first lines now.first_fits)
    (member-reported boards.desk boards.second c.report-in-2.new.self lines c.args.command.now now.second_fits (driver-reports c.args.command.now c.requires.a_report) reported))
