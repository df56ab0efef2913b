use Rattle.fleet_league.proofs.Common.{refl, sym, subst, Clock, IsLeague, LeagueBoards}
use Rattle.fleet_league.proofs.league_session.LeagueKept.{league-reported, member-reported}
use Rattle.fleet_league.proofs.league_session.state.League.set_clock.Goals as goal

pub returns-clause-fits : goal.returns-clause-fits
returns-clause-fits c lines league =
    let boards : LeagueBoards = record { desk = c.self.inside.desk; first = c.self.inside.first; second = c.self.inside.second } in
    let now = subst (IsLeague lines) (sym c.self.view_is) league in
    league-reported boards c.report.new.self c.report-2.new.self lines now
    (member-reported boards.desk boards.first c.report.new.self lines (Clock c.args.time) now.first_fits refl c.in_ok-reply.ensures.reported)
    (member-reported boards.desk boards.second c.report-2.new.self lines (Clock c.args.time) now.second_fits refl c.in_ok-report.ensures.reported)
