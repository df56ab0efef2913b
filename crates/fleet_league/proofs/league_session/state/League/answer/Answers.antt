use Rattle.fleet_league.proofs.Common.{sym, ap, subst, IsSpelledCommand, IsLeague, LeagueBoards, is_riders}
use Rattle.fleet_league.proofs.league_session.LeagueKept.{league-answered, on-three}
use Rattle.fleet_league.proofs.league_session.state.League.answer.Goals as goal

pub returns-in-Request-clause-fits : goal.returns-in-Request-clause-fits
returns-in-Request-clause-fits c lines league =
    let boards : LeagueBoards = record { desk = c.self.inside.desk; first = c.self.inside.first; second = c.self.inside.second } in
    let now = subst (IsLeague lines) (sym c.self.view_is) league in
    on-three c.answer.result c.answer.ensures.fits c.answer.ensures.state c.answer.ensures.one_more (λ fits state_is more.
    league-answered boards c.answer.new.self lines boards.desk.start.settings.log c.args.command.now now (ap is_riders c.in-Request.is) (subst (λ (b : LeagueBoards). IsSpelledCommand b.desk.start.settings.log c.args.command.now) (sym c.self.view_is) c.requires.spelled) fits c.answer.ensures.start state_is more)
