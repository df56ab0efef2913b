use Rattle.fleet_league.proofs.Common.{subst, OnOk, CompanyState, IsReported}
use Rattle.fleet_league.proofs.league_session.LeagueMembers.{reported}
use Rattle.fleet_league.proofs.league_session.members.Member.report.Goals as goal

pub returns-clause-reported : goal.returns-clause-reported
returns-clause-reported c =
    subst (λ (s : CompanyState). OnOk c.report.result (IsReported c.args.command.now s c.report.new.self)) c.self.view_is
    (reported c.self.inside.company c.report.new.self c.args.command.now c.report.result c.requires.a_report c.report.ensures.entry c.report.ensures.others)
