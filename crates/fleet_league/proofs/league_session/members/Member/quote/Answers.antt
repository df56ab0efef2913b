use Rattle.fleet_league.proofs.Common.{subst, CompanyState, IsSound}
use Rattle.fleet_league.proofs.league_session.LeagueMembers.{sound}
use Rattle.fleet_league.proofs.league_session.members.Member.quote.Goals as goal

pub returns-clause-sound : goal.returns-clause-sound
returns-clause-sound g c =
    subst (λ (s : CompanyState). IsSound s.board) c.self.view_is
    (subst IsSound c.board.ensures.board (sound c.board.result.now (record { begins = c.entries-history.ensures.start; legal = c.entries-history.ensures.legal })))
