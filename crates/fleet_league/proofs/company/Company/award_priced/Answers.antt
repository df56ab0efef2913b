use Rattle.fleet_league.proofs.Common.{sym, subst, CompanyState, MayWin}
use Rattle.fleet_league.proofs.MayAward.{may-confirm}
use Rattle.fleet_league.proofs.company.Company.award_priced.Goals as goal

pub confirm-requires-clause-may : goal.confirm-requires-clause-may
confirm-requires-clause-may c =
    let inside : CompanyState = record { board = c.self.inside.board; is_open = c.self.inside.is_open } in
    let (rides, may) = c.requires.may in
    may-confirm c.self.inside.settings inside rides c.args.brief.now c.self.invariant
    (record { begins = c.entries-history.ensures.start; legal = c.entries-history.ensures.legal })
    (subst (λ (s : CompanyState). MayWin s rides c.args.brief.now) (sym c.self.view_is) may)
