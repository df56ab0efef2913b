use Rattle.fleet_league.proofs.Common.{◌<◌, sym, subst, arith, IsTrue, Recorded, CompanyState, IsIdle, report_count, most_reports}
use Rattle.fleet_league.proofs.Legality.{IsLegalBoard}
use Rattle.fleet_league.proofs.Reports.{few-fed, company-reported}
use Rattle.fleet_league.proofs.company.Company.report.Goals as goal

pub apply-requires-clause-few : goal.apply-requires-clause-few
apply-requires-clause-few c =
    let board : Recorded = c.self.inside.board in
    let legal : IsLegalBoard board = record { begins = c.entries-history.ensures.start; legal = c.entries-history.ensures.legal } in
    let few : report_count board.history < most_reports
    = subst (λ (s : CompanyState). report_count s.board.history < most_reports) (sym c.self.view_is) c.requires.few in
    let idle : IsIdle board = c.self.invariant.idle (subst (λ (s : CompanyState). IsTrue s.is_open) (sym c.self.view_is) c.requires.is_open) in
    omega (arith, few, few-fed board legal idle)

pub invariant_of-self : goal.invariant_of-self
invariant_of-self c =
    let board : Recorded = c.self.inside.board in
    company-reported c.self.inside.settings board c.apply.new.self c.self.inside.is_open c.args.command.now c.apply.result
    c.self.invariant c.requires.a_report
    (subst (λ (s : CompanyState). report_count s.board.history < most_reports) (sym c.self.view_is) c.requires.few)
    c.apply.ensures.others c.apply.ensures.entry c.apply.ensures.no_memory
