use Rattle.fleet_league.proofs.Common.{◌≡◌, ℕ, List, ◌++◌, refl, err_from_is_err_and, codes, decimal, fed_fields, line_of, prints_as, prints_more, prints_then}
use Rattle.fleet_league.proofs.league_session.printing.print_reply.Goals as goal

-- whose report it is goes before the report
company-first : (digits rest : List ℕ)
    → (codes "company " ++ digits ++ codes " ") ++ rest ≡ codes "company " ++ digits ++ codes " " ++ rest
company-first digits rest = refl

pub returns-in_err-print_company-in-Company : goal.returns-in_err-print_company-in-Company
returns-in_err-print_company-in-Company g c =
    let failed = err_from_is_err_and c.from_residual.result c.from_residual.ensures.1 in
    let e = c.in-Company in
    rw (failed.1, e.is) (prints_as (company-first (decimal e.company) (line_of (fed_fields c.args.log e.command c.args.reply.now)))
    (prints_more _ c.in_err-print_company-in-Company.ensures))

pub returns-in_ok-print_company-in-Company : goal.returns-in_ok-print_company-in-Company
returns-in_ok-print_company-in-Company g c =
    let e = c.in-Company in
    rw e.is (prints_as (company-first (decimal e.company) (line_of (fed_fields c.args.log e.command c.args.reply.now)))
    (prints_then c.in_ok-print_company-in-Company.ensures c.print_answer-in-Company.ensures))
