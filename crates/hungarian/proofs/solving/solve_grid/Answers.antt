use Rattle.hungarian.proofs.Beginning.{partial-none}
use Rattle.hungarian.proofs.Common.{ℕ, List, sym, ap, ◌∙◌, subst, Option, None, replicate, CertifiesPairing, certified_pairing_is_least}
use Rattle.hungarian.proofs.Certificates.{rows-certified}
use Rattle.hungarian.proofs.solving.solve_grid.Goals as goal

abbrev no_mate : Option ℕ
no_mate = None

pub add_rows-requires-clause-partial : goal.add_rows-requires-clause-partial
add_rows-requires-clause-partial c =
    partial-none c.args.grid.now c.args.penalty c.in_ok-matches.matches c.in_ok-duals.duals
    (c.in_ok-matches.ensures.columns ∙ ap (λ n. replicate n no_mate) c.rows.ensures.rows)
    (c.in_ok-matches.ensures.rows ∙ ap (λ n. replicate n no_mate) c.columns.ensures.columns)
    (c.in_ok-duals.ensures.prices ∙ ap (λ n. replicate n 0) c.rows-2.ensures.rows)
    (c.in_ok-duals.ensures.pays ∙ ap (λ n. replicate n 0) c.columns-2.ensures.columns)

pub returns-clause-certified : goal.returns-clause-certified
returns-clause-certified c =
    let grid = c.args.grid.now in
    let matches = c.add_rows.new.matches in
    let duals = c.add_rows.new.duals in
    subst (λ (columns : List (Option ℕ)). CertifiesPairing grid c.args.penalty columns c.of-2.result c.of-3.result)
    (sym c.of.ensures)
    (subst (λ us. CertifiesPairing grid c.args.penalty matches.columns.items us c.of-3.result) (sym c.of-2.ensures)
    (subst (λ ps. CertifiesPairing grid c.args.penalty matches.columns.items duals.prices.items ps) (sym c.of-3.ensures)
    (rows-certified grid c.args.penalty matches duals c.in_ok-add_rows.ensures)))

pub returns-clause-least : goal.returns-clause-least
returns-clause-least c =
    certified_pairing_is_least c.args.grid.now c.args.penalty c.of.result c.of-2.result c.of-3.result (returns-clause-certified c)
