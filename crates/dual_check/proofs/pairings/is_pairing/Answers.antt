use Rattle.dual_check.proofs.PairingParts.{decided-like, pairing-from-parts, stands-from-pairing, once-from-pairing}
use Rattle.dual_check.proofs.pairings.is_pairing.Goals as goal

pub returns-then-stands_in_cells : goal.returns-then-stands_in_cells
returns-then-stands_in_cells g c =
    let grid = g.T.Amounts.as_grid c.args.table.now in let columns = c.args.columns.now in
    decided-like c.has_columns_once.result
    (pairing-from-parts grid columns c.requires.columns_each c.if-stands_in_cells.ensures)
    (once-from-pairing grid columns) c.has_columns_once.ensures

pub returns-else-stands_in_cells : goal.returns-else-stands_in_cells
returns-else-stands_in_cells g c =
    let grid = g.T.Amounts.as_grid c.args.table.now in let columns = c.args.columns.now in
    rw c.if-stands_in_cells.false (λ paired. c.if-stands_in_cells.ensures (stands-from-pairing grid columns paired))
