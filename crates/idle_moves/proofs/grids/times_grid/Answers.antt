use Rattle.idle_moves.proofs.Common.{[], length, sym, ap, subst, ◌∙◌, GridCells, BeginsWith, cells_of}
use Rattle.idle_moves.proofs.Filled.{begins-empty}
use Rattle.idle_moves.proofs.grids.times_grid.Goals as goal

pub fill_rows-requires-clause-empty : goal.fill_rows-requires-clause-empty
fill_rows-requires-clause-empty c =
    subst (BeginsWith []) (sym c.in_ok-grid.ensures) (begins-empty (length c.args.requests.now) (length c.args.nodes.now))

pub returns-clause-grid : goal.returns-clause-grid
returns-clause-grid c =
    let rows = c.fill_rows.ensures.rows_stay ∙ ap (λ (g : GridCells). g.rows) c.in_ok-grid.ensures in
    let columns = c.fill_rows.ensures.columns_stay ∙ ap (λ (g : GridCells). g.columns) c.in_ok-grid.ensures in
    let cells = c.fill_rows.ensures.filled
    ∙ (λ i. cells_of (c.look.ensures i) c.args.reach c.args.requests.now (c.towards-towards.ensures.wanted i)) in
    λ i. record { rows = rows i; columns = columns i; cells = cells i }
