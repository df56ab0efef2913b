use Rattle.idle_moves.proofs.Common.{◌≡◌, ◌+◌, ◌*◌, ◌++◌, map, take, get_or, sym, ap, subst, ◌∙◌, arith, None, take_all, GridCells, BeginsWith, with_cell, within}
use Rattle.idle_moves.proofs.Filled.{cell-written, same-columns, same-rows}
use Rattle.idle_moves.proofs.grids.fill_row.Goals as goal

pub loop-column-preserved : goal.loop-column-preserved
loop-column-preserved c =
    let grid = c.loop-column.grid in
    let column = c.loop-column.column in
    let times = c.args.times.now in
    let inv = c.loop-column.invariant in
    let place = c.args.row * grid.columns + column in
    let cell = within c.args.reach (get_or times column None) in
    let after : c.write_cell.new.grid ≡ with_cell grid place cell
    = c.write_cell.ensures ∙ ap (with_cell grid place) c.within.ensures.time in
    record {
      rows = ap (λ (g : GridCells). g.rows) after ∙ same-rows grid place cell ∙ inv.rows;
      columns = ap (λ (g : GridCells). g.columns) after ∙ same-columns grid place cell ∙ inv.columns;
      filled = λ before at begins.
          subst (BeginsWith (before ++ map (within c.args.reach) (take (column + 1) times))) (sym after)
          (cell-written before c.args.reach c.args.row column times grid (at ∙ ap (λ n. c.args.row * n) (sym inv.columns))
          (omega (arith, c.requires.row_in, inv.rows))
          (omega (arith, c.loop-column-test.true, c.columns-column-end.ensures.columns, inv.columns))
          (omega (arith, c.loop-column-test.true, c.columns-column-end.ensures.columns, c.requires.columns))
          (inv.filled before at begins));
    }

pub returns-clause-filled : goal.returns-clause-filled
returns-clause-filled c before at begins =
    let times = c.args.times.now in
    let all : take c.loop-column.column times ≡ times
    = take_all c.loop-column.column times
    (omega (arith, c.loop-column-test.false, c.columns-column-end.ensures.columns, c.requires.columns)) in
    subst (λ ts. BeginsWith (before ++ map (within c.args.reach) ts) c.loop-column.grid) all
    (c.loop-column.invariant.filled before at begins)
