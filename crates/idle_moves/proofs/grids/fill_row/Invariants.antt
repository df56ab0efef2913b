use Rattle.idle_moves.proofs.Common.{◌≡◌, ℕ, ◌*◌, ◌++◌, List, length, map, take, Option, BeginsWith, within}
use Rattle.idle_moves.proofs.grids.fill_row.Given as goal

-- the cells of the row so far were written
abbrev pub invariant-loop-column : goal.invariant-loop-column
invariant-loop-column l = record {
  rows : l.grid.rows ≡ l.initial.grid.rows;
  columns : l.grid.columns ≡ l.initial.grid.columns;
  filled : (before : List (Option ℕ)) → length before ≡ l.row * l.initial.grid.columns → BeginsWith before l.initial.grid
      → BeginsWith (before ++ map (within l.reach) (take l.column l.times)) l.grid;
}
