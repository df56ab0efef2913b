use Rattle.idle_moves.proofs.Common.{◌≡◌, ◌*◌, length, take, BeginsWith, cells_of}
use Rattle.idle_moves.proofs.grids.fill_rows.Given as goal

-- the rows so far were written
abbrev pub invariant-loop-row : goal.invariant-loop-row
invariant-loop-row l = record {
  rows : l.grid.rows ≡ l.initial.grid.rows;
  columns : l.grid.columns ≡ l.initial.grid.columns;
  places : length l.row_times ≡ length l.towards.wanted;
  sized : length (cells_of l.initial.times l.reach (take l.row l.requests) l.towards.wanted) ≡ l.row * l.grid.columns;
  filled : BeginsWith (cells_of l.initial.times l.reach (take l.row l.requests) l.towards.wanted) l.grid;
  times : l.times ≡ l.initial.times;
}
