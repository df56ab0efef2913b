use Rattle.hungarian.proofs.Filling.{IsFilling}
use Rattle.hungarian.proofs.costs.fill_row.Given as goal

-- the costs so far were written, and nothing else
abbrev pub invariant-loop-column : goal.invariant-loop-column
invariant-loop-column l = IsFilling l.table l.row l.columns l.column l.initial.grid l.grid
