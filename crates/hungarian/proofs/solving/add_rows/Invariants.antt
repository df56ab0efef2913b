use Rattle.hungarian.proofs.Common.{IsSized, IsPartial}
use Rattle.hungarian.proofs.solving.add_rows.Given as goal

-- the rows so far are paired
abbrev pub invariant-loop-row : goal.invariant-loop-row
invariant-loop-row l = record {
  partial : IsPartial l.grid l.penalty l.row l.matches l.duals;
  sized : IsSized l.grid.columns l.search;
}
