use Rattle.hungarian.proofs.Common.{◌-◌, IsSearching}
use Rattle.hungarian.proofs.search.Search.path.Given as goal

-- a row was reached and is to be relaxed next
abbrev pub invariant-loop-column : goal.invariant-loop-column
invariant-loop-column l = IsSearching l.grid l.penalty l.matches l.duals l.root l.reach l.leaving l.self

-- each step settles a column
abbrev pub decreases-loop-column : goal.decreases-loop-column
decreases-loop-column l = l.grid.columns - l.self.steps
