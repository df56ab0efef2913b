use Rattle.log_audit.proofs.Common.{RoadMap, IsSeating, IsTableOf, ArePlaced}
use Rattle.log_audit.proofs.OwnCells.{OwnsSoFar}
use Rattle.log_audit.proofs.commits.with_own_offers.Given as goal

-- the seats so far stand in their cells
abbrev pub invariant-loop-one : goal.invariant-loop-one
invariant-loop-one l =
    (roads : RoadMap) → IsTableOf roads l.batch l.initial.table → IsSeating roads l.batch l.seats → ArePlaced roads l.batch l.seats l.placed
    → OwnsSoFar roads l.batch l.table l.seats l.placed l.one-index
