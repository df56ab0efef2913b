use Rattle.city_maker.proofs.Common.{ℕ, List, ◌++◌, HasJoined}
use Rattle.city_maker.proofs.ArcLemmas.{pairs_in_row}
use Rattle.city_maker.proofs.roads.Roads.join_row.Given as goal

abbrev pub invariant-loop-column : goal.invariant-loop-column
invariant-loop-column l = (seed : ℕ) (pairs : List (ℕ × ℕ)) → HasJoined seed pairs l.initial.self
    → HasJoined seed (pairs ++ pairs_in_row l.side l.row l.column) l.self
