use Rattle.city_maker.proofs.Common.{HasJoined}
use Rattle.city_maker.proofs.ArcLemmas.{pairs_in_rows}
use Rattle.city_maker.proofs.roads.grid.Given as goal

abbrev pub invariant-loop-row : goal.invariant-loop-row
invariant-loop-row l = HasJoined l.seed (pairs_in_rows l.side l.row) l.roads
