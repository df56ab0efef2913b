use Rattle.board_core.proofs.Common.{◌≡◌, take, dropped_total}
use Rattle.board_core.proofs.board.totals.dropped_in.Given as goal

-- the entries so far are counted
abbrev pub invariant-loop-entry : goal.invariant-loop-entry
invariant-loop-entry l = l.count ≡ dropped_total (take l.entry-index l.entries)
