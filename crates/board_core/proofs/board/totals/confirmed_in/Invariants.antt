use Rattle.board_core.proofs.Common.{◌≡◌, take, confirmed_total}
use Rattle.board_core.proofs.board.totals.confirmed_in.Given as goal

-- the entries so far are counted
abbrev pub invariant-loop-entry : goal.invariant-loop-entry
invariant-loop-entry l = l.sum ≡ confirmed_total (take l.entry-index l.entries)
