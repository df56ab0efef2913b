use Rattle.fleet_board.proofs.Common.{◌≡◌, take}
use Rattle.fleet_board.proofs.scribes.copies_of.Given as goal

abbrev pub invariant-loop-entry : goal.invariant-loop-entry
invariant-loop-entry l = l.copies.items ≡ take l.entry-index l.wanted
