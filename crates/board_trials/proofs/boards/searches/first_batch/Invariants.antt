use Rattle.std.proofs.Common.{◌≡◌}
use Rattle.board_trials.proofs.boards.searches.first_batch.Given as goal

-- the board begins as it did
abbrev pub invariant-loop-command : goal.invariant-loop-command
invariant-loop-command g l = l.board.start ≡ l.initial.board.start
