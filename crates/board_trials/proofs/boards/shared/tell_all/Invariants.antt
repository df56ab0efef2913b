use Rattle.fleet_board.specs.Roles.{MayFeed}
use Rattle.board_trials.proofs.boards.shared.tell_all.Given as goal

-- the feed may go on
abbrev pub invariant-loop-command : goal.invariant-loop-command
invariant-loop-command g l = MayFeed l.board l.feed
