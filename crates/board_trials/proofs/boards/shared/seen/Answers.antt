use Rattle.std.proofs.Common.{arith}
use Rattle.turn_lock.specs.Passes.{knowledge}
use Rattle.board_trials.proofs.BegunWatches.{given-le}
use Rattle.board_trials.proofs.boards.shared.seen.Goals as goal

pub returns : goal.returns
returns c = omega (arith, given-le (knowledge c.args.feed.now) c.requires, c.seen.ensures)
