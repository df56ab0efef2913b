use Rattle.std.proofs.Common.{length, ap, arith}
use Rattle.board_core.proofs.OpenBatches.{fed-le}
use Rattle.board_trials.proofs.boards.days.count.Goals as goal

pub returns : goal.returns
returns c feed = omega (arith, fed-le feed c.args.board.now.history, ap length c.entries.ensures.items)
