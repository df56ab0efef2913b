use Rattle.std.proofs.Common.{length, ap, arith}
use Rattle.league_trials.proofs.DaySides.{few-reports}
use Rattle.league_trials.proofs.sides.reports_of.Goals as goal

pub returns : goal.returns
returns c = omega (arith, few-reports c.args.board.now, ap length c.entries.ensures.items)
