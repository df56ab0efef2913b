use Rattle.session_loops.proofs.Common.{KeepsCount-none, knowledge}
use Rattle.session_loops.proofs.FeedEnds.{nothing-submitted}
use Rattle.session_loops.proofs.feeds.run_feed.Goals as goal

pub returns-in-Err-clause-submitted : goal.returns-in-Err-clause-submitted
returns-in-Err-clause-submitted g c = nothing-submitted c.args.form (g.S.Source.left c.args.source.now) (knowledge c.args.pass.now)

pub returns-in-Err-clause-faults : goal.returns-in-Err-clause-faults
returns-in-Err-clause-faults g c = KeepsCount-none (g.S.Source.faults c.args.source.now)
