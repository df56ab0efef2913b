use Rattle.live_sessions.proofs.Common.{inr, subst, Recorded, IsResumed, feed_run}
use Rattle.live_sessions.proofs.resuming.resume.Goals as goal

pub returns-in-Ok-clause-log : goal.returns-in-Ok-clause-log
returns-in-Ok-clause-log g c =
    inr (subst (λ (board : Recorded). IsResumed board (feed_run g.S.Source.left g.S.Source.faults c.args.riders.now c.run.new.riders)
    (feed_run g.S.Source.left g.S.Source.faults c.args.drivers.now c.run.new.drivers) c.run.result
    (g.K.Sink.written c.args.out.now) (g.K.Sink.written c.run.new.out)) c.in-Ok.ensures.board c.run.ensures.resumed)
