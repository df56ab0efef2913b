use Rattle.live_sessions.proofs.Common.{start_state, feed_run}
use Rattle.live_sessions.proofs.Beginnings.{may-begin, served-first}
use Rattle.live_sessions.proofs.serving.serve.Goals as goal

pub resume-requires-clause-may_go_on : goal.resume-requires-clause-may_go_on
resume-requires-clause-may_go_on g c κs bounds =
    may-begin c.in-Ok.board c.args.roads.now c.args.outset.settings c.args.outset.fleet c.args.outset.workers c.in-Ok.ensures.start c.in-Ok.ensures.history

pub returns-clause-log : goal.returns-clause-log
returns-clause-log g c =
    served-first c.args.outset.desks (feed_run g.S.Source.left g.S.Source.faults c.args.riders.now c.resume.new.riders)
    (feed_run g.S.Source.left g.S.Source.faults c.args.drivers.now c.resume.new.drivers) c.resume.result
    (g.K.Sink.written c.args.out.now) (g.K.Sink.written c.resume.new.out) c.in-Ok.board
    (start_state c.args.roads.now c.args.outset.settings c.args.outset.fleet) c.in-Ok.ensures.start c.in-Ok.ensures.feeds c.in-Ok.ensures.desks
    c.in-Ok.ensures.history c.resume.ensures.log
