use Rattle.resumption.proofs.Common.{asked_by_resumption, sunk}
use Rattle.resumption.proofs.Keeping.{resumed-some, resumes-well}
use Rattle.resumption.proofs.top.resume.Goals as goal

pub returns-in-Ok-clause-resumed : goal.returns-in-Ok-clause-resumed
returns-in-Ok-clause-resumed g c =
    resumed-some _ (asked_by_resumption c.in-Ok.asked) (g.H.Shelf.contents c.args.shelf.now)
    (sunk g.K.Sink.written g.K.Sink.faults c.args.out.now c.resume_asked.new.out) c.resume_asked.result c.in-Ok.ensures.resumption
    (resumes-well (asked_by_resumption c.in-Ok.asked) _ _ _ _ c.resume_asked.ensures)
