use Rattle.resumption.proofs.Common.{asked_by_resumption}
use Rattle.resumption.proofs.Resuming.{resumption-over, stopped-resumption}
use Rattle.resumption.proofs.top.resume_asked.Goals as goal

pub returns-in-Ok : goal.returns-in-Ok
returns-in-Ok g c = resumption-over (asked_by_resumption c.args.asked) _ _ _ c.in-Ok.ensures.texts _ _ _ c.resume_over.ensures

pub returns-in-Err : goal.returns-in-Err
returns-in-Err g c =
    stopped-resumption (asked_by_resumption c.args.asked) _ _ _ c.answer.result c.in-Err.stop c.in-Err.ensures.texts c.answer.ensures
