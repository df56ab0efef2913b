use Rattle.dispatcher.proofs.Common.{inr, None, refl, feed_file, text_files}
use Rattle.dispatcher.proofs.Running.{any-text, stopped-run, work-run}
use Rattle.dispatcher.proofs.runs.replay.Goals as goal

pub returns-in-Ok : goal.returns-in-Ok
returns-in-Ok g c =
    work-run _ _ _ _ _ _ _ c.in-Ok.ensures.texts _ (feed_file _) _ refl (λ sources. inr refl) (any-text _) (λ over did. (over, did)) c.work_over.ensures

pub returns-in-Err : goal.returns-in-Err
returns-in-Err g c =
    stopped-run _ (text_files _ _ None) _ _ _ _ _ _ refl c.in-Err.ensures.texts c.answer.ensures
