use Rattle.dispatcher.proofs.Common.{inr, refl, feed_file}
use Rattle.dispatcher.proofs.Reading.{none-read}
use Rattle.dispatcher.proofs.Running.{any-text, work-run}
use Rattle.dispatcher.proofs.TextRuns.{nothing}
use Rattle.dispatcher.proofs.runs.book.Goals as goal

pub returns : goal.returns
returns g c =
    work-run _ _ _ _ _ _ _ (none-read nothing _ c.requires.fresh) _ (feed_file _) _ refl (λ sources. inr refl) (any-text _) (λ over did. (over, did)) c.work_over.ensures
