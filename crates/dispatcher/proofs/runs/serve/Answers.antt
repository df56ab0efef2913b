use Rattle.dispatcher.proofs.Common.{None, refl, text_files}
use Rattle.dispatcher.proofs.Running.{serve-run, stopped-run}
use Rattle.dispatcher.proofs.runs.serve.Goals as goal

pub returns-in-Ok : goal.returns-in-Ok
returns-in-Ok g c = serve-run _ _ _ _ _ _ _ _ _ _ _ _ c.in-Ok.ensures.texts c.serve_feeds.ensures

pub returns-in-Err : goal.returns-in-Err
returns-in-Err g c =
    stopped-run _ (text_files _ _ None) _ _ _ _ _ _ refl c.in-Err.ensures.texts c.answer.ensures
