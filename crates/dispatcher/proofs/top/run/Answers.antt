use Rattle.run_words.specs.inner.Asks.{asked_by}
use Rattle.dispatcher.proofs.Mission.{served-none, serves-well}
use Rattle.dispatcher.proofs.top.run.Goals as goal

pub returns-in-Ok-clause-served : goal.returns-in-Ok-clause-served
returns-in-Ok-clause-served g c = rw c.in-Ok.ensures.ask (serves-well (asked_by c.in-Ok.ask) _ _ _ c.run_ask.result c.run_ask.ensures)

pub returns-in-Err-NoMemory-clause-served : goal.returns-in-Err-NoMemory-clause-served
returns-in-Err-NoMemory-clause-served g c = served-none _ _ _ _ c.code-in-Err-NoMemory.ensures
