use Rattle.log_audit.proofs.Common.{replay}
use Rattle.log_audit.proofs.Legality.{words-legal, legal-words, batches-differ}
use Rattle.log_audit.proofs.laws.words_together_are_legality.Goals as goal

pub returns : goal.returns
returns c = λ feeds desks start entries entry begins legal. (
  legal-words feeds desks (replay start entries) entry.actor entry.event,
  words-legal feeds desks (replay start entries) entry.actor entry.event (batches-differ feeds desks start entries begins legal),
)
