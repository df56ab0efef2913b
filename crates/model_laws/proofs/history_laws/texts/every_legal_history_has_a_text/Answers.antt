use Rattle.model_laws.proofs.history_laws.HistoryTexts.{has_text}
use Rattle.model_laws.proofs.history_laws.texts.every_legal_history_has_a_text.Goals as goal

pub returns : goal.returns
returns c = has_text
