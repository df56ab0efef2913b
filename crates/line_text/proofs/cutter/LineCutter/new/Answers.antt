use Rattle.line_text.proofs.Common.{refl}
use Rattle.line_text.proofs.CutterLemmas.{HasTaken-nothing}
use Rattle.line_text.proofs.cutter.LineCutter.new.Goals as goal

pub returns-clause-nothing_taken : goal.returns-clause-nothing_taken
returns-clause-nothing_taken c = HasTaken-nothing _ refl refl refl refl
