use Rattle.dispatcher.proofs.Common.{◌∙◌}
use Rattle.dispatcher.proofs.Saying.{says}
use Rattle.dispatcher.proofs.answering.answer.Goals as goal

pub returns : goal.returns
returns g c =
    says c.write_all.result _ c.status_of.result _ _ _ c.status_of.ensures (c.as_slice.ensures.value ∙ c.in-Ok.ensures) c.write_all.ensures.whole
    c.write_all.ensures.prefix c.write_all.ensures.faults
