use Rattle.std.proofs.Common.{◌≢◌, ap, sym, subst, ◌∙◌}
use Rattle.std.specs.Prelude.{IfSome, Option}
use Rattle.ride_model.specs.Seating.{BatchCopy}
use Rattle.board_core.specs.Recorded.{Recorded, state_of}
use Rattle.board_core.proofs.OpenBatches.{IsOpen, open-abandoned}
use Rattle.board_trials.proofs.boards.days.abandon.Goals as goal

pub returns-in-Some-clause-others : goal.returns-in-Some-clause-others
returns-in-Some-clause-others g c b held apart =
    let is = sym c.take-batch.ensures.value ∙ c.in-Some.is in
    open-abandoned c.args.board.now c.abandon.new.self c.in-Some.batch (ap (λ (b : Recorded). b.start) c.abandon.ensures.others)
    (subst (λ (o : Option BatchCopy). IfSome o (λ (x : BatchCopy). IsOpen (state_of c.args.board.now) x)) is c.requires.held)
    c.abandon.ensures.entry b held
    (subst (λ (o : Option BatchCopy). IfSome o (λ (x : BatchCopy). b.desk ≢ x.desk)) is apart)
