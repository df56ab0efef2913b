use Rattle.std.proofs.Common.{◌≡◌, Ok, ap, sym, ◌∙◌, arith}
use Rattle.ride_model.specs.State.{State}
use Rattle.ride_model.specs.Text.{IsOneOrTwo}
use Rattle.board_core.specs.declared.opening.Opening.{Opening}
use Rattle.board_core.specs.Recorded.{state_of}
use Rattle.board_core.proofs.OpenBatches.{still-kept}
use Rattle.board_trials.proofs.boards.days.Day.open.Goals as goal

pub invariant_of-self-then-desk-eq1 : goal.invariant_of-self-then-desk-eq1
invariant_of-self-then-desk-eq1 g c =
    let opened = c.in_ok-open.ensures.opened c.in-Batch.batch (ap (λ (o : Opening). Ok o) c.in-Batch.is) in (
      c.self.invariant.0 ∙ sym (ap (λ (s : State). s.roads) c.open.ensures.start),
      c.self.invariant.1 ∙ sym (ap (λ (s : State). s.settings.log) c.open.ensures.start),
      (opened.0 ∙ c.if-desk-eq1.true, opened.1),
      still-kept 2 (state_of c.self.inside.board) (state_of c.open.new.board) c.self.inside.second c.open.ensures.held c.self.invariant.3,
    )

pub invariant_of-self-in-Batch-2 : goal.invariant_of-self-in-Batch-2
invariant_of-self-in-Batch-2 g c =
    let opened = c.in_ok-open.ensures.opened c.in-Batch.batch (ap (λ (o : Opening). Ok o) c.in-Batch.is) in
    let fits : IsOneOrTwo c.args.desk = c.in_ok-open.ensures.desk c.in-Batch.batch (ap (λ (o : Opening). Ok o) c.in-Batch.is) in
    let two : c.args.desk ≡ 2 = omega (arith, fits.0, fits.1, c.if-desk-eq1.false) in (
      c.self.invariant.0 ∙ sym (ap (λ (s : State). s.roads) c.open.ensures.start),
      c.self.invariant.1 ∙ sym (ap (λ (s : State). s.settings.log) c.open.ensures.start),
      still-kept 1 (state_of c.self.inside.board) (state_of c.open.new.board) c.self.inside.first c.open.ensures.held c.self.invariant.2,
      (opened.0 ∙ two, opened.1),
    )
