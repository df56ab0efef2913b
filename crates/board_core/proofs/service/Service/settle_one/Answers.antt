use Rattle.board_core.proofs.Common.{◌≡◌, inl, inr, refl, sym, ◌∙◌, ap, Confirmed, Gone, seat_of, outcome_of, after_outcome, BatchCopy, State, with_state, state_at}
use Rattle.ride_model.specs.declared.reply.RequestState.TheVariants.{Away as AwayState}
use Rattle.board_core.proofs.Settled.{settled-same, outcome-is}
use Rattle.board_core.proofs.service.Service.settle_one.Goals as goal

pub confirm-requires-clause-confirms : goal.confirm-requires-clause-confirms
confirm-requires-clause-confirms c =
    let (setup, moment, k, t) = c.requires.settled in (
      setup,
      moment,
      record {
        committed = k;
        settled = t;
        confirmed = sym (outcome-is setup moment c.args.solved.now c.args.r c.args.ride (0, Gone) k c.requires.within c.requires.ride)
            ∙ sym (c.in-Confirmed.ensures (0, Gone));
      },
    )

pub returns-in-Gone-clause-settled : goal.returns-in-Gone-clause-settled
returns-in-Gone-clause-settled c = λ setup moment k t. settled-same moment c.args.solved.now c.args.r c.args.self.now _ t refl

pub returns-in-Gone-clause-state : goal.returns-in-Gone-clause-state
returns-in-Gone-clause-state c = λ setup moment rest k t.
    let solved = c.args.solved.now in
    ap (λ o. after_outcome solved.batch c.args.ride (seat_of solved.answer.seating c.args.ride.id) o (state_at setup c.args.self.now rest))
    (sym (outcome-is setup moment solved c.args.r c.args.ride (0, Gone) k c.requires.within c.requires.ride)
    ∙ sym (c.in-Gone.ensures (0, Gone)))

pub returns-in-Away-clause-settled : goal.returns-in-Away-clause-settled
returns-in-Away-clause-settled c = λ setup moment k t. settled-same moment c.args.solved.now c.args.r c.args.self.now _ t refl

pub returns-in-Away-clause-state : goal.returns-in-Away-clause-state
returns-in-Away-clause-state c = λ setup moment rest k t.
    let solved = c.args.solved.now in
    let before : State = state_at setup c.args.self.now rest in
    ap (λ o. after_outcome solved.batch c.args.ride (seat_of solved.answer.seating c.args.ride.id) o before)
    (sym (outcome-is setup moment solved c.args.r c.args.ride (0, Gone) k c.requires.within c.requires.ride)
    ∙ sym (c.in-Away.ensures (0, Gone)))
    ∙ ap (λ requests. record before { requests = requests })
    (ap (λ (b : BatchCopy). with_state c.args.ride.id (AwayState b.number) c.args.self.now.requests) (sym c.batch.ensures)
    ∙ ap (λ number. with_state c.args.ride.id (AwayState number) c.args.self.now.requests) (sym c.number-number.ensures)
    ∙ sym c.set_state.ensures)

pub returns-in-Moved-clause-settled : goal.returns-in-Moved-clause-settled
returns-in-Moved-clause-settled c = λ setup moment k t. settled-same moment c.args.solved.now c.args.r c.args.self.now _ t refl

pub returns-in-Moved-clause-state : goal.returns-in-Moved-clause-state
returns-in-Moved-clause-state c = λ setup moment rest k t.
    let solved = c.args.solved.now in
    let before : State = state_at setup c.args.self.now rest in
    let is : outcome_of solved.batch solved.answer.seating moment c.args.ride.id ≡ c.outcome_at.result
    = sym (outcome-is setup moment solved c.args.r c.args.ride (0, Gone) k c.requires.within c.requires.ride)
    ∙ sym (c.outcome_at.ensures (0, Gone)) in
    elim c.in-Moved.is [
      | inl (named, stands, moved) ↦
          ap (λ o. after_outcome solved.batch c.args.ride (seat_of solved.answer.seating c.args.ride.id) o before) (is ∙ moved)
      | inr (start, now, behind) ↦
          ap (λ o. after_outcome solved.batch c.args.ride (seat_of solved.answer.seating c.args.ride.id) o before) (is ∙ behind)
    ]
    ∙ ap (λ requests. record before { requests = requests }) (sym c.set_state-in-Moved.ensures)

pub returns-in-Confirmed-clause-settled : goal.returns-in-Confirmed-clause-settled
returns-in-Confirmed-clause-settled c = λ setup moment k t.
    c.confirm.ensures.settled setup moment (record {
      committed = k;
      settled = t;
      confirmed = sym (outcome-is setup moment c.args.solved.now c.args.r c.args.ride (0, Gone) k c.requires.within c.requires.ride)
          ∙ sym (c.in-Confirmed.ensures (0, Gone));
    })

pub returns-in-Confirmed-clause-state : goal.returns-in-Confirmed-clause-state
returns-in-Confirmed-clause-state c = λ setup moment rest k t.
    let solved = c.args.solved.now in
    let before : State = state_at setup c.args.self.now rest in
    let is : outcome_of solved.batch solved.answer.seating moment c.args.ride.id ≡ Confirmed
    = sym (outcome-is setup moment solved c.args.r c.args.ride (0, Gone) k c.requires.within c.requires.ride)
    ∙ sym (c.in-Confirmed.ensures (0, Gone)) in
    ap (λ o. after_outcome solved.batch c.args.ride (seat_of solved.answer.seating c.args.ride.id) o before) is
    ∙ c.confirm.ensures.state setup moment rest (record { committed = k; settled = t; confirmed = is })
