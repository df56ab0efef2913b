use Rattle.board_core.proofs.Common.{inl, inr, sym, ◌∙◌, ap, State, cancel_by_state, Cancelled, state_at}
use Rattle.board_core.proofs.Steps.{cancel-none, cancel-by_state}
use Rattle.board_core.proofs.service.Service.cancel.Goals as goal

pub returns-in_default-clause-answered : goal.returns-in_default-clause-answered
returns-in_default-clause-answered c = λ rest.
    cancel-none (state_at c.args.setup.now c.args.self.now rest) c.args.id (sym c.in_default.ensures)

pub returns-in-Waiting-clause-answered : goal.returns-in-Waiting-clause-answered
returns-in-Waiting-clause-answered c = λ rest.
    let s : State = state_at c.args.setup.now c.args.self.now rest in
    cancel-by_state s c.args.id c.in-Some.state (sym c.in-Some.ensures)
    ∙ elim c.in-Waiting.is [
      | inl is ↦ ap (cancel_by_state s c.args.id) is
      | inr (batch, is) ↦ ap (cancel_by_state s c.args.id) is
    ]
    ∙ ap (λ requests. record { state = record s { requests = requests }; reply = Cancelled }) (sym c.set_state.ensures)

pub returns-in-Aboard-clause-answered : goal.returns-in-Aboard-clause-answered
returns-in-Aboard-clause-answered c = λ rest.
    let s : State = state_at c.args.setup.now c.args.self.now rest in
    cancel-by_state s c.args.id c.in-Some.state (sym c.in-Some.ensures) ∙ ap (cancel_by_state s c.args.id) c.in-Aboard.is

pub returns-in-Done-clause-answered : goal.returns-in-Done-clause-answered
returns-in-Done-clause-answered c = λ rest.
    let s : State = state_at c.args.setup.now c.args.self.now rest in
    cancel-by_state s c.args.id c.in-Some.state (sym c.in-Some.ensures)
    ∙ elim c.in-Done.is [
      | inl is ↦ ap (cancel_by_state s c.args.id) is
      | inr other ↦ elim other [
        | inl (batch, is) ↦ ap (cancel_by_state s c.args.id) is
        | inr is ↦ ap (cancel_by_state s c.args.id) is
      ]
    ]
