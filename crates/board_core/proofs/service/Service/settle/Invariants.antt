use Rattle.board_core.proofs.Common.{◌≡◌, drop, after_outcomes, State, Given, state_at, IsCommitted, IsSettledTo}
use Rattle.board_core.proofs.service.Service.settle.Given as goal

-- the requests so far are settled, and what all make of the state is what the others make of it now
abbrev pub invariant-loop-r : goal.invariant-loop-r
invariant-loop-r l = record {
  settled : (setup : Given) (moment : State) → IsCommitted setup moment l.solved → IsSettledTo moment l.solved 0 l.initial.self
      → IsSettledTo moment l.solved l.r l.self;
  state : (setup : Given) (moment rest : State) → IsCommitted setup moment l.solved → IsSettledTo moment l.solved 0 l.initial.self
      → after_outcomes l.solved.batch l.solved.answer.seating moment l.solved.batch.requests (state_at setup l.initial.self rest)
      ≡ after_outcomes l.solved.batch l.solved.answer.seating moment (drop l.r l.solved.batch.requests) (state_at setup l.self rest);
}
