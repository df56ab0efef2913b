use Rattle.std.proofs.Common.{ℕ, All}
use Rattle.batch_commit.specs.inner.Answer.{IsSeatAt}
use Rattle.seating_trials.proofs.batch_certificates.seats_at.Given as goal

-- each seat so far stands in its cell
abbrev pub invariant-loop-request : goal.invariant-loop-request
invariant-loop-request g l = All (λ seat. (r : ℕ) × (c : ℕ) × IsSeatAt l.batch l.table seat r c) l.seats.items
