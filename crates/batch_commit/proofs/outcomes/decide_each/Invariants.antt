use Rattle.batch_commit.proofs.Common.{◌≡◌, ℕ, length, take, map, Outcome, State, ride_ids, outcomes_of, StandsSo}
use Rattle.batch_commit.proofs.outcomes.decide_each.Given as goal

-- those so far are decided
abbrev pub invariant-loop-r : goal.invariant-loop-r
invariant-loop-r l = record {
  decided : (s : State) → StandsSo l.batch l.now l.vehicles l.cancelled s → take l.r l.outcomes ≡ take l.r (outcomes_of l.batch l.seats s);
  one_each : map (λ (item : ℕ × Outcome). item.0) l.outcomes ≡ ride_ids l.batch.requests;
}
