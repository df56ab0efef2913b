use Rattle.batch_commit.proofs.Common.{◌≡◌, ℕ, take, undecided}
use Rattle.batch_commit.proofs.answers.undecided_outcomes.Given as goal

-- the outcomes so far
abbrev pub invariant-loop-id : goal.invariant-loop-id
invariant-loop-id l = l.outcomes.items ≡ undecided (take l.id-index l.prices)
