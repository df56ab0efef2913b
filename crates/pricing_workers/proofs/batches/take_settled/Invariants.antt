use Rattle.pricing_workers.proofs.Common.{◌≡◌}
use Rattle.pricing_workers.proofs.batches.take_settled.Given as goal

-- the scratches are as they were
abbrev pub invariant-loop-scratch : goal.invariant-loop-scratch
invariant-loop-scratch l = l.scratches ≡ l.initial.scratches
