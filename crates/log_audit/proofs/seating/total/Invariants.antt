use Rattle.log_audit.proofs.Common.{◌≡◌, ◌*◌, ◌^◌, ◌≤◌, take, sum_by, Placed}
use Rattle.log_audit.proofs.seating.total.Given as goal

-- the sum so far
abbrev pub invariant-loop-one : goal.invariant-loop-one
invariant-loop-one l = record {
  cost : l.sum ≡ sum_by (λ (one : Placed). one.offer.cost) (take l.one-index l.placed);
  limit : l.sum ≤ l.one-index * 2 ^ 64;
}
