use Rattle.dual_check.proofs.Common.{◌≡◌, take, map, amount_alone}
use Rattle.dual_check.proofs.spreads.amounts_alone.Given as goal

-- the amounts so far
abbrev pub invariant-loop-amount : goal.invariant-loop-amount
invariant-loop-amount l = l.alone.items ≡ map amount_alone (take l.amount-index l.amounts)
