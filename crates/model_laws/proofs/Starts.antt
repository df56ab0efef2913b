-- When a vehicle starts for a batch.
use Rattle.model_laws.proofs.Common.{◌≡◌, ℕ, ◌+◌, ◌≤◌, Bool, true, false, cond, leb-true, arith, max, nat_le, ◌||◌, and_parts, Vehicle, is_idle, is_open, start_of}

-- not before it is ready
pub start-later : (v : Vehicle) (lead time : ℕ) → v.ready ≤ start_of v lead time
start-later v lead time = by_test (is_idle v)
  where
    by_test : (b : Bool) → v.ready ≤ cond b (max v.ready (time + lead)) v.ready
    by_test true = omega arith
    by_test false = omega arith

-- if it is open, not before the time
pub start-not_before : (v : Vehicle) (lead time : ℕ) → is_open v time ≡ true → time ≤ start_of v lead time
start-not_before v lead time open_then = by_test (is_idle v) (and_parts v.duty (is_idle v || nat_le time v.ready) open_then).1
  where
    by_test : (b : Bool) → (b || nat_le time v.ready) ≡ true → time ≤ cond b (max v.ready (time + lead)) v.ready
    by_test true h = omega arith
    by_test false h = leb-true time v.ready h
