-- Counts of faults over several calls in turn.
use Rattle.ride_ports.proofs.Common.{ℕ, ◌<◌, ◌≤◌, arith, Rose}

-- a count that rose and does not fall afterwards rose over both calls
pub Rose-then_kept : (a b c : ℕ) → Rose a b → b ≤ c → Rose a c
Rose-then_kept a b c rose kept = grind arith

-- a count that does not fall and then rises rose over both calls
pub Rose-after_kept : (a b c : ℕ) → a ≤ b → Rose b c → b ≤ c → Rose a c
Rose-after_kept a b c kept rose falls = grind arith

-- a count that rose from 0 is above it
pub Rose-from_zero : (a : ℕ) → Rose 0 a → 0 < a
Rose-from_zero a rose = grind arith
