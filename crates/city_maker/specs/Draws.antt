-- The numbers that a seed draws.
use Rattle.std.specs.Prelude.{ℕ, zero, suc, ◌+◌, ◌*◌, ◌/◌, ◌%◌}

-- the state after so many draws: at first it is the seed
unfoldable pub state_after : ℕ → ℕ → ℕ
state_after seed zero = seed
state_after seed (suc draws) = (1103515245 * state_after seed draws + 12345) % 2147483648

-- the draw below a bound that comes after so many others: of the state that it leaves, without the lowest 16 bits
unfoldable pub draw_at : ℕ → ℕ → ℕ → ℕ
draw_at seed before bound = state_after seed (before + 1) / 65536 % bound
