-- States after draws.
use Rattle.city_maker.proofs.Common.{◌≡◌, ℕ, ◌+◌, ◌*◌, ◌/◌, ◌%◌, ◌<◌, refl, add-one, mod_below, state_after, draw_at}

pub state_after-none : (seed : ℕ) → state_after seed 0 ≡ seed
unfolding state_after
state_after-none seed = refl

-- the state that a draw leaves, and what it gives below a bound
abbrev pub next_state : ℕ → ℕ
next_state state = (1103515245 * state + 12345) % 2147483648

abbrev pub drawn : ℕ → ℕ → ℕ
drawn state bound = state / 65536 % bound

-- one draw more
pub state_after-more : (seed before : ℕ) → state_after seed (before + 1) ≡ next_state (state_after seed before)
unfolding state_after
state_after-more seed before = rw (add-one before) refl

pub draw_at-is : (seed before bound : ℕ) → draw_at seed before bound ≡ drawn (next_state (state_after seed before)) bound
unfolding draw_at
draw_at-is seed before bound = rw (state_after-more seed before) refl

pub draw_at-below : (seed before bound : ℕ) → 0 < bound → draw_at seed before bound < bound
unfolding draw_at
draw_at-below seed before bound some = mod_below (state_after seed (before + 1) / 65536) bound some
