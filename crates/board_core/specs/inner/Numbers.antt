-- Values of at most two that are numbered from 1.
use Rattle.std.specs.Prelude.{ℕ, ◌+◌, ◌==◌, if◌then◌else◌, Option, None, is_some}
use Rattle.board_core.specs.declared.numbered.Numbered.{Numbered}

-- the value of a number
abbrev pub at_number : {T : Type 0} → Numbered T → ℕ → Option T
at_number {T} pair number = if number == 1 then pair.first else if number == 2 then pair.second else None

-- another value of the number 1 or 2
abbrev pub with_number : {T : Type 0} → ℕ → Option T → Numbered T → Numbered T
with_number {T} number value pair = if number == 1 then record pair { first = value } else record pair { second = value }

-- 1 where there is a value
abbrev pub one_if_some : {T : Type 0} → Option T → ℕ
one_if_some {T} value = if is_some value then 1 else 0

-- how many have a value
abbrev pub count_in : {T : Type 0} → Numbered T → ℕ
count_in {T} pair = one_if_some pair.first + one_if_some pair.second
