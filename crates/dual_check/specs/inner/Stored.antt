-- How a cell keeps an amount or none in 8 bytes.
use Rattle.std.specs.Prelude.{ℕ, ◌-◌, ◌^◌, ◌==◌, if◌then◌else◌, Option, Some, None}

-- the amount that a number stands for, none for the greatest number
abbrev pub amount_in : ℕ → Option ℕ
amount_in n = if n == 2 ^ 64 - 1 then None else Some n

-- the number that stands for an amount or none
abbrev pub stored : Option ℕ → ℕ
stored None = 2 ^ 64 - 1
stored (Some amount) = amount
