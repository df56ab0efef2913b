-- What only lemmas and lower contracts use beside Limits.antt.
use Rattle.std.specs.Prelude.{ℕ}

-- more commands than a feed has lines
abbrev pub most_commands : ℕ
most_commands = 1000000000

-- the most commands of a pass before its feed is read: with those of the lines they stay below most_commands
abbrev pub most_earlier_commands : ℕ
most_earlier_commands = 900000000
