-- What only lemmas and lower contracts use beside Count.antt.
use Rattle.std.specs.Prelude.{ℕ, ◌+◌, min}
use Rattle.ride_ports.specs.Count.{most_count}

-- the count after one more
abbrev pub raised : ℕ → ℕ
raised count = min (count + 1) most_count
