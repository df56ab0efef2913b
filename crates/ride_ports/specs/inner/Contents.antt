-- What only lemmas and lower contracts use beside Contents.antt.
use Rattle.std.specs.Prelude.{◌≡◌, ℕ, List, Option, IsSome, IfSome}
use Rattle.ride_ports.specs.Contents.{Contents, bytes_at}

-- where the contents are told, the name has bytes, and these are left
abbrev pub IsContentOf : Option Contents → List ℕ → Option (List ℕ) → Type 0
IsContentOf told name left = IfSome told (λ contents. IsSome left × (left ≡ bytes_at contents name))
