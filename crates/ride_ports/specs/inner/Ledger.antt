-- What a shelf keeps of its calls.
use Rattle.std.specs.Prelude.{ℕ, ◌++◌, ◌∷◌, [], List, nat_lt, if◌then◌else◌}
use Rattle.ride_ports.specs.Contents.{GivenBack}
use Rattle.ride_ports.specs.inner.Count.{raised}

-- the names that were asked for, how many of them were brought, the sources that were given
-- back, and the count of faults
pub record LedgerState : Type 0 where
  pub asked : List (List ℕ)
  pub brought : ℕ
  pub back : List GivenBack
  pub faults : ℕ

-- before the first call
abbrev pub no_entry : LedgerState
no_entry = record { asked = []; brought = 0; back = []; faults = 0 }

-- after a name was asked for
abbrev pub after_asking : LedgerState → List ℕ → LedgerState
after_asking ledger name = record ledger { asked = ledger.asked ++ name ∷ [] }

-- after a source was given back, whose faults are one fault of the shelf
abbrev pub after_return : LedgerState → GivenBack → LedgerState
after_return ledger source =
    record ledger { back = ledger.back ++ source ∷ []; faults = if nat_lt 0 source.faults then raised ledger.faults else ledger.faults }
