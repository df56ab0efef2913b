-- What was written of a log.
use Rattle.std.specs.Prelude.{◌≡◌, ℕ, ◌⊎◌, true, false, List, [], Option}
use Rattle.ride_ports.specs.Bytes.{Writes, WritesPrefix}
use Rattle.ride_ports.specs.declared.outcome.Ran.{Ran}

-- of a session that has taken these bytes of its feed the whole text was written, or nothing where memory was wanting before any was
-- taken; a prefix of it where the sink failed
pub record IsLogged (ran : Ran) (taken : List ℕ) (before after : Option (List ℕ)) (text : List ℕ) : Type 0 where
  pub whole : ran.sink_failed ≡ false → Writes before after text ⊎ ((ran.no_memory ≡ true) × (taken ≡ []) × (after ≡ before))
  pub prefix : ran.sink_failed ≡ true → WritesPrefix before after text
