-- What a session writes.
use Rattle.std.specs.Prelude.{ℕ, Option, Some, None}
use Rattle.session_run.specs.declared.writes.Writes.{Writes}
use Rattle.session_run.specs.declared.writes.Writes.TheVariants.{Log, Sheets}

-- the reach of the sheets that are written, if any are
abbrev pub reach_of : Writes → Option ℕ
reach_of Log = None
reach_of (Sheets reach) = Some reach
