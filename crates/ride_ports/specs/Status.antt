-- The status of a session that ran.
use Rattle.std.specs.Prelude.{ℕ, if◌then◌else◌}
use Rattle.ride_ports.specs.declared.outcome.Ran.{Ran}

-- the first cause that is true: the sink failed, memory was wanting, a source failed, a feed was
-- too long
abbrev pub status_of : Ran → ℕ
status_of ran = if ran.sink_failed then 6 else (if ran.no_memory then 1
    else (if ran.source_failed then 5 else (if ran.too_long then 8 else 0)))
