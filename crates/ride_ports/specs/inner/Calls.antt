-- The calls of a form over memory: which of them fail, and the most bytes that the others move.
use Rattle.std.specs.Prelude.{ℕ, ◌-◌, ◌^◌, ◌<◌, ◌==◌, Bool, List, length, slice_get, unwrap_or, if◌then◌else◌, All}
use Rattle.std.specs.List.{list_any}
use Rattle.std.specs.Option.{option_or}
use Rattle.ride_ports.specs.inner.Count.{raised}

-- the lengths of the pieces, the numbers of the calls that fail, how many calls were made, and
-- the count of faults
pub record CallState : Type 0 where
  pub pieces : List ℕ
  pub failing : List ℕ
  pub made : ℕ
  pub faults : ℕ

-- the state before the first call
abbrev pub no_call : List ℕ → List ℕ → CallState
no_call pieces failing = record { pieces = pieces; failing = failing; made = 0; faults = 0 }

-- calls are numbered from 1, and failed ones count
abbrev pub next_call : CallState → ℕ
next_call calls = raised calls.made

-- a call fails where its number is listed
abbrev pub fails_next : CallState → Bool
fails_next calls = list_any (λ number. number == next_call calls) calls.failing

-- the most bytes that a call moves: past the end of the list its last item holds, and an empty
-- list sets no bound
abbrev pub most_bytes_at : List ℕ → ℕ → ℕ
most_bytes_at pieces call =
    unwrap_or (option_or (slice_get pieces (call - 1)) (slice_get pieces (length pieces - 1))) (2 ^ 64 - 1)

abbrev pub most_bytes : CallState → ℕ
most_bytes calls = most_bytes_at calls.pieces (next_call calls)

-- the state after the next call, which fails or not
abbrev pub after_call : CallState → Bool → CallState
after_call calls fails =
    record calls { made = next_call calls; faults = if fails then raised calls.faults else calls.faults }

-- each piece has a byte
abbrev pub ArePieces : List ℕ → Type 0
ArePieces pieces = All (λ piece. 0 < piece) pieces
