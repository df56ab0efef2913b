-- What only lemmas and lower contracts use beside FeedRuns.antt.
use Rattle.std.specs.Prelude.{◌≡◌, ℕ, Bool, true, false, List, [], ◌++◌, Option, Some, None, IfSome}
use Rattle.line_text.specs.Lines.{lines_of}
use Rattle.ride_ports.specs.Bytes.{Reads}
use Rattle.ride_ports.specs.declared.outcome.Ran.{Ran}
use Rattle.line_text.specs.declared.line_reader.answers.ReadStop.TheVariants.{SourceFailed, TooLong}
use Rattle.line_text.specs.declared.line_reader.limits.Limits.{Limits}
use Rattle.line_text.specs.declared.line_reader.stops.Stop.{Stop}
use Rattle.line_text.specs.declared.line_reader.stops.Stop.TheVariants.{NoMemory, OfFeed}
use Rattle.line_text.specs.line_reader.Limits.{IsWithinLimits, lines_within}
use Rattle.line_text.specs.inner.line_reader.Reader.{HasGiven, ReaderState, StopsAt}
use Rattle.line_text.specs.line_reader.FeedRuns.{AreFirstLines}

-- between two lines of a feed: its reader has given the lines of these bytes, and what else was read of it is pending
pub record IsBetween (feed left : Option (List ℕ)) (reader : ReaderState) (bytes : List ℕ) : Type 0 where
  pub given : HasGiven reader bytes
  pub reads : Reads feed left (bytes ++ reader.pending)

-- why no more lines of a feed were taken than these: they are all of them, or the sink failed; or
-- memory was wanting; or they are those that count of a feed that was not read to its end
abbrev pub IsEnded : Limits → Option Stop → Option (List ℕ) → List ℕ → Bool → List (List ℕ) → Type 0
IsEnded limits None left taken failed lines = failed ≡ false
    → (lines ≡ lines_of taken) × IsWithinLimits limits taken × IfSome left (λ rest. rest ≡ [])
IsEnded limits (Some NoMemory) left taken failed lines = Unit {0}
IsEnded limits (Some (OfFeed stop)) left taken failed lines = (lines ≡ lines_within limits taken) × StopsAt limits taken stop

-- of a feed these bytes and these lines were taken, until its end, a stop, or a failure of the sink
pub record HasRun (limits : Limits) (feed left : Option (List ℕ)) (stop : Option Stop) (failed : Bool) (taken : List ℕ) (lines : List (List ℕ))
    : Type 0 where
  pub reads : Reads feed left taken
  pub first : AreFirstLines feed taken lines
  pub ended : IsEnded limits stop left taken failed lines

-- whether a feed was stopped for want of memory, by its source, or by its length
abbrev pub is_no_memory : Option Stop → Bool
is_no_memory (Some NoMemory) = true
is_no_memory _ = false

abbrev pub is_source_failed : Option Stop → Bool
is_source_failed (Some (OfFeed SourceFailed)) = true
is_source_failed _ = false

abbrev pub is_too_long : Option Stop → Bool
is_too_long (Some (OfFeed TooLong)) = true
is_too_long _ = false

-- how a session ran whose feed was stopped, or was not, and whose sink failed or did not
abbrev pub ran_of : Option Stop → Bool → Ran
ran_of stop failed = record {
  sink_failed = failed;
  no_memory = is_no_memory stop;
  source_failed = is_source_failed stop;
  too_long = is_too_long stop;
}
