-- What the booking of a feed gives.
use Rattle.std.specs.Prelude.{◌≡◌, ℕ, true, false, List, ◌++◌, Option}
use Rattle.line_text.specs.Lines.{lines_of}
use Rattle.line_text.specs.line_reader.FeedRuns.{AreFirstLines, IsReadWhole, IsUnhindered}
use Rattle.line_text.specs.line_reader.Limits.{IsTooLong, IsWithinLimits, lines_within}
use Rattle.ride_ports.specs.Bytes.{Writes, WritesPrefix}
use Rattle.ride_ports.specs.declared.outcome.Ran.{Ran}
use Rattle.command_lines.specs.Limits.{feed_limits}
use Rattle.booking_desk.specs.BookText.{last_line_after, text_of_lines}

-- of the bytes of a feed these were taken, and so much of their plain feed was written: all of it, where nothing stood in the
-- way; without the last line that of the lines within the limits, where only the source did; without the last line that of some
-- first lines, where memory was wanting; and some first bytes of it, where the sink failed
pub record IsBooked (ran : Ran) (feed : Option (List ℕ)) (taken : List ℕ) (before after : Option (List ℕ)) : Type 0 where
  pub whole : IsUnhindered ran → IsReadWhole ran → Writes before after (text_of_lines (lines_of taken) ++ last_line_after (lines_of taken))
  pub cut : IsUnhindered ran → (IsReadWhole ran → ⊥) → Writes before after (text_of_lines (lines_within feed_limits taken))
  pub no_memory : ran.sink_failed ≡ false → ran.no_memory ≡ true
      → (lines : List (List ℕ)) × AreFirstLines feed taken lines × Writes before after (text_of_lines lines)
  pub sink_failed : ran.sink_failed ≡ true
      → (lines : List (List ℕ)) × AreFirstLines feed taken lines × WritesPrefix before after (text_of_lines lines ++ last_line_after lines)
  pub within : IsUnhindered ran → ran.too_long ≡ false → IsWithinLimits feed_limits taken
  pub too_long : ran.too_long ≡ true → IsTooLong feed_limits taken
