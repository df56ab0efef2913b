-- What was written of a feed that was booked to its end, or was stopped.
use Rattle.booking_desk.proofs.Common.{◌≡◌, ℕ, false, List, [], ◌++◌, Option, Some, None, refl, sym, subst, HasRun, ran_of, are-taken, none-first, Reads-none, WritesPrefix-of_first, feed_limits, HasPut, OutputState, put-nothing, written-prefix, written-whole, last_line_after, text_of_lines, IsBooked, run_text}
use Rattle.line_text.specs.declared.line_reader.stops.Stop.{Stop}
use Rattle.line_text.specs.declared.line_reader.stops.Stop.TheVariants.{NoMemory}
use Rattle.ride_ports.specs.Bytes.{Writes, WritesPrefix}
use Rattle.booking_desk.proofs.BookedLines.{text-nothing}

-- what was written is a first part of what the lines give with the last line
run-prefix : {before after : Option (List ℕ)} (stop : Option Stop) (lines : List (List ℕ)) → WritesPrefix before after (run_text stop lines)
    → WritesPrefix before after (text_of_lines lines ++ last_line_after lines)
run-prefix None lines part = part
run-prefix (Some stop) lines part = WritesPrefix-of_first (last_line_after lines) part

-- what was written of a feed, once nothing is left on the page
pub is-booked : (feed left before after : Option (List ℕ)) (faults n : ℕ) (taken : List ℕ) (lines : List (List ℕ)) (stop : Option Stop) (output : OutputState)
    → (output.failed ≡ false → output.page ≡ []) → HasRun feed_limits feed left stop output.failed taken lines
    → HasPut before after faults n output (run_text stop lines) → IsBooked (ran_of stop output.failed) feed taken before after
is-booked feed left before after faults n taken lines stop output bare run put =
    let are = are-taken feed_limits stop left taken output.failed lines run.ended in
    let whole = λ (stood : output.failed ≡ false). written-whole before after faults n output (run_text stop lines) put stood bare in
    let by_stop = λ (stood : output.failed ≡ false) (o : Option Stop) (is : stop ≡ o). subst (λ (s : Option Stop). Writes before after (run_text s lines)) is (whole stood) in
    record {
      whole = λ written read.
          let (none, all) = are.whole written read in
          subst (λ (ls : List (List ℕ)). Writes before after (text_of_lines ls ++ last_line_after ls)) all (by_stop written.0 None none);
      cut = λ written short.
          let (why, is, within) = are.cut written short in
          subst (λ (ls : List (List ℕ)). Writes before after (text_of_lines ls)) within (by_stop written.0 _ is);
      no_memory = λ stood wanting. (lines, run.first, by_stop stood (Some NoMemory) (are.no_memory stood wanting));
      sink_failed = λ fell. (lines, run.first, run-prefix stop lines (written-prefix before after faults n output (run_text stop lines) put fell));
      within = are.within;
      too_long = are.too_long;
    }

-- a feed of which nothing was taken for want of memory
pub booked-none : (feed before : Option (List ℕ)) → IsBooked (ran_of (Some NoMemory) false) feed [] before before
booked-none feed before =
    let fresh : OutputState = record { page = []; full = 0; failed = false } in
    is-booked feed feed before before 0 0 [] [] (Some NoMemory) fresh (λ _. refl)
    (record { reads = Reads-none feed; first = none-first feed; ended = tt })
    (subst (λ (t : List ℕ). HasPut before before 0 0 fresh t) (sym text-nothing) (put-nothing before 0 fresh (record { bare = refl; stands = refl })))
