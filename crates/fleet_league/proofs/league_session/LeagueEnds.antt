-- What a league has written when its feed ended or was stopped.
use Rattle.fleet_league.proofs.Common.{◌≡◌, ℕ, true, false, List, [], ◌++◌, inl, inr, Option, Some, None, refl, subst, HasRun, ran_of, are-taken, Ending, Whole, Settings, Vehicle, RoadMap, WritesPrefix-of_first, feed_limits, HasPut, OutputState, written-prefix, written-whole, IsLeagued, IsLeagueText, league_start, ended_text, ending_of, with_ending, last_line}
use Rattle.line_text.specs.declared.line_reader.stops.Stop.{Stop}
use Rattle.line_text.specs.declared.line_reader.stops.Stop.TheVariants.{NoMemory}
use Rattle.ride_ports.specs.Bytes.{Writes, WritesPrefix}

-- what was written is a first part of the text with a last line
ended-prefix : {before after : Option (List ℕ)} (o : Option Ending) (text : List ℕ) → WritesPrefix before after (with_ending o text)
    → (ending : Ending) × WritesPrefix before after (text ++ last_line ending)
ended-prefix None text part = (Whole, WritesPrefix-of_first (last_line Whole) part)
ended-prefix (Some ending) text part = (ending, part)

-- what was written of a league, once nothing is left on the page
pub is-leagued : (roads : RoadMap) (settings : Settings) (one two : List Vehicle) (feed left before after : Option (List ℕ)) (faults n : ℕ)
    (taken : List ℕ) (lines : List (List ℕ)) (text : List ℕ) (stop : Option Stop) (output : OutputState) → IsLeagueText (league_start roads settings one two) lines text
    → (output.failed ≡ false → output.page ≡ []) → HasRun feed_limits feed left stop output.failed taken lines
    → HasPut before after faults n output (ended_text stop text) → IsLeagued roads settings one two (ran_of stop output.failed) feed taken before after
is-leagued roads settings one two feed left before after faults n taken lines text stop output is_text bare run put =
    let are = are-taken feed_limits stop left taken output.failed lines run.ended in
    let by_stop = λ (stood : output.failed ≡ false) (o : Option Stop) (is : stop ≡ o). subst (λ (s : Option Stop). Writes before after (ended_text s text)) is
    (written-whole before after faults n output (ended_text stop text) put stood bare) in
    let text_of = λ (all : List (List ℕ)) (is : lines ≡ all). subst (λ (ls : List (List ℕ)). IsLeagueText (league_start roads settings one two) ls text) is is_text in
    record {
      whole = λ written read.
          let (none, all) = are.whole written read in
          (text, by_stop written.0 None none, text_of _ all);
      cut = λ written short.
          let (why, is, within) = are.cut written short in
          (text, by_stop written.0 _ is, text_of _ within);
      no_memory = λ stood wanting. inr (lines, text, run.first, is_text, by_stop stood (Some NoMemory) (are.no_memory stood wanting));
      sink_failed = λ fell.
          let (ending, part) = ended-prefix (ending_of stop) text (written-prefix before after faults n output (ended_text stop text) put fell) in
          (lines, text, ending, run.first, is_text, part);
      within = are.within;
      too_long = are.too_long;
    }

-- a league of which nothing was written for want of memory
pub leagued-none : (roads : RoadMap) (settings : Settings) (one two : List Vehicle) (feed before : Option (List ℕ))
    → IsLeagued roads settings one two (ran_of (Some NoMemory) false) feed [] before before
leagued-none roads settings one two feed before = record {
  whole = λ written _. absurd (let no : true ≡ false = written.1 in cc);
  cut = λ written _. absurd (let no : true ≡ false = written.1 in cc);
  no_memory = λ _ _. inl (refl, refl);
  sink_failed = λ fell. absurd (cc fell);
  within = λ written _. absurd (let no : true ≡ false = written.1 in cc);
  too_long = λ long. absurd (cc long);
}
