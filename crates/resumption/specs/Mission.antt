-- What a session keeps that goes on from its log, phrase by phrase.
use Rattle.std.specs.Prelude.{◌≡◌, ℕ, true, false, List, ◌++◌, All, Option, IfSome}
use Rattle.ride_ports.specs.Bytes.{Writes}
use Rattle.ride_ports.specs.Contents.{Contents}
use Rattle.ride_model.specs.declared.entry.Entry.{Entry}
use Rattle.ride_model.specs.History.{IsFinished, fed_commands}
use Rattle.ride_model.specs.Legal.{IsLegal}
use Rattle.ride_model.specs.Promises.{KeepsPromises}
use Rattle.ride_model.specs.State.{State}
use Rattle.ride_model.specs.Text.{text_of}
use Rattle.line_text.specs.line_reader.Reader.{HasNoLf}
use Rattle.command_lines.specs.Commands.{commands_of}
use Rattle.live_sessions.specs.Resuming.{still_feeds}
use Rattle.run_words.specs.Resumptions.{GoingOn, resumption_files}
use Rattle.dispatcher.specs.Meanings.{Meaning, Means, start_of}
use Rattle.dispatcher.specs.Mission.{CommitsOnlyStanding, SeatsAtLeastCost}
use Rattle.dispatcher.specs.Shelves.{Sunk, told_bytes}

-- the whole lines of these bytes tell these entries, and what stands after them is a line that was torn
pub record TellsEntries (start : State) (feeds desks : ℕ) (before : List Entry) (bytes : List ℕ) : Type 0 where
  pub torn : List ℕ
  pub bytes_are : bytes ≡ text_of start.settings.log feeds desks before ++ torn
  pub no_lf : HasNoLf torn

-- the commands of a feed in a history are those before, and then those of its bytes where it still gave commands, each once and in order
pub record AnswersOn (start : State) (feeds : ℕ) (before history : List Entry) (feed : ℕ) (told : Option (List ℕ)) : Type 0 where
  pub still_gives : still_feeds start feeds before feed ≡ true
      → IfSome told (λ bytes. fed_commands feed history ≡ fed_commands feed before ++ commands_of start.settings.log bytes)
  pub gives_no_more : still_feeds start feeds before feed ≡ false → fed_commands feed history ≡ fed_commands feed before

-- the log of before tells the entries with which one legal history begins, and that is what was logged; each feed's commands stand in it
-- once and in order, those that the log answers and then those of its bytes; every batch is seated at least cost over the versions that it
-- names, as its printed prices prove; only standing pairs are committed; every confirmed ride keeps its promises until a late report names
-- it; and the history is finished
pub record GoesOnWell (start : State) (log riders drivers : Option (List ℕ)) (out : Sunk) : Type 0 where
  pub feeds : ℕ
  pub desks : ℕ
  pub before : List Entry
  pub more : List Entry
  pub history : List Entry
  pub log_tells_before : IfSome log (TellsEntries start feeds desks before)
  pub begins_with_before : history ≡ before ++ more
  pub logged : Writes out.before out.after (text_of start.settings.log feeds desks history)
  pub one_legal_history : IsLegal feeds desks start history
  pub riders_answered : AnswersOn start feeds before history 1 riders
  pub drivers_answered : AnswersOn start feeds before history 2 drivers
  pub seated_at_least_cost : SeatsAtLeastCost start history
  pub only_standing_committed : CommitsOnlyStanding start history
  pub promises_kept : KeepsPromises start history
  pub finished : IsFinished feeds desks start history

-- what is said of a session that went on and ran whole
abbrev pub ResumesWell : GoingOn → Option Contents → Sunk → ℕ → Type 0
ResumesWell asked told out status = status ≡ 0
    → (m : Meaning) × All (Means told m) (resumption_files asked)
    × GoesOnWell (start_of m) (told_bytes told asked.log) (told_bytes told asked.riders) (told_bytes told asked.drivers) out
