-- An audit that goes on entry by entry.
use Rattle.std.specs.Prelude.{◌≡◌, ℕ, ⊤, List, ◌++◌, ◌∷◌, [], Option, None, Some, IsSomeAnd, MatchOption}
use Rattle.ride_model.specs.declared.entry.Entry.{Entry}
use Rattle.ride_model.specs.Seating.{BatchCopy}
use Rattle.ride_model.specs.State.{open_batch_numbered}
use Rattle.ride_model.specs.Text.{HasLine, entry_line}
use Rattle.board_core.specs.Recorded.{Recorded, state_of}
use Rattle.log_audit.specs.declared.auditor.Auditor.{Auditor}
use Rattle.log_audit.specs.declared.fault.Fault.{Fault}
use Rattle.log_audit.specs.declared.verdict.Why.{Why}
use Rattle.log_audit.specs.declared.verdict.Why.TheVariants.{Spelling, Actor as ToActor, Reply as ToReply, Batch as ToBatch, Seating as ToSeating, Prices as ToPrices, Outcomes as ToOutcomes}
use Rattle.log_audit.specs.inner.OpenBatches.{AreOpen}
use Rattle.log_audit.specs.Words.{IsFault}

-- an audit has its board's map and version of the log at hand, and the open batches of its state
pub record IsAuditing (auditor : Auditor) : Type 0 where
  pub roads_are : auditor.pricing ≡ auditor.board.start.roads
  pub log_is : auditor.log ≡ auditor.board.start.settings.log
  pub open_are : AreOpen (state_of auditor.board) auditor.batches

-- after one more entry, which was right
pub record GoesOn (old new : Auditor) (entry : Entry) : Type 0 where
  pub grows : new.board.history ≡ old.board.history ++ entry ∷ []
  pub start_stays : new.board.start ≡ old.board.start
  pub feeds_stay : new.board.feeds ≡ old.board.feeds
  pub desks_stay : new.board.desks ≡ old.board.desks
  pub auditing : IsAuditing new

-- the batch that a wrong commit names is open, and nothing has changed but that it was taken out
pub record IsUncommitted (old new : Auditor) (batch : BatchCopy) : Type 0 where
  pub board_stays : new.board ≡ old.board
  pub pricing_stays : new.pricing ≡ old.pricing
  pub log_stays : new.log ≡ old.log
  pub is_open : open_batch_numbered (state_of old.board) batch.desk batch.number ≡ Some batch

-- the board has the entry that was due in place of a wrong one
abbrev pub LeavesEntry : Auditor → Auditor → Option BatchCopy → Type 0
LeavesEntry old new batch = (batch ≡ None) × ((due : Entry) × GoesOn old new due)

-- what a wrong entry leaves: the entry that was due in its place, or the batch that it names
abbrev pub LeavesDue : Auditor → Auditor → Why → Option BatchCopy → Type 0
LeavesDue old new Spelling batch = ⊤
LeavesDue old new ToActor batch = ⊤
LeavesDue old new ToReply batch = LeavesEntry old new batch
LeavesDue old new ToBatch batch = LeavesEntry old new batch
LeavesDue old new ToOutcomes batch = LeavesEntry old new batch
LeavesDue old new ToSeating batch = IsSomeAnd batch (IsUncommitted old new)
LeavesDue old new ToPrices batch = IsSomeAnd batch (IsUncommitted old new)

-- the board has one more entry
pub record HasGrown (old : Recorded) (new : Auditor) : Type 0 where
  pub due : Entry
  pub grows : new.board.history ≡ old.history ++ due ∷ []
  pub start_stays : new.board.start ≡ old.start
  pub feeds_stay : new.board.feeds ≡ old.feeds
  pub desks_stay : new.board.desks ≡ old.desks
  pub log_is : new.log ≡ new.board.start.settings.log

-- an entry was judged: it is right, or this is the first word that it does not meet
abbrev pub IsJudged : Auditor → Auditor → Entry → Option Fault → Type 0
IsJudged old new entry fault = MatchOption fault
    (GoesOn old new entry)
    (λ (f : Fault). IsFault f.why old.board.feeds old.board.desks (state_of old.board) entry.actor entry.event
    × LeavesDue old new f.why f.batch)

-- an entry and its line, given without its LF
pub record IsLineOf (log : ℕ) (entry : Entry) (line : List ℕ) : Type 0 where
  pub spelled : HasLine log entry
  pub line_is : entry_line log entry ≡ line ++ 10 ∷ []
