-- What only lemmas and lower contracts use beside Running.antt.
use Rattle.std.specs.Prelude.{◌≡◌, ◌≢◌, ℕ, ◌+◌, ◌⊎◌, ◌++◌, ⊤, Bool, true, false, List, [], ◌∷◌, All, IsFalse, IsTrue, Some}
use Rattle.std.specs.List.{list_all, list_any}
use Rattle.ride_model.specs.declared.command.Actor.TheVariants.{Desk, Feed}
use Rattle.ride_model.specs.declared.command.Command.{Command}
use Rattle.ride_model.specs.declared.entry.Entry.{Entry}
use Rattle.ride_model.specs.declared.entry.Event.{Event}
use Rattle.ride_model.specs.declared.entry.Event.TheVariants.{Committed, Fed, Opened}
use Rattle.ride_model.specs.declared.reply.Reply.{Reply}
use Rattle.ride_model.specs.declared.vehicle.Ride.{Ride}
use Rattle.ride_model.specs.Batch.{was_cancelled}
use Rattle.ride_model.specs.History.{fed_commands, awaited_in, is_abandoned, IsDirect}
use Rattle.ride_model.specs.History.Awaited.{opening, commit}
use Rattle.ride_model.specs.Seating.{BatchCopy}
use Rattle.model_laws.specs.inner.history_laws.Consistent.{IsOpenBatch}
use Rattle.board_core.specs.Recorded.{Recorded, state_of}
use Rattle.session_run.specs.Settled.{settles}
use Rattle.session_run.specs.Running.{IsPrompt}

-- whether a batch was given up
abbrev pub gave_up : List Entry → Bool
gave_up entries = list_any (λ (entry : Entry). is_abandoned entry.event) entries

-- no outcome of a history is moved, behind or gone
abbrev pub IsSettled : List Entry → Type 0
IsSettled entries = IsTrue (list_all (λ (entry : Entry). settles entry.event) entries)

-- an event opens a batch, or commits one
abbrev pub IsOpening : Event → Type 0
IsOpening (Opened _ _ _ _) = ⊤
IsOpening _ = ⊥

abbrev pub IsCommit : Event → Type 0
IsCommit (Committed _ _ _ _ _ _) = ⊤
IsCommit _ = ⊥

-- a board of one desk, on which nobody has ended and no batch is open
pub record IsSession (board : Recorded) : Type 0 where
  pub desks_are : board.desks ≡ 1
  pub none_ended : (state_of board).ended ≡ []
  pub none_open : (state_of board).batches ≡ []
  pub settled : IsSettled board.history

-- a board of one feed between two commands, where memory was wanting or not
pub record IsRunning (board : Recorded) (no_memory : Bool) : Type 0 where
  pub session : IsSession board
  pub one_feed : board.feeds ≡ 1
  pub all_opened : (state_of board).opened ≡ (state_of board).asked
  pub prompt : no_memory ≡ false → IsPrompt board.history

-- a later board of the same start
pub record GoesOn (old new : Recorded) : Type 0 where
  pub start : new.start ≡ old.start
  pub feeds : new.feeds ≡ old.feeds
  pub more : List Entry
  pub grows : new.history ≡ old.history ++ more

-- a board at which a batch is to be opened: one more was asked for than was opened
pub record IsAsked (board : Recorded) : Type 0 where
  pub session : IsSession board
  pub one_more : (state_of board).asked ≡ (state_of board).opened + 1

-- a board whose desk has just opened a batch, of the vehicles as they stand and of requests that were not cancelled
pub record IsOpened (batch : BatchCopy) (board : Recorded) : Type 0 where
  pub desks_are : board.desks ≡ 1
  pub none_ended : (state_of board).ended ≡ []
  pub one_open : (state_of board).batches ≡ batch ∷ []
  pub all_opened : (state_of board).opened ≡ (state_of board).asked
  pub settled : IsSettled board.history
  pub desk_is : batch.desk ≡ 1
  pub open_now : IsOpenBatch 1 (state_of board) batch
  pub vehicles_stand : batch.vehicles ≡ (state_of board).vehicles
  pub time_is : batch.time ≡ (state_of board).clock
  pub not_cancelled : All (λ (ride : Ride). was_cancelled (state_of board) ride.id ≡ false) batch.requests

-- entries of the first desk: the opening of a batch and its commit
pub record AreOfOneBatch (opened committed : Entry) : Type 0 where
  pub opener : opened.actor ≡ Desk 1
  pub opens : IsOpening opened.event
  pub committer : committed.actor ≡ Desk 1
  pub commits : IsCommit committed.event

-- none, or those of one batch
abbrev pub AreOfABatch : List Entry → Type 0
AreOfABatch [] = ⊤
AreOfABatch (opened ∷ committed ∷ []) = AreOfOneBatch opened committed
AreOfABatch _ = ⊥

-- a batch was opened and committed at once, or given up
pub record RunsBatch (committed : Bool) (old new : Recorded) : Type 0 where
  pub goes_on : GoesOn old new
  pub session : IsSession new
  pub all_opened : (state_of new).opened ≡ (state_of new).asked
  pub commands : (feed : ℕ) → fed_commands feed new.history ≡ fed_commands feed old.history
  pub entries : committed ≡ true → (opened closed : Entry) × (new.history ≡ old.history ++ opened ∷ closed ∷ []) × AreOfOneBatch opened closed
  pub direct : committed ≡ true → awaited_in old.history ≡ Some opening → IsDirect new.history
  pub none_given_up : committed ≡ true → IsFalse (gave_up old.history) → IsFalse (gave_up new.history)

-- an open batch was committed, or given up
pub record Closes (committed : Bool) (old new : Recorded) : Type 0 where
  pub goes_on : GoesOn old new
  pub session : IsSession new
  pub all_opened : (state_of new).opened ≡ (state_of new).asked
  pub commands : (feed : ℕ) → fed_commands feed new.history ≡ fed_commands feed old.history
  pub entry : committed ≡ true → (closed : Entry) × (new.history ≡ old.history ++ closed ∷ []) × (closed.actor ≡ Desk 1) × IsCommit closed.event
  pub direct : committed ≡ true → awaited_in old.history ≡ Some commit → IsDirect new.history
  pub none_given_up : committed ≡ true → IsFalse (gave_up old.history) → IsFalse (gave_up new.history)

-- the first feed's command was answered, and then a batch was opened and committed where one was asked for
pub record AddsAnswer (command : Command) (old new : Recorded) : Type 0 where
  pub reply : Reply
  pub batch : List Entry
  pub of_batch : AreOfABatch batch
  pub grows : new.history ≡ old.history ++ (record { actor = Feed 1; event = Fed command reply }) ∷ batch

-- a command was answered, and no batch after it was given up
pub record Answers (whole : Bool) (command : Command) (old new : Recorded) : Type 0 where
  pub goes_on : GoesOn old new
  pub session : IsSession new
  pub all_opened : (state_of new).opened ≡ (state_of new).asked
  pub commands : fed_commands 1 new.history ≡ fed_commands 1 old.history ++ command ∷ []
  pub others : (feed : ℕ) → feed ≢ 1 → fed_commands feed new.history ≡ fed_commands feed old.history
  pub entries : whole ≡ true → AddsAnswer command old new
  pub prompt : whole ≡ true → IsPrompt old.history → IsPrompt new.history

-- memory was wanting for the answer, or for the batch after it
pub record Stops (command : Command) (old new : Recorded) : Type 0 where
  pub goes_on : GoesOn old new
  pub session : IsSession new
  pub commands : (fed_commands 1 new.history ≡ fed_commands 1 old.history)
      ⊎ (fed_commands 1 new.history ≡ fed_commands 1 old.history ++ command ∷ [])
