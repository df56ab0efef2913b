-- What feeds and desks have made of their passes before they end.
use Rattle.std.specs.Prelude.{◌≡◌, ℕ, ◌++◌, ⊤, Bool, true, false, List, All, Option, MatchOption, IsFalse, IsTrue}
use mathlib.Core.List.{IsPrefix}
use Rattle.ride_model.specs.declared.command.Command.{Command}
use Rattle.ride_model.specs.declared.command.Actor.{Actor}
use Rattle.ride_model.specs.declared.entry.Entry.{Entry}
use Rattle.ride_model.specs.declared.entry.Event.TheVariants.{Fed}
use Rattle.ride_model.specs.declared.reply.Reply.{Reply}
use Rattle.ride_model.specs.History.{is_abandoned}
use Rattle.ride_model.specs.Seating.{BatchCopy}
use Rattle.ride_ports.specs.Bytes.{Reads}
use Rattle.command_lines.specs.Feeds.{IsWhole}
use Rattle.command_lines.specs.inner.Feeds.{IsStopped}
use Rattle.command_lines.specs.declared.forms.FeedForm.{FeedForm}
use Rattle.model_laws.specs.inner.history_laws.Finishing.{gives_up}
use Rattle.board_core.specs.Recorded.{opened_entry}
use Rattle.fleet_board.specs.inner.Passes.{Known, AddsEntry, commands_in}
use Rattle.line_text.specs.declared.line_reader.stops.Stop.{Stop}
use Rattle.line_text.specs.declared.line_reader.stops.Stop.TheVariants.{NoMemory, OfFeed}
use Rattle.model_laws.specs.history_laws.Start.{is_fed}
use Rattle.session_loops.specs.inner.Loops.{AreBatches, Closes}
use Rattle.session_loops.specs.Stops.{AreFirstOf}

-- a pass has seen more and made these entries; nothing else of it changed
pub record HasMade (old new : Known) (made : List Entry) : Type 0 where
  pub own_is : new.own ≡ old.own ++ made
  pub goes_on : IsPrefix old.seen new.seen
  pub rest : new ≡ record old { seen = new.seen; own = new.own }

-- a pass made an entry that answers this command
pub record AddsAnswer (command : Command) (old new : Known) : Type 0 where
  pub reply : Reply
  pub actor : Actor
  pub adds : AddsEntry old new (record { actor = actor; event = Fed command reply })

-- why a feed was stopped after these bytes: memory was wanting, or the feed gave no more
abbrev pub IsStoppedBy : FeedForm → Stop → List Command → List ℕ → Type 0
IsStoppedBy form NoMemory commands bytes = ⊤
IsStoppedBy form (OfFeed stop) commands bytes = IsStopped form stop commands bytes

-- of a feed with these bytes some were taken and answered, so that those are left
pub record HasSubmitted (form : FeedForm) (feed left : Option (List ℕ)) (stop : Option Stop) (old new : Known) : Type 0 where
  pub taken : List ℕ
  pub answers : List Entry
  pub made : HasMade old new answers
  pub fed : All (λ (entry : Entry). IsTrue (is_fed entry.event)) answers
  pub reads : Reads feed left taken
  pub first : AreFirstOf form feed taken (commands_in answers)
  pub ended : MatchOption stop (IsWhole form left (commands_in answers) taken) (λ why. IsStoppedBy form why (commands_in answers) taken)

-- a desk's open batch was committed, or given up
pub record ClosesBatch (committed : Bool) (batch : BatchCopy) (old new : Known) : Type 0 where
  pub entry : Entry
  pub adds : AddsEntry old new entry
  pub closes : Closes (opened_entry batch).event entry.event
  pub kept : committed ≡ true → IsFalse (is_abandoned entry.event)

-- a desk has closed the batch that it had open, where it had one
abbrev pub ClosesFirst : Bool → Option BatchCopy → Known → Known → Type 0
ClosesFirst committed open_batch old new =
    MatchOption open_batch ((committed ≡ true) × (new ≡ old)) (λ batch. ClosesBatch committed batch old new)

-- a desk has opened and closed batches, of which it gave none up where memory was not wanting
pub record HasRunBatches (no_memory : Bool) (old new : Known) : Type 0 where
  pub batches : List Entry
  pub made : HasMade old new batches
  pub closed : AreBatches batches
  pub none_given_up : no_memory ≡ false → IsFalse (gives_up batches)
