-- What the loops of feeds, desks and the scribe leave of a shared board's passes.
use Rattle.std.specs.Prelude.{◌≡◌, ℕ, ◌≤◌, ◌++◌, ⊤, true, false, List, [], ◌∷◌, length, take, All, Option, Some, None, IsFalse, IsTrue}
use mathlib.Core.List.{IsPrefix}
use Rattle.ride_model.specs.declared.entry.Ending.{Ending}
use Rattle.ride_model.specs.declared.entry.Ending.TheVariants.{Whole, Cut}
use Rattle.ride_model.specs.declared.entry.Entry.{Entry}
use Rattle.ride_model.specs.declared.entry.Event.{Event}
use Rattle.ride_model.specs.declared.entry.Event.TheVariants.{Opened, Committed, Abandoned}
use Rattle.ride_model.specs.Seating.{BatchCopy}
use Rattle.ride_model.specs.Text.{entry_lines}
use Rattle.ride_ports.specs.declared.outcome.Ran.{Ran}
use Rattle.ride_ports.specs.Bytes.{Reads, Writes, WritesPrefix}
use Rattle.command_lines.specs.Feeds.{IsWhole}
use Rattle.line_text.specs.line_reader.Limits.{IsWithinLimits, IsTooLong}
use Rattle.command_lines.specs.declared.forms.FeedForm.{FeedForm}
use Rattle.command_lines.specs.Limits.{ended_commands, limits_of}
use Rattle.model_laws.specs.inner.history_laws.Finishing.{gives_up}
use Rattle.board_core.specs.Recorded.{end_entry, opened_entry}
use Rattle.fleet_board.specs.inner.Passes.{Known, actor_of, all_ended, commands_in, root_of, seen_state}
use Rattle.session_loops.specs.Stops.{AreFirstOf}
use Rattle.line_text.specs.line_reader.FeedRuns.{IsReadWhole}
use Rattle.model_laws.specs.history_laws.Start.{is_fed}

-- a pass has seen more, made these entries and ended its actor so; nothing else of it changed
pub record EndsWith (old new : Known) (made : List Entry) (ending : Ending) : Type 0 where
  pub own_is : new.own ≡ (old.own ++ made) ++ end_entry (actor_of old.number) ending ∷ []
  pub goes_on : IsPrefix old.seen new.seen
  pub rest : new ≡ record old { seen = new.seen; own = new.own }

-- of a feed with these bytes some were taken and answered by these entries, so that those are left: all of them where nothing
-- was wanting, those within the limits and before a fault where only the source was
pub record HasFed (form : FeedForm) (feed left : Option (List ℕ)) (ran : Ran) (taken : List ℕ) (answers : List Entry) (ending : Ending) : Type 0 where
  pub reads : Reads feed left taken
  pub fed : All (λ (entry : Entry). IsTrue (is_fed entry.event)) answers
  pub first : AreFirstOf form feed taken (commands_in answers)
  pub whole : ran.no_memory ≡ false → IsReadWhole ran → (ending ≡ Whole) × IsWhole form left (commands_in answers) taken
  pub cut : ran.no_memory ≡ false → (IsReadWhole ran → ⊥) → (ending ≡ Cut) × (commands_in answers ≡ ended_commands form taken)
  pub wanting : ran.no_memory ≡ true → ending ≡ Cut
  pub within : ran.no_memory ≡ false → ran.too_long ≡ false → IsWithinLimits (limits_of form.lines) taken
  pub too_long : ran.too_long ≡ true → IsTooLong (limits_of form.lines) taken

-- what a feed's loop leaves of its pass
pub record RunsFeed (form : FeedForm) (feed left : Option (List ℕ)) (ran : Ran) (old new : Known) : Type 0 where
  pub taken : List ℕ
  pub answers : List Entry
  pub ending : Ending
  pub ends : EndsWith old new answers ending
  pub fed : HasFed form feed left ran taken answers ending

-- an entry closes the batch that another opened
abbrev pub Closes : Event → Event → Type 0
Closes (Opened batch _ _ _) (Committed closed _ _ _ _ _) = closed ≡ batch
Closes (Opened batch _ _ _) (Abandoned closed) = closed ≡ batch
Closes _ _ = ⊥

-- each entry opens a batch which the next one closes
abbrev pub AreBatches : List Entry → Type 0
AreBatches [] = ⊤
AreBatches (opened ∷ []) = ⊥
AreBatches (opened ∷ closed ∷ more) = Closes opened.event closed.event × AreBatches more

-- the first entry closes the batch that was open, where one was, and then each opens a batch which the next one closes
abbrev pub AreClosing : Option BatchCopy → List Entry → Type 0
AreClosing None entries = AreBatches entries
AreClosing (Some batch) [] = ⊥
AreClosing (Some batch) (closed ∷ more) = Closes (opened_entry batch).event closed.event × AreBatches more

-- what a desk's loop leaves of its pass, which had this batch open or none: where memory was not wanting it gave no batch up, and
-- none is to come
pub record RunsDesk (open_batch : Option BatchCopy) (ran : Ran) (old new : Known) : Type 0 where
  pub batches : List Entry
  pub ending : Ending
  pub ends : EndsWith old new batches ending
  pub closed : AreClosing open_batch batches
  pub whole : ran.no_memory ≡ false → (ending ≡ Whole) × IsFalse (gives_up batches)

-- the lines of the first entries of the one history were written
pub record HasScribed (log : ℕ) (before after : Option (List ℕ)) (count : ℕ) (seen : List Entry) : Type 0 where
  pub some : count ≤ length seen
  pub written : Writes before after (entry_lines log (take count seen))

-- a prefix of the lines of the first entries was written
pub record HasScribedSome (log : ℕ) (before after : Option (List ℕ)) (seen : List Entry) : Type 0 where
  pub count : ℕ
  pub prefix : WritesPrefix before after (entry_lines log (take count seen))

-- a pass has seen so many entries, after which no other comes
abbrev pub HasSeenAll : ℕ → Known → Type 0
HasSeenAll count k = (count ≡ length k.seen) × (all_ended (root_of k).feeds (root_of k).desks (seen_state k) ≡ true)
