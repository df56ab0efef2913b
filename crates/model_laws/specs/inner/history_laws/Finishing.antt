-- Histories in which every actor ended whole and no batch was given up.
use Rattle.std.specs.Prelude.{ℕ, Bool, false, List, IsTrue, IsFalse}
use Rattle.std.specs.List.{list_any}
use Rattle.ride_model.specs.declared.command.Actor.TheVariants.{Feed, Desk}
use Rattle.ride_model.specs.declared.entry.Entry.{Entry}
use Rattle.ride_model.specs.declared.entry.Event.{Event}
use Rattle.ride_model.specs.declared.entry.Event.TheVariants.{Finish}
use Rattle.ride_model.specs.History.{entries_of, is_whole, is_abandoned}
use Rattle.ride_model.specs.Legal.{IsNumbered}

-- whether an event is a whole end
abbrev pub is_whole_end : Event → Bool
is_whole_end (Finish ending) = is_whole ending
is_whole_end _ = false

-- whether one of an actor's entries is its whole end
abbrev pub has_whole_end : List Entry → Bool
has_whole_end own = list_any (λ (entry : Entry). is_whole_end entry.event) own

-- whether one of an actor's entries gives a batch up
abbrev pub gives_up : List Entry → Bool
gives_up own = list_any (λ (entry : Entry). is_abandoned entry.event) own

-- so many feeds and desks ended whole, and no desk gave a batch up
pub record AllWhole (feeds desks : ℕ) (entries : List Entry) : Type 0 where
  pub feeds_whole : (feed : ℕ) → IsNumbered feeds feed → IsTrue (has_whole_end (entries_of (Feed feed) entries))
  pub desks_whole : (desk : ℕ) → IsNumbered desks desk → IsTrue (has_whole_end (entries_of (Desk desk) entries))
  pub none_given_up : (desk : ℕ) → IsNumbered desks desk → IsFalse (gives_up (entries_of (Desk desk) entries))
