-- What a pass of a shared board knows: a point of the one history, and its actor's part of it.
use Rattle.std.specs.Prelude.{◌≡◌, ℕ, ◌+◌, ◌-◌, ◌≤◌, if◌then◌else◌, nat_le, ◌&&◌, Bool, List, [], ◌∷◌, length, take, filter_map, IsFalse}
use Rattle.std.specs.List.{list_all, range_with_len}
use Rattle.ride_model.specs.declared.command.Actor.{Actor}
use Rattle.ride_model.specs.declared.command.Actor.TheVariants.{Feed, Desk}
use Rattle.ride_model.specs.declared.command.Command.{Command}
use Rattle.ride_model.specs.declared.entry.Entry.{Entry}
use Rattle.ride_model.specs.History.{command_of}
use Rattle.ride_model.specs.inner.History.{Pass, Sees, Appends}
use Rattle.ride_model.specs.Legal.{replay, all_feeds_ended, IsLegal, IsNumbered}
use Rattle.ride_model.specs.State.{State, start_state, has_ended}
use Rattle.ride_model.specs.Text.{HasText}
use Rattle.model_laws.specs.history_laws.Start.{IsStart}
use Rattle.board_core.specs.Recorded.{Recorded, state_of}
use Rattle.turn_lock.specs.declared.rule.Knowledge.{Knowledge}
use Rattle.turn_lock.specs.inner.History.{items_of}

-- the number of an actor's pass. The scribe, with 0, makes no entry
abbrev pub pass_number : Actor → ℕ
pass_number (Feed number) = number
pass_number (Desk number) = number + 2

-- the number of the pass that made an entry
abbrev pub maker_of : Entry → ℕ
maker_of entry = pass_number entry.actor

-- the actor of a pass of another number than 0
abbrev pub actor_of : ℕ → Actor
actor_of number = if nat_le number 2 then Feed number else Desk (number - 2)

-- the commands among entries
abbrev pub commands_in : List Entry → List Command
commands_in own = filter_map (λ (entry : Entry). command_of entry.event) own

-- what a pass knows of a board, which contracts see as it is recorded
abbrev pub Known : Type 0
Known = Knowledge Recorded Entry

-- a board without vehicles, roads and actors
abbrev pub no_board : Recorded
no_board = record {
  start = start_state (record { nodes = 0; arcs = [] }) (record { batch = 0; penalty = 0; drive = 0; wait = 0; lead = 0; dwell = 0; log = 0 }) [];
  feeds = 0;
  desks = 0;
  history = [];
  spare = 0;
}

-- the board as it began
abbrev pub root_of : Known → Recorded
root_of k = root_in k.root
  where
    root_in : List Recorded → Recorded
    root_in [] = no_board
    root_in (root ∷ _) = root

-- the board at what a pass has seen, and its state
abbrev pub seen_board : Known → Recorded
seen_board k = record (root_of k) { history = k.seen }

abbrev pub seen_state : Known → State
seen_state k = state_of (seen_board k)

-- the state before the last entry that a pass has seen
abbrev pub state_before : Known → State
state_before k = replay (root_of k).start (take (length k.seen - 1) k.seen)

-- a pass stands at a point of one legal history that has a text, and its own entries are all of its number up to there
pub record IsPoint (k : Known) : Type 0 where
  pub root_is : k.root ≡ root_of k ∷ []
  pub start_fits : IsStart (root_of k).start
  pub legal : IsLegal (root_of k).feeds (root_of k).desks (root_of k).start k.seen
  pub text : HasText (root_of k).start.settings.log (root_of k).feeds (root_of k).desks k.seen
  pub own_are : k.own ≡ items_of maker_of k.number k.seen

-- a pass of a feed that has not ended
pub record IsFeed (k : Known) : Type 0 where
  pub numbered : IsNumbered (root_of k).feeds k.number
  pub not_ended : IsFalse (has_ended (seen_state k) (Feed k.number))

-- the desk of a pass
abbrev pub desk_of : Known → ℕ
desk_of k = k.number - 2

-- a pass of a desk that has not ended
pub record IsDesk (k : Known) : Type 0 where
  pub above_feeds : 3 ≤ k.number
  pub numbered : IsNumbered (root_of k).desks (desk_of k)
  pub not_ended : IsFalse (has_ended (seen_state k) (Desk (desk_of k)))

-- whether so many feeds and desks have all ended
abbrev pub all_ended : ℕ → ℕ → State → Bool
all_ended feeds desks s = all_feeds_ended feeds s && list_all (λ desk. has_ended s (Desk desk)) (range_with_len 1 desks)

-- what a pass has seen of the history, and its own entries in it
abbrev pub pass_of : Known → Pass
pass_of k = record { seen = k.seen; own = k.own }

-- a call that added nothing stands at a point after what the pass had seen. Nothing else of the pass changed
pub record AddsNone (old new : Known) : Type 0 where
  pub sees : Sees (pass_of old) (pass_of new)
  pub rest : new ≡ record old { seen = new.seen }

-- a call that added this entry of the pass stands at a point after what the pass had seen. Nothing else of the pass changed
pub record AddsEntry (old new : Known) (entry : Entry) : Type 0 where
  pub appends : Appends (pass_of old) (pass_of new) entry
  pub rest : new ≡ record old { seen = new.seen; own = new.own }
