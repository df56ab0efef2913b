-- What a board keeps beside its history, so that it need not be replayed.
use Rattle.std.specs.Prelude.{◌≡◌, ℕ, ◌+◌, ◌-◌, ◌≤◌, ◌==◌, ◌&&◌, not, Bool, true, false, List, length, Option, Some, None, option_map, is_some}
use Rattle.std.specs.List.{list_all, list_any, range_with_len}
use Rattle.ride_model.specs.declared.command.Actor.{Actor}
use Rattle.ride_model.specs.declared.command.Actor.TheVariants.{Feed, Desk}
use Rattle.ride_model.specs.declared.entry.Ending.{Ending}
use Rattle.ride_model.specs.declared.entry.Entry.{Entry}
use Rattle.ride_model.specs.History.{ended_whole, is_abandoned, is_whole}
use Rattle.ride_model.specs.Seating.{BatchCopy, vehicle_ids}
use Rattle.ride_model.specs.State.{State, has_ended, open_batch_of}
use Rattle.board_core.specs.declared.desks.Desks.{Desks}
use Rattle.board_core.specs.declared.numbered.Numbered.{Numbered}
use Rattle.board_core.specs.declared.service.Service.{Service}
use Rattle.board_core.specs.inner.Given.{Given}
use Rattle.board_core.specs.inner.Numbers.{at_number, with_number, count_in}
use Rattle.board_core.specs.Recorded.{Recorded, state_of}
use Rattle.board_core.specs.inner.Recorded.{IsRecorded}
use Rattle.board_core.specs.inner.Service.{state_at}

-- how an actor ended, if it has
abbrev pub ending_of : Desks → Actor → Option Ending
ending_of desks (Feed number) = at_number desks.feeds_ended number
ending_of desks (Desk number) = at_number desks.desks_ended number

-- whether it ended whole
abbrev pub is_whole_end : Option Ending → Bool
is_whole_end None = false
is_whole_end (Some ending) = is_whole ending

-- the places that the closings of open batches and the ends of actors will take
abbrev pub places_kept : Desks → ℕ
places_kept desks = count_in desks.batches + (4 - (count_in desks.feeds_ended + count_in desks.desks_ended))

-- before anything happened
abbrev pub none_yet : Desks
none_yet = record {
  opened = 0;
  batches = record { first = None; second = None };
  feeds_ended = record { first = None; second = None };
  desks_ended = record { first = None; second = None };
  given_up = false;
}

-- whether the first so many have ended
abbrev pub all_ended : Numbered Ending → ℕ → Bool
all_ended endings many = list_all (λ number. is_some (at_number endings number)) (range_with_len 1 many)

-- whether the first so many ended whole
abbrev pub all_whole : Numbered Ending → ℕ → Bool
all_whole endings many = list_all (λ number. is_whole_end (at_number endings number)) (range_with_len 1 many)

-- whether so many feeds and desks ended whole, so many batches were opened, and none is open or was given up
abbrev pub is_finished : Desks → ℕ → ℕ → ℕ → Bool
is_finished desks feeds many asked =
    all_whole desks.feeds_ended feeds && all_whole desks.desks_ended many && desks.opened == asked
    && count_in desks.batches == 0 && not desks.given_up

-- after an actor's end, after a desk opened the next batch, and after its batch was closed
abbrev pub with_ending : Actor → Ending → Desks → Desks
with_ending (Feed number) ending desks = record desks { feeds_ended = with_number number (Some ending) desks.feeds_ended }
with_ending (Desk number) ending desks = record desks { desks_ended = with_number number (Some ending) desks.desks_ended }

abbrev pub with_opened : ℕ → Desks → Desks
with_opened desk desks = record desks { opened = desks.opened + 1; batches = with_number desk (Some (desks.opened + 1)) desks.batches }

abbrev pub with_closed : ℕ → Desks → Desks
with_closed desk desks = record desks { batches = with_number desk None desks.batches }

abbrev pub with_given_up : ℕ → Desks → Desks
with_given_up desk desks = record (with_closed desk desks) { given_up = true }

-- what is kept is what a state and a history say
pub record Mirrors (setup : Given) (service : Service) (desks : Desks) (s : State) (history : List Entry) : Type 0 where
  pub state_is : s ≡ state_at setup service s
  pub opened_is : desks.opened ≡ s.opened
  pub open_are : (desk : ℕ) → option_map (λ (batch : BatchCopy). batch.number) (open_batch_of s desk) ≡ at_number desks.batches desk
  pub ended_are : (actor : Actor) → has_ended s actor ≡ is_some (ending_of desks actor)
  pub whole_are : (actor : Actor) → ended_whole s actor ≡ is_whole_end (ending_of desks actor)
  pub given_up_is : desks.given_up ≡ list_any (λ (entry : Entry). is_abandoned entry.event) history

-- a board in order: it keeps what its history says, and has room for what may come
pub record IsBoard (setup : Given) (service : Service) (desks : Desks) (capacity : ℕ) (board : Recorded) : Type 0 where
  pub recorded : IsRecorded board
  pub ids_are : setup.ids ≡ vehicle_ids board.start.vehicles
  pub mirrors : Mirrors setup service desks (state_of board) board.history
  pub room : length board.history + board.spare + places_kept desks ≤ capacity
