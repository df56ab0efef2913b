-- Parts and forms of a history.
use Rattle.std.specs.Prelude.{◌≡◌, ℕ, ◌==◌, ◌&&◌, if◌then◌else◌, fold, option_and_then, Bool, true, false, List, [], filter, filter_map, count_by, sum_by, Option, Some, None, IsTrue, IsFalse}
use Rattle.std.specs.List.{list_all, list_any, range_with_len}
use Rattle.ride_model.specs.declared.command.Actor.{Actor}
use Rattle.ride_model.specs.declared.command.Actor.TheVariants.{Feed, Desk}
use Rattle.ride_model.specs.declared.command.Command.{Command}
use Rattle.ride_model.specs.declared.entry.Ending.{Ending}
use Rattle.ride_model.specs.declared.entry.Ending.TheVariants.{Whole, Cut}
use Rattle.ride_model.specs.declared.entry.Entry.{Entry}
use Rattle.ride_model.specs.declared.entry.Event.{Event}
use Rattle.ride_model.specs.declared.entry.Event.TheVariants.{Fed, Opened, Committed, Abandoned}
use Rattle.ride_model.specs.declared.entry.Outcome.{Outcome}
use Rattle.ride_model.specs.declared.entry.Outcome.TheVariants.{Confirmed, Away}
use Rattle.ride_model.specs.declared.reply.Reply.TheVariants.{Asked, Picked, Dropped}
use Rattle.ride_model.specs.State.{State, is_actor}
use Rattle.ride_model.specs.Legal.{replay}

-- the entries of an actor, in order
unfoldable pub entries_of : Actor → List Entry → List Entry
entries_of actor entries = filter (λ (entry : Entry). is_actor entry.actor actor) entries

-- the command that an event answers
abbrev pub command_of : Event → Option Command
command_of (Fed command _) = Some command
command_of _ = None

-- the commands of a feed, in order
abbrev pub fed_commands : ℕ → List Entry → List Command
fed_commands feed entries = filter_map (λ (entry : Entry). command_of entry.event) (entries_of (Feed feed) entries)

-- whether an actor ended whole
abbrev pub is_whole : Ending → Bool
is_whole Whole = true
is_whole Cut = false

abbrev pub ended_whole : State → Actor → Bool
ended_whole s actor = list_any (λ (end : Actor × Ending). is_actor end.0 actor && is_whole end.1) s.ended

-- whether an event gives a batch up
abbrev pub is_abandoned : Event → Bool
is_abandoned (Abandoned _) = true
is_abandoned _ = false

-- every feed and every desk ended whole, each batch that was asked for was opened, none is open, and none was given up
pub record IsFinished (feeds desks : ℕ) (start : State) (entries : List Entry) : Type 0 where
  pub feeds_whole : IsTrue (list_all (λ feed. ended_whole (replay start entries) (Feed feed)) (range_with_len 1 feeds))
  pub desks_whole : IsTrue (list_all (λ desk. ended_whole (replay start entries) (Desk desk)) (range_with_len 1 desks))
  pub all_opened : (replay start entries).opened ≡ (replay start entries).asked
  pub none_open : (replay start entries).batches ≡ []
  pub none_given_up : IsFalse (list_any (λ (entry : Entry). is_abandoned entry.event) entries)

-- what a direct history awaits: any entry but an opening or a commit, or the opening of a batch that was asked for, or
-- its commit
pub data Awaited : Type 0 where
  any : Awaited
  opening : Awaited
  commit : Awaited

-- what is awaited after an event, None where another was awaited
abbrev pub awaited_after : Awaited → Actor → Event → Option Awaited
awaited_after any actor (Fed _ (Asked _)) = Some opening
awaited_after any actor (Opened _ _ _ _) = None
awaited_after any actor (Committed _ _ _ _ _ _) = None
awaited_after any actor _ = Some any
awaited_after opening (Desk desk) (Opened _ _ _ _) = if desk == 1 then Some commit else None
awaited_after opening _ _ = None
awaited_after commit (Desk desk) (Committed _ _ _ _ _ _) = if desk == 1 then Some any else None
awaited_after commit _ _ = None

-- what is awaited after entries
abbrev pub awaited_in : List Entry → Option Awaited
awaited_in entries =
    fold (λ so_far (entry : Entry). option_and_then (λ awaited. awaited_after awaited entry.actor entry.event) so_far) (Some any) entries

-- each accepted ask is directly followed by the opening and the commit of a batch by desk 1, and no others stand
abbrev pub IsDirect : List Entry → Type 0
IsDirect entries = awaited_in entries ≡ Some any

-- how many outcomes of an event pass a test
abbrev pub outcomes_in : (Outcome → Bool) → Event → ℕ
outcomes_in test (Committed _ _ _ _ _ outcomes) = count_by (λ (item : ℕ × Outcome). test item.1) outcomes
outcomes_in test _ = 0

abbrev pub is_confirmed : Outcome → Bool
is_confirmed Confirmed = true
is_confirmed _ = false

abbrev pub is_away : Outcome → Bool
is_away Away = true
is_away _ = false

abbrev pub is_picked : Event → Bool
is_picked (Fed _ (Picked _)) = true
is_picked _ = false

abbrev pub is_dropped : Event → Bool
is_dropped (Fed _ (Dropped _)) = true
is_dropped _ = false

-- the totals of a history
abbrev pub confirmed_total : List Entry → ℕ
confirmed_total entries = sum_by (λ (entry : Entry). outcomes_in is_confirmed entry.event) entries

abbrev pub away_total : List Entry → ℕ
away_total entries = sum_by (λ (entry : Entry). outcomes_in is_away entry.event) entries

abbrev pub picked_total : List Entry → ℕ
picked_total entries = count_by (λ (entry : Entry). is_picked entry.event) entries

abbrev pub dropped_total : List Entry → ℕ
dropped_total entries = count_by (λ (entry : Entry). is_dropped entry.event) entries
