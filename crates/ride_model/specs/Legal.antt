-- Legal histories: each entry is right at the state that the entries before it give.
use Rattle.std.specs.Prelude.{◌≡◌, ◌++◌, ℕ, ◌≤◌, ⊤, Bool, List, [], ◌∷◌, map, Option, Some, None, IsTrue, IsFalse, IsSome, IsNone, IsSomeAnd}
use Rattle.std.specs.List.{list_all, range_with_len}
use Rattle.std.specs.Option.{option_map_or}
use Rattle.ride_model.specs.declared.command.Actor.{Actor}
use Rattle.ride_model.specs.declared.command.Actor.TheVariants.{Feed, Desk}
use Rattle.ride_model.specs.declared.entry.Ending.{Ending}
use Rattle.ride_model.specs.declared.entry.Ending.TheVariants.{Whole}
use Rattle.ride_model.specs.declared.entry.Entry.{Entry}
use Rattle.ride_model.specs.declared.entry.Event.{Event}
use Rattle.ride_model.specs.declared.entry.Event.TheVariants.{Fed, Finish, Opened, Committed, Abandoned}
use Rattle.ride_model.specs.declared.entry.Outcome.{Outcome}
use Rattle.ride_model.specs.declared.offer.Seat.{Seat}
use Rattle.ride_model.specs.declared.vehicle.Vehicle.{Vehicle}
use Rattle.ride_model.specs.Vehicle.{ride_ids}
use Rattle.ride_model.specs.Seating.{BatchCopy, IsLeastSeating, Certifies, seating_cost}
use Rattle.ride_model.specs.State.{State, has_ended, open_batch_of, open_batch_numbered}
use Rattle.ride_model.specs.Step.{step}
use Rattle.ride_model.specs.Batch.{may_open, next_batch, after_opening, outcomes_of, after_commit, after_abandon}

-- the state after an event of an actor
abbrev pub after_event : State → Actor → Event → State
after_event s actor (Fed command _) = (step s command).state
after_event s actor (Finish ending) = record s { ended = s.ended ++ (actor, ending) ∷ [] }
after_event s (Desk desk) (Opened _ _ _ _) = after_opening s (next_batch s desk)
after_event s (Desk desk) (Committed number _ seats _ _ _) =
    option_map_or (λ batch. after_commit batch seats s) (open_batch_numbered s desk number) s
after_event s (Desk desk) (Abandoned number) = option_map_or (λ batch. after_abandon batch s) (open_batch_numbered s desk number) s
after_event s (Feed _) _ = s

-- the state after an entry
abbrev pub after_entry : State → Entry → State
after_entry s entry = after_event s entry.actor entry.event

-- the state after a history
unfoldable pub replay : State → List Entry → State
replay s [] = s
replay s (entry ∷ entries) = replay (after_entry s entry) entries

-- whether all of so many feeds have ended
abbrev pub all_feeds_ended : ℕ → State → Bool
all_feeds_ended feeds s = list_all (λ feed. has_ended s (Feed feed)) (range_with_len 1 feeds)

-- an actor's number is from 1 to the number of its kind
abbrev pub IsNumbered : ℕ → ℕ → Type 0
IsNumbered many number = (1 ≤ number) × (number ≤ many)

-- the vehicles' versions, in fleet order
abbrev pub versions_of : List Vehicle → List (ℕ × ℕ)
versions_of vehicles = map (λ (v : Vehicle). (v.id, v.version)) vehicles

-- what an opening names is the batch's
pub record NamesBatch (batch : BatchCopy) (number time : ℕ) (requests : List ℕ) (plans : List (ℕ × ℕ)) : Type 0 where
  pub number_is : number ≡ batch.number
  pub time_is : time ≡ batch.time
  pub requests_are : requests ≡ ride_ids batch.requests
  pub plans_are : plans ≡ versions_of batch.vehicles

-- a commit's seats are a least seating of the batch, its cost is theirs, its prices and payments certify it, and its
-- outcomes are those of the moment
pub record CommitsBatch (s : State) (batch : BatchCopy) (cost : ℕ) (seats : List Seat) (prices pays : List (ℕ × ℕ)) (outcomes : List (ℕ × Outcome)) : Type 0 where
  pub least : IsLeastSeating s.roads batch seats
  pub cost_is : cost ≡ seating_cost s.roads batch seats
  pub certified : Certifies s.roads batch seats prices pays
  pub outcomes_are : outcomes ≡ outcomes_of batch seats s

-- a desk may end: it has no open batch, and ends whole only where no batch is to come
pub record MayEnd (feeds : ℕ) (s : State) (desk : ℕ) (ending : Ending) : Type 0 where
  pub none_open : IsNone (open_batch_of s desk)
  pub whole : ending ≡ Whole → (s.opened ≡ s.asked) × IsTrue (all_feeds_ended feeds s)

-- an event of an actor is legal at a state, with so many feeds and desks
abbrev pub IsLegalEvent : ℕ → ℕ → State → Actor → Event → Type 0
IsLegalEvent feeds desks s (Feed feed) (Fed command reply) =
    IsNumbered feeds feed × IsFalse (has_ended s (Feed feed)) × (reply ≡ (step s command).reply)
IsLegalEvent feeds desks s (Feed feed) (Finish ending) = IsNumbered feeds feed × IsFalse (has_ended s (Feed feed))
IsLegalEvent feeds desks s (Desk desk) (Finish ending) =
    IsNumbered desks desk × IsFalse (has_ended s (Desk desk)) × MayEnd feeds s desk ending
IsLegalEvent feeds desks s (Desk desk) (Opened number time requests plans) =
    IsNumbered desks desk × IsTrue (may_open s desk) × NamesBatch (next_batch s desk) number time requests plans
IsLegalEvent feeds desks s (Desk desk) (Committed number cost seats prices pays outcomes) =
    IsSomeAnd (open_batch_numbered s desk number) (λ batch. CommitsBatch s batch cost seats prices pays outcomes)
IsLegalEvent feeds desks s (Desk desk) (Abandoned number) = IsSome (open_batch_numbered s desk number)
IsLegalEvent feeds desks s _ _ = ⊥

-- an entry is legal at a state
abbrev pub IsLegalEntry : ℕ → ℕ → State → Entry → Type 0
IsLegalEntry feeds desks s entry = IsLegalEvent feeds desks s entry.actor entry.event

-- a history is legal from a state on, with so many feeds and desks
unfoldable pub IsLegal : ℕ → ℕ → State → List Entry → Type 0
IsLegal feeds desks s [] = ⊤
IsLegal feeds desks s (entry ∷ entries) = IsLegalEntry feeds desks s entry × IsLegal feeds desks (after_entry s entry) entries
