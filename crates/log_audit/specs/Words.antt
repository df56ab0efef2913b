-- Why a line of a log is wrong: what each word asks of an entry at a state, and the first word that is not met.
use Rattle.std.specs.Prelude.{◌≡◌, ℕ, ⊤, List, [], ◌∷◌, ◌++◌, All, IsTrue, IsFalse, IsSome, IfSome}
use Rattle.ride_model.specs.declared.command.Actor.{Actor}
use Rattle.ride_model.specs.declared.command.Actor.TheVariants.{Feed, Desk}
use Rattle.ride_model.specs.declared.entry.Event.{Event}
use Rattle.ride_model.specs.declared.entry.Event.TheVariants.{Fed, Finish, Opened, Committed, Abandoned}
use Rattle.ride_model.specs.Batch.{may_open, next_batch, outcomes_of}
use Rattle.ride_model.specs.Legal.{IsNumbered, MayEnd, NamesBatch}
use Rattle.ride_model.specs.Seating.{IsSeating, Certifies, seating_cost}
use Rattle.ride_model.specs.State.{State, has_ended, open_batch_numbered}
use Rattle.ride_model.specs.Step.{step}
use Rattle.log_audit.specs.declared.verdict.Why.{Why}
use Rattle.log_audit.specs.declared.verdict.Why.TheVariants.{Actor as ToActor, Reply as ToReply, Batch as ToBatch, Seating as ToSeating, Prices as ToPrices, Outcomes as ToOutcomes}

-- what a word asks of an event of an actor at a state, with so many feeds and desks; an entry that was read is spelled. The actor may
-- act: it is one of those that the head names and has not ended, and a desk opens a batch where it may, closes a batch that it has open,
-- and ends where it may. The reply to a command is that of the rules of dispatch; an opening names the desk's next batch; the seats of
-- a commit are a seating of the open batch, which costs what it says, the prices and payments certify it, and the outcomes are those of
-- the moment
abbrev pub Meets : Why → ℕ → ℕ → State → Actor → Event → Type 0
Meets ToActor feeds desks s (Feed feed) (Fed _ _) = IsNumbered feeds feed × IsFalse (has_ended s (Feed feed))
Meets ToActor feeds desks s (Feed feed) (Finish _) = IsNumbered feeds feed × IsFalse (has_ended s (Feed feed))
Meets ToActor feeds desks s (Desk desk) (Finish ending) = IsNumbered desks desk × IsFalse (has_ended s (Desk desk)) × MayEnd feeds s desk ending
Meets ToActor feeds desks s (Desk desk) (Opened _ _ _ _) = IsNumbered desks desk × IsTrue (may_open s desk)
Meets ToActor feeds desks s (Desk desk) (Committed number _ _ _ _ _) = IsSome (open_batch_numbered s desk number)
Meets ToActor feeds desks s (Desk desk) (Abandoned number) = IsSome (open_batch_numbered s desk number)
Meets ToActor feeds desks s _ _ = ⊥
Meets ToReply feeds desks s actor (Fed command reply) = reply ≡ (step s command).reply
Meets ToBatch feeds desks s (Desk desk) (Opened number time requests plans) = NamesBatch (next_batch s desk) number time requests plans
Meets ToSeating feeds desks s (Desk desk) (Committed number cost seats _ _ _) =
    IfSome (open_batch_numbered s desk number) (λ batch. IsSeating s.roads batch seats × (cost ≡ seating_cost s.roads batch seats))
Meets ToPrices feeds desks s (Desk desk) (Committed number _ seats prices pays _) =
    IfSome (open_batch_numbered s desk number) (λ batch. Certifies s.roads batch seats prices pays)
Meets ToOutcomes feeds desks s (Desk desk) (Committed number _ seats _ _ outcomes) =
    IfSome (open_batch_numbered s desk number) (λ batch. outcomes ≡ outcomes_of batch seats s)
Meets _ feeds desks s _ _ = ⊤

-- the first word that an event does not meet, in the order of the tests
pub record IsFault (why : Why) (feeds desks : ℕ) (s : State) (actor : Actor) (event : Event) : Type 0 where
  pub earlier : List Why
  pub later : List Why
  pub order_is : earlier ++ why ∷ later ≡ ToActor ∷ ToReply ∷ ToBatch ∷ ToSeating ∷ ToPrices ∷ ToOutcomes ∷ []
  pub before : All (λ word. Meets word feeds desks s actor event) earlier
  pub fault : Meets why feeds desks s actor event → ⊥
