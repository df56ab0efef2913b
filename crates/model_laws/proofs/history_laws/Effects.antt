-- What one event does to the ends, to the open batches, and to the numbers of batches that were asked for and opened.
use Rattle.model_laws.proofs.Common.{◌≡◌, ℕ, Bool, true, false, not, ◌&&◌, cond, List, [], ◌∷◌, ◌++◌, Option, Some, None, eqb, refl, sym, ap, ◌∙◌, find, ◌==◌, filter, option_or, eq-eqb, append-nil, find-append, Actor, Feed, Desk, Command, Ending, Event, Fed, Finish, Opened, Committed, Abandoned, Reply, next_batch, after_opening, after_outcomes, after_commit, after_abandon, after_event, BatchCopy, State, is_actor, is_batch, open_batch_numbered, is_fed}
use Rattle.model_laws.proofs.RequestStates.{others-opening, abandon-is}
use Rattle.model_laws.proofs.history_laws.Leaving.{open_batch}
use Rattle.model_laws.proofs.history_laws.Untouched.{leaves-step, stays-outcomes}

-- the ends that an event adds
abbrev pub ends_in : Actor → Event → List (Actor × Ending)
ends_in actor (Finish ending) = (actor, ending) ∷ []
ends_in actor _ = []

-- whether an event opens a batch
abbrev pub is_opened : Event → Bool
is_opened (Opened _ _ _ _) = true
is_opened _ = false

-- a test passes only batches of others' desks
abbrev pub OfOthers : Actor → (BatchCopy → Bool) → Type 0
OfOthers actor p = (b : BatchCopy) → p b ≡ true → is_actor (Desk b.desk) actor ≡ false

-- the state after an event of an actor: batches of others' desks are found as before, and only an opening adds one
pub record Effect (s : State) (actor : Actor) (event : Event) (after : State) : Type 0 where
  pub ended : after.ended ≡ s.ended ++ ends_in actor event
  pub others : (p : BatchCopy → Bool) → OfOthers actor p → find p after.batches ≡ find p s.batches
  pub no_more : is_opened event ≡ false → (p : BatchCopy → Bool) → find p s.batches ≡ None → find p after.batches ≡ None
  pub opened : is_opened event ≡ false → after.opened ≡ s.opened
  pub asked : is_fed event ≡ false → after.asked ≡ s.asked

-- what is found where those that are taken out do not pass
find-kept : {X : Type 0} (p q : X → Bool) → ((x : X) → p x ≡ true → q x ≡ true) → (xs : List X) → find p (filter q xs) ≡ find p xs
find-kept p q kept [] = refl
find-kept {X} p q kept (x ∷ xs) = by_test (find-kept p q kept xs) (p x) refl (q x) refl
  where
    by_test : find p (filter q xs) ≡ find p xs → (b : Bool) → p x ≡ b → (c : Bool) → q x ≡ c
        → find p (cond c (x ∷ filter q xs) (filter q xs)) ≡ cond b (Some x) (find p xs)
    by_test later true is true stays = ap (λ b. cond b (Some x) (find p (filter q xs))) is
    by_test later true is false goes = absurd (cc (kept x is, goes))
    by_test later false is true stays = ap (λ b. cond b (Some x) (find p (filter q xs))) is ∙ later
    by_test later false is false goes = later

-- nothing is found among fewer where nothing was found
find-fewer : {X : Type 0} (p q : X → Bool) (xs : List X) → find p xs ≡ None → find p (filter q xs) ≡ None
find-fewer p q [] none = none
find-fewer {X} p q (x ∷ xs) none = by_test (find-fewer p q xs) (p x) refl (q x) none
  where
    by_test : (find p xs ≡ None → find p (filter q xs) ≡ None) → (b : Bool) → p x ≡ b → (c : Bool) → cond b (Some x) (find p xs) ≡ None
        → find p (cond c (x ∷ filter q xs) (filter q xs)) ≡ None
    by_test later true is c some = absurd (cc some)
    by_test later false is true none = ap (λ b. cond b (Some x) (find p (filter q xs))) is ∙ later none
    by_test later false is false none = later none

-- nothing happens
nothing : (s : State) (actor : Actor) (event : Event) → [] ≡ ends_in actor event → Effect s actor event s
nothing s actor event no_end = record {
  ended = sym (append-nil s.ended) ∙ ap (λ ends. s.ended ++ ends) no_end;
  others = λ p only. refl;
  no_more = λ closed p none. none;
  opened = λ closed. refl;
  asked = λ told. refl;
}

-- a command is answered
answered : (s : State) (actor : Actor) (command : Command) (reply : Reply) (after : State)
    → after.ended ≡ s.ended → after.batches ≡ s.batches → after.opened ≡ s.opened → Effect s actor (Fed command reply) after
answered s actor command reply after ended batches opened = record {
  ended = ended ∙ sym (append-nil s.ended);
  others = λ p only. ap (find p) batches;
  no_more = λ closed p none. ap (find p) batches ∙ none;
  opened = λ closed. opened;
  asked = λ no_answer. absurd (cc no_answer);
}

-- an open batch of the desk is taken out
closed : (s after : State) (desk : ℕ) (batch : BatchCopy) (event : Event) → [] ≡ ends_in (Desk desk) event → batch.desk ≡ desk
    → after.ended ≡ s.ended → after.opened ≡ s.opened → after.asked ≡ s.asked
    → after.batches ≡ filter (λ other. not (is_batch batch.desk batch.number other)) s.batches
    → Effect s (Desk desk) event after
closed s after desk batch event no_end desk_is ended opened asked batches = record {
  ended = ended ∙ sym (append-nil s.ended) ∙ ap (λ ends. s.ended ++ ends) no_end;
  others = λ p only. ap (find p) batches
      ∙ find-kept p (λ other. not (is_batch batch.desk batch.number other))
      (λ b passes. ap (λ d. not (eqb b.desk d && eqb b.number batch.number)) desk_is
      ∙ ap (λ t. not (t && eqb b.number batch.number)) (only b passes)) s.batches;
  no_more = λ is_closed p none. ap (find p) batches
      ∙ find-fewer p (λ other. not (is_batch batch.desk batch.number other)) s.batches none;
  opened = λ is_closed. opened;
  asked = λ told. asked;
}

-- an actor ends
ends : (s : State) (actor : Actor) (ending : Ending) → Effect s actor (Finish ending) (record s { ended = s.ended ++ (actor, ending) ∷ [] })
ends s actor ending = record {
  ended = refl;
  others = λ p only. refl;
  no_more = λ closed p none. none;
  opened = λ closed. refl;
  asked = λ told. refl;
}

-- a desk opens a batch
opens : (s : State) (desk number time : ℕ) (requests : List ℕ) (plans : List (ℕ × ℕ))
    → Effect s (Desk desk) (Opened number time requests plans) (after_opening s (next_batch s desk))
opens s desk number time requests plans =
    let is = others-opening s (next_batch s desk) in
    record {
      ended = ap (λ (t : State). t.ended) is ∙ sym (append-nil s.ended);
      others = λ p only. ap (λ (t : State). find p t.batches) is
          ∙ find-append p s.batches (next_batch s desk ∷ [])
          ∙ unseen p (find p s.batches) (p (next_batch s desk)) (not_own p only (p (next_batch s desk)) refl);
      no_more = λ is_closed. absurd (cc is_closed);
      opened = λ is_closed. absurd (cc is_closed);
      asked = λ told. ap (λ (t : State). t.asked) is;
    }
  where
    not_own : (p : BatchCopy → Bool) → OfOthers (Desk desk) p → (t : Bool) → p (next_batch s desk) ≡ t → t ≡ false
    not_own p only true passes = absurd (cc (only (next_batch s desk) passes, eq-eqb desk desk refl))
    not_own p only false fails = refl

    unseen : (p : BatchCopy → Bool) (o : Option BatchCopy) (t : Bool) → t ≡ false
        → option_or o (cond t (Some (next_batch s desk)) None) ≡ o
    unseen p None t fails = ap (λ b. cond b (Some (next_batch s desk)) None) fails
    unseen p (Some b) t fails = refl

-- each event
pub effect : (s : State) (actor : Actor) (event : Event) → Effect s actor event (after_event s actor event)
effect s (Feed n) (Fed command reply) =
    let leaves = leaves-step s command in
    answered s (Feed n) command reply (after_event s (Feed n) (Fed command reply)) leaves.ended leaves.batches leaves.opened
effect s (Desk n) (Fed command reply) =
    let leaves = leaves-step s command in
    answered s (Desk n) command reply (after_event s (Desk n) (Fed command reply)) leaves.ended leaves.batches leaves.opened
effect s (Feed n) (Finish ending) = ends s (Feed n) ending
effect s (Desk n) (Finish ending) = ends s (Desk n) ending
effect s (Feed n) (Opened number time requests plans) = nothing s (Feed n) (Opened number time requests plans) refl
effect s (Feed n) (Committed number cost seats prices pays outcomes) =
    nothing s (Feed n) (Committed number cost seats prices pays outcomes) refl
effect s (Feed n) (Abandoned number) = nothing s (Feed n) (Abandoned number) refl
effect s (Desk n) (Opened number time requests plans) = opens s n number time requests plans
effect s (Desk n) (Committed number cost seats prices pays outcomes) = by_batch (open_batch_numbered s n number) refl
  where
    by_batch : (o : Option BatchCopy) → open_batch_numbered s n number ≡ o
        → Effect s (Desk n) (Committed number cost seats prices pays outcomes)
        (after_event s (Desk n) (Committed number cost seats prices pays outcomes))
    by_batch None is = rw is (nothing s (Desk n) (Committed number cost seats prices pays outcomes) refl)
    by_batch (Some batch) is =
        let stays = stays-outcomes batch seats s batch.requests s in
        rw is (closed s (after_commit batch seats s) n batch (Committed number cost seats prices pays outcomes) refl
        (open_batch s n number batch is).desk_is stays.ended stays.opened stays.asked
        (ap (filter (λ other. not (is_batch batch.desk batch.number other))) stays.batches))
effect s (Desk n) (Abandoned number) = by_batch (open_batch_numbered s n number) refl
  where
    by_batch : (o : Option BatchCopy) → open_batch_numbered s n number ≡ o
        → Effect s (Desk n) (Abandoned number) (after_event s (Desk n) (Abandoned number))
    by_batch None is = rw is (nothing s (Desk n) (Abandoned number) refl)
    by_batch (Some batch) is =
        let after = abandon-is s batch in
        rw is (closed s (after_abandon batch s) n batch (Abandoned number) refl (open_batch s n number batch is).desk_is
        (ap (λ (t : State). t.ended) after) (ap (λ (t : State). t.opened) after) (ap (λ (t : State). t.asked) after)
        (ap (λ (t : State). t.batches) after))
