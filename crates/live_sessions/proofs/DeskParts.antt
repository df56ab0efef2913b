-- What the desks' own parts say of a history: who ended whole, and that no batch was given up.
use Rattle.live_sessions.proofs.Common.{◌≡◌, ℕ, Bool, true, false, ◌||◌, ◌&&◌, cond, List, [], ◌∷◌, ◌++◌, Option, Some, None, refl, sym, ap, subst, ◌∙◌, eq-eqb, IsSome, list_any, list_any-append, or-true, or-false, and-false, or_from, or_parts, Actor, Feed, Desk, Ending, Entry, Event, Fed, Finish, Opened, Committed, Abandoned, ended_whole, entries_of, is_abandoned, is_whole, after_entry, replay, IsLegal, IsLegalEvent, IsNumbered, BatchCopy, State, is_actor, open_batch_numbered, Ran, Among, IsLegal-parts, IsConsistent, IsOpenBatch, gives_up, has_whole_end, is_whole_end, IsStart, fed_total, effect, ends_in, end_entry, Known, actor_of, IsPartOf, RunsDesk}
use Rattle.model_laws.proofs.plain.Each.{of_all}
use Rattle.model_laws.proofs.history_laws.EveryState.{consistent}
use Rattle.model_laws.proofs.history_laws.Leaving.{open_batch}
use Rattle.live_sessions.proofs.FeedParts.{ends-whole}

-- a desk ended whole and gave no batch up
pub record DeskWhole (desk : ℕ) (history : List Entry) : Type 0 where
  pub whole : has_whole_end (entries_of (Desk desk) history) ≡ true
  pub none_given_up : gives_up (entries_of (Desk desk) history) ≡ false

-- what the history has of a desk that has run: where memory was not wanting, and it had given no batch up before
pub desk-of : (desk : ℕ) (open_batch : Option BatchCopy) (ran : Ran) (before history : List Entry) (old new : Known)
    → old.own ≡ entries_of (Desk desk) before → gives_up (entries_of (Desk desk) before) ≡ false
    → RunsDesk open_batch ran old new → IsPartOf history (Desk desk) new → ran.no_memory ≡ false → DeskWhole desk history
desk-of desk open_batch ran before history old new own_is none runs its memory = record {
  whole = ap has_whole_end part ∙ ends-whole made (actor_of old.number) runs.ending (runs.whole memory).0;
  none_given_up = ap gives_up part ∙ list_any-append given made (end_entry (actor_of old.number) runs.ending ∷ []) ∙ or-false (gives_up made)
      ∙ list_any-append given old.own runs.batches
      ∙ or_from (gives_up old.own) (gives_up runs.batches) (ap gives_up own_is ∙ none) (runs.whole memory).1;
}
  where
    given : Entry → Bool
    given entry = is_abandoned entry.event

    made : List Entry
    made = old.own ++ runs.batches

    part : entries_of (Desk desk) history ≡ made ++ end_entry (actor_of old.number) runs.ending ∷ []
    part = sym its.own_all ∙ runs.ends.own_is

-- of one that had ended before
pub desk-over : (desk : ℕ) (before history : List Entry) (k : Known) → k.own ≡ entries_of (Desk desk) before → IsPartOf history (Desk desk) k
    → has_whole_end (entries_of (Desk desk) before) ≡ true → gives_up (entries_of (Desk desk) before) ≡ false → DeskWhole desk history
desk-over desk before history k own_is its whole none =
    let same : entries_of (Desk desk) history ≡ entries_of (Desk desk) before = sym its.own_all ∙ own_is in
    record { whole = ap has_whole_end same ∙ whole; none_given_up = ap gives_up same ∙ none }

-- an entry leaves who has ended whole, and adds an actor that it ends whole
still-whole : (s : State) (entry : Entry) (actor : Actor) → ended_whole (after_entry s entry) actor
    ≡ (ended_whole s actor || (is_actor entry.actor actor && is_whole_end entry.event))
still-whole s entry actor =
    ap (list_any test) (effect s entry.actor entry.event).ended
    ∙ list_any-append test s.ended (ends_in entry.actor entry.event)
    ∙ ap (λ b. ended_whole s actor || b) (by_event entry.event)
  where
    test : Actor × Ending → Bool
    test end = is_actor end.0 actor && is_whole end.1

    by_event : (event : Event) → list_any test (ends_in entry.actor event) ≡ (is_actor entry.actor actor && is_whole_end event)
    by_event (Finish ending) = or-false (is_actor entry.actor actor && is_whole ending)
    by_event (Fed command reply) = sym (and-false (is_actor entry.actor actor))
    by_event (Opened number time requests plans) = sym (and-false (is_actor entry.actor actor))
    by_event (Committed number cost seats prices pays outcomes) = sym (and-false (is_actor entry.actor actor))
    by_event (Abandoned number) = sym (and-false (is_actor entry.actor actor))

-- who has ended whole stays so
stays-whole : (s : State) (entries : List Entry) (actor : Actor) → ended_whole s actor ≡ true → ended_whole (replay s entries) actor ≡ true
unfolding replay
stays-whole s [] actor whole = whole
stays-whole s (entry ∷ entries) actor whole =
    stays-whole (after_entry s entry) entries actor
    (still-whole s entry actor ∙ ap (λ b. b || (is_actor entry.actor actor && is_whole_end entry.event)) whole)

-- an actor whose part has a whole end has ended whole
pub part-whole : (s : State) (entries : List Entry) (actor : Actor) → has_whole_end (entries_of actor entries) ≡ true
    → ended_whole (replay s entries) actor ≡ true
unfolding replay entries_of
part-whole s [] actor has = absurd (cc has)
part-whole s (entry ∷ entries) actor has =
    by_actor (λ rest. part-whole (after_entry s entry) entries actor rest) (is_actor entry.actor actor) refl (is_whole_end entry.event) refl has
  where
    by_actor : (has_whole_end (entries_of actor entries) ≡ true → ended_whole (replay (after_entry s entry) entries) actor ≡ true)
        → (own : Bool) → is_actor entry.actor actor ≡ own → (ends : Bool) → is_whole_end entry.event ≡ ends
        → has_whole_end (cond own (entry ∷ entries_of actor entries) (entries_of actor entries)) ≡ true
        → ended_whole (replay (after_entry s entry) entries) actor ≡ true
    by_actor later false other ends end rest = later rest
    by_actor later true own true end rest =
        stays-whole (after_entry s entry) entries actor
        (still-whole s entry actor ∙ (λ i. ended_whole s actor || (own i && end i)) ∙ or-true (ended_whole s actor))
    by_actor later true own false end rest =
        later (sym (ap (λ b. b || has_whole_end (entries_of actor entries)) end) ∙ rest)

-- a batch that an entry gives up is that of a desk of the history's
given_up-desk : (feeds desks : ℕ) (s : State) (entry : Entry) → ((b : BatchCopy) → Among b s.batches → IsNumbered desks b.desk)
    → IsLegalEvent feeds desks s entry.actor entry.event → is_abandoned entry.event ≡ true
    → (desk : ℕ) × (entry.actor ≡ Desk desk) × IsNumbered desks desk
given_up-desk feeds desks s entry numbered legal given_up = by_event entry.actor entry.event legal given_up
  where
    by_event : (actor : Actor) (event : Event) → IsLegalEvent feeds desks s actor event → is_abandoned event ≡ true
        → (desk : ℕ) × (actor ≡ Desk desk) × IsNumbered desks desk
    by_event (Desk n) (Abandoned number) there given = (n, refl, by_batch (open_batch_numbered s n number) refl there)
      where
        by_batch : (o : Option BatchCopy) → open_batch_numbered s n number ≡ o → IsSome o → IsNumbered desks n
        by_batch None is some = absurd (cc some)
        by_batch (Some batch) is some =
            let at = open_batch s n number batch is in
            subst (IsNumbered desks) at.desk_is (numbered batch at.there)
    by_event (Feed n) (Abandoned number) there given = absurd there
    by_event actor (Fed command reply) there given = absurd (cc given)
    by_event actor (Finish ending) there given = absurd (cc given)
    by_event actor (Opened number time requests plans) there given = absurd (cc given)
    by_event actor (Committed number cost seats prices pays outcomes) there given = absurd (cc given)

-- a part keeps what passes a test
any-part : (p : Entry → Bool) (actor : Actor) (entry : Entry) (entries : List Entry) → is_actor entry.actor actor ≡ true → p entry ≡ true
    → list_any p (entries_of actor (entry ∷ entries)) ≡ true
unfolding entries_of
any-part p actor entry entries own passes =
    (λ i. list_any p (cond (own i) (entry ∷ entries_of actor entries) (entries_of actor entries)))
    ∙ ap (λ b. b || list_any p (entries_of actor entries)) passes

any-later : (p : Entry → Bool) (actor : Actor) (entry : Entry) (entries : List Entry) → list_any p (entries_of actor (entry ∷ entries)) ≡ false
    → list_any p (entries_of actor entries) ≡ false
unfolding entries_of
any-later p actor entry entries none = by_actor (is_actor entry.actor actor) none
  where
    by_actor : (own : Bool) → list_any p (cond own (entry ∷ entries_of actor entries) (entries_of actor entries)) ≡ false
        → list_any p (entries_of actor entries) ≡ false
    by_actor true h = (or_parts (p entry) (list_any p (entries_of actor entries)) h).1
    by_actor false h = h

-- no batch was given up, where none of the desks' parts gives one up
pub none-given_up : (feeds desks : ℕ) (start : State) (before entries : List Entry) → IsStart start → IsLegal feeds desks start (before ++ entries)
    → ((desk : ℕ) → IsNumbered desks desk → gives_up (entries_of (Desk desk) entries) ≡ false)
    → list_any (λ (entry : Entry). is_abandoned entry.event) entries ≡ false
unfolding IsLegal
none-given_up feeds desks start before [] begins legal none = refl
none-given_up feeds desks start before (entry ∷ entries) begins legal none =
    or_from (is_abandoned entry.event) (list_any given entries) first
    (none-given_up feeds desks start (before ++ entry ∷ []) entries begins (subst (IsLegal feeds desks start) (joined before) legal)
    (λ desk fits. any-later given (Desk desk) entry entries (none desk fits)))
  where
    s : State
    s = replay start before

    given : Entry → Bool
    given e = is_abandoned e.event

    parts : IsLegal feeds desks start before × IsLegal feeds desks s (entry ∷ entries)
    parts = IsLegal-parts feeds desks start before (entry ∷ entries) legal

    numbered : (b : BatchCopy) → Among b s.batches → IsNumbered desks b.desk
    numbered b there =
        let c : IsConsistent desks (fed_total before) start s = consistent feeds desks start before begins parts.0 in
        (of_all (IsOpenBatch desks s) s.batches b c.batches_fit there).desk_in

    first : is_abandoned entry.event ≡ false
    first = by_test (is_abandoned entry.event) refl
      where
        by_test : (b : Bool) → is_abandoned entry.event ≡ b → b ≡ false
        by_test false is = refl
        by_test true is =
            let (desk, actor, fits) = given_up-desk feeds desks s entry numbered parts.1.0 is in
            absurd (cc (
              any-part given (Desk desk) entry entries (ap (λ a. is_actor a (Desk desk)) actor ∙ eq-eqb desk desk refl) is,
              none desk fits,
            ))

    joined : (es : List Entry) → es ++ entry ∷ entries ≡ (es ++ entry ∷ []) ++ entries
    joined [] = refl
    joined (e ∷ es) = ap (λ more. e ∷ more) (joined es)
