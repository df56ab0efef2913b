-- Entries of which none is broken off: who has ended has ended whole, and no batch was given up. And feeds that a history does not have.
use Rattle.live_sessions.proofs.Common.{◌≡◌, ℕ, Bool, true, false, ◌||◌, cond, List, [], ◌∷◌, refl, ap, subst, ◌∙◌, list_any, list_any-append, or-true, or-false, eqb-true, or_from, or_parts, Actor, Feed, Desk, Ending, Whole, Cut, Entry, Event, Fed, Finish, Opened, Committed, Abandoned, entries_of, is_abandoned, after_entry, replay, IsLegal, IsLegalEvent, IsNumbered, State, has_ended, is_actor, gives_up, has_whole_end, is_whole_end, effect, ends_in, breaks_off, is_broken_off}

-- whether an event of one actor is another's end
abbrev ends_it : Actor → Actor → Event → Bool
ends_it by actor (Finish ending) = is_actor by actor
ends_it by actor _ = false

-- who has ended after an entry
ended-after : (s : State) (entry : Entry) (actor : Actor)
    → has_ended (after_entry s entry) actor ≡ (has_ended s actor || ends_it entry.actor actor entry.event)
ended-after s entry actor =
    ap (list_any test) (effect s entry.actor entry.event).ended
    ∙ list_any-append test s.ended (ends_in entry.actor entry.event)
    ∙ ap (λ b. has_ended s actor || b) (by_event entry.event)
  where
    test : Actor × Ending → Bool
    test end = is_actor end.0 actor

    by_event : (event : Event) → list_any test (ends_in entry.actor event) ≡ ends_it entry.actor actor event
    by_event (Finish ending) = or-false (is_actor entry.actor actor)
    by_event (Fed command reply) = refl
    by_event (Opened number time requests plans) = refl
    by_event (Committed number cost seats prices pays outcomes) = refl
    by_event (Abandoned number) = refl

-- an actor that has ended has a whole end, where nothing was broken off
pub ended-whole : (s : State) (entries : List Entry) (actor : Actor) → has_ended s actor ≡ false → has_ended (replay s entries) actor ≡ true
    → is_broken_off entries ≡ false → has_whole_end (entries_of actor entries) ≡ true
unfolding replay entries_of
ended-whole s [] actor lives ended sound = absurd (cc (lives, ended))
ended-whole s (entry ∷ entries) actor lives ended sound =
    let (first, rest) = or_parts (breaks_off entry.event) (is_broken_off entries) sound in
    by_event
    (λ none. ended-whole (after_entry s entry) entries actor
    (ended-after s entry actor ∙ or_from (has_ended s actor) (ends_it entry.actor actor entry.event) lives none) ended rest)
    entry.event refl (is_actor entry.actor actor) refl first
  where
    -- what comes later stays
    still : has_whole_end (entries_of actor entries) ≡ true → (own : Bool)
        → has_whole_end (cond own (entry ∷ entries_of actor entries) (entries_of actor entries)) ≡ true
    still later false = later
    still later true = ap (λ b. is_whole_end entry.event || b) later ∙ or-true (is_whole_end entry.event)

    by_event : (ends_it entry.actor actor entry.event ≡ false → has_whole_end (entries_of actor entries) ≡ true)
        → (event : Event) → entry.event ≡ event → (own : Bool) → is_actor entry.actor actor ≡ own → breaks_off entry.event ≡ false
        → has_whole_end (cond own (entry ∷ entries_of actor entries) (entries_of actor entries)) ≡ true
    by_event later (Finish Whole) is true mine sound = ap (λ e. is_whole_end e || has_whole_end (entries_of actor entries)) is
    by_event later (Finish Whole) is false other sound = later (ap (ends_it entry.actor actor) is ∙ other)
    by_event later (Finish Cut) is own mine sound = absurd (cc (ap breaks_off is, sound))
    by_event later (Fed command reply) is own mine sound = still (later (ap (ends_it entry.actor actor) is)) own
    by_event later (Opened number time requests plans) is own mine sound = still (later (ap (ends_it entry.actor actor) is)) own
    by_event later (Committed number cost seats prices pays outcomes) is own mine sound = still (later (ap (ends_it entry.actor actor) is)) own
    by_event later (Abandoned number) is own mine sound = absurd (cc (ap breaks_off is, sound))

-- and no actor has given a batch up
pub none-broken : (actor : Actor) (entries : List Entry) → is_broken_off entries ≡ false → gives_up (entries_of actor entries) ≡ false
unfolding entries_of
none-broken actor [] sound = refl
none-broken actor (entry ∷ entries) sound =
    let (first, rest) = or_parts (breaks_off entry.event) (is_broken_off entries) sound in
    by_actor (none-broken actor entries rest) (is_actor entry.actor actor) (kept entry.event first)
  where
    kept : (event : Event) → breaks_off event ≡ false → is_abandoned event ≡ false
    kept (Abandoned number) sound = sound
    kept (Finish ending) sound = refl
    kept (Fed command reply) sound = refl
    kept (Opened number time requests plans) sound = refl
    kept (Committed number cost seats prices pays outcomes) sound = refl

    by_actor : gives_up (entries_of actor entries) ≡ false → (own : Bool) → is_abandoned entry.event ≡ false
        → gives_up (cond own (entry ∷ entries_of actor entries) (entries_of actor entries)) ≡ false
    by_actor later true first = or_from (is_abandoned entry.event) (gives_up (entries_of actor entries)) first later
    by_actor later false first = later

-- a legal history has no entry of a feed that it does not have
pub no-feed : (feeds desks : ℕ) (s : State) (entries : List Entry) (feed : ℕ) → IsLegal feeds desks s entries → (IsNumbered feeds feed → ⊥)
    → entries_of (Feed feed) entries ≡ []
unfolding IsLegal entries_of
no-feed feeds desks s [] feed legal none = refl
no-feed feeds desks s (entry ∷ entries) feed (legal, rest) none =
    by_test (no-feed feeds desks (after_entry s entry) entries feed rest none) (is_actor entry.actor (Feed feed)) refl
  where
    by_actor : (actor : Actor) (event : Event) → is_actor actor (Feed feed) ≡ true → IsLegalEvent feeds desks s actor event → ⊥
    by_actor (Feed n) (Fed command reply) is l = none (subst (IsNumbered feeds) (eqb-true n feed is) l.0)
    by_actor (Feed n) (Finish ending) is l = none (subst (IsNumbered feeds) (eqb-true n feed is) l.0)
    by_actor (Feed n) (Opened number time requests plans) is l = l
    by_actor (Feed n) (Committed number cost seats prices pays outcomes) is l = l
    by_actor (Feed n) (Abandoned number) is l = l
    by_actor (Desk n) event is l = absurd (cc is)

    by_test : entries_of (Feed feed) entries ≡ [] → (own : Bool) → is_actor entry.actor (Feed feed) ≡ own
        → cond own (entry ∷ entries_of (Feed feed) entries) (entries_of (Feed feed) entries) ≡ []
    by_test later false is = later
    by_test later true is = absurd (by_actor entry.actor entry.event is legal)
