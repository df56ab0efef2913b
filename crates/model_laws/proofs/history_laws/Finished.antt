-- A history in which every actor ended whole and none gave a batch up is finished.
use Rattle.model_laws.proofs.Common.{◌≡◌, ℕ, ◌+◌, ◌<◌, ◌≤◌, Bool, true, false, ◌||◌, ◌&&◌, not, cond, ◌⊎◌, inl, inr, List, [], ◌∷◌, ◌++◌, Option, Some, None, eqb, refl, sym, ap, subst, ◌∙◌, arith, find, ◌==◌, nat_lt, is_some, IsSome, IsNone, IsSomeAnd, filter, list_any, list_all, range_with_len, eqb-true, eq-eqb, not-true, and_parts, or_cases, list_any-append, or-false, and-false, Actor, Feed, Desk, Ending, Whole, Cut, Entry, Event, Fed, Finish, Opened, Committed, Abandoned, entries_of, ended_whole, is_whole, is_abandoned, IsFinished, after_event, after_entry, replay, IsLegal, IsLegalEvent, IsNumbered, MayEnd, BatchCopy, State, is_actor, has_ended, open_batch_of, open_batch_numbered, IsOpenBatch, IsConsistent, is_whole_end, has_whole_end, gives_up, AllWhole, IsStart, fed_total}
use Rattle.model_laws.proofs.plain.Among.{Among, among_filter}
use Rattle.model_laws.proofs.plain.Each.{of_all}
use Rattle.model_laws.proofs.Histories.{IsLegal-parts}
use Rattle.model_laws.proofs.history_laws.EveryState.{consistent}
use Rattle.model_laws.proofs.history_laws.Effects.{ends_in, is_opened, effect}
use Rattle.model_laws.proofs.history_laws.Leaving.{open_batch}
use Rattle.model_laws.proofs.history_laws.Others.{is_actor-comm, ended-other, ended-same, NoneToCome, range_all, none_to_come-event}

-- no value is None
none_is : {X : Type 0} (o : Option X) → IsNone o → o ≡ None
none_is None h = refl
none_is (Some x) h = absurd (cc h)

-- the ends of a history
abbrev ends_of : List Entry → List (Actor × Ending)
ends_of [] = []
ends_of (entry ∷ entries) = ends_in entry.actor entry.event ++ ends_of entries

-- who has ended whole after entries, by the state before and by the actor's own entries
pub whole-after : (actor : Actor) (s : State) (entries : List Entry)
    → ended_whole (replay s entries) actor ≡ (ended_whole s actor || has_whole_end (entries_of actor entries))
unfolding replay entries_of
whole-after actor s [] = sym (or-false (ended_whole s actor))
whole-after actor s (entry ∷ entries) =
    whole-after actor (after_entry s entry) entries
    ∙ ap (λ b. b || has_whole_end (entries_of actor entries)) (by_event entry.actor entry.event)
    ∙ by_test (is_actor entry.actor actor) (ended_whole s actor)
  where
    test : Actor × Ending → Bool
    test end = is_actor end.0 actor && is_whole end.1

    added : (a : Actor) (event : Event) → list_any test (ends_in a event) ≡ (is_actor a actor && is_whole_end event)
    added a (Finish ending) = or-false (is_actor a actor && is_whole ending)
    added a (Fed command reply) = sym (and-false (is_actor a actor))
    added a (Opened number time requests plans) = sym (and-false (is_actor a actor))
    added a (Committed number cost seats prices pays outcomes) = sym (and-false (is_actor a actor))
    added a (Abandoned number) = sym (and-false (is_actor a actor))

    by_event : (a : Actor) (event : Event)
        → ended_whole (after_event s a event) actor ≡ (ended_whole s actor || (is_actor a actor && is_whole_end event))
    by_event a event =
        ap (list_any test) (effect s a event).ended
        ∙ list_any-append test s.ended (ends_in a event)
        ∙ ap (λ b. ended_whole s actor || b) (added a event)

    or_assoc : (a b c : Bool) → ((a || b) || c) ≡ (a || (b || c))
    or_assoc true b c = refl
    or_assoc false b c = refl

    by_test : (own before : Bool)
        → ((before || (own && is_whole_end entry.event)) || has_whole_end (entries_of actor entries))
        ≡ (before || has_whole_end (cond own (entry ∷ entries_of actor entries) (entries_of actor entries)))
    by_test true before = or_assoc before (is_whole_end entry.event) (has_whole_end (entries_of actor entries))
    by_test false before = or_assoc before false (has_whole_end (entries_of actor entries))

-- a desk that has ended has no batch open, and no batch is to come once a desk has ended whole
record Settles (feeds : ℕ) (s : State) : Type 0 where
  none_open : (desk : ℕ) → has_ended s (Desk desk) ≡ true → open_batch_of s desk ≡ None
  whole : (desk : ℕ) → ended_whole s (Desk desk) ≡ true → NoneToCome feeds s

-- the same after an event that ends no actor and opens no batch
kept : (feeds : ℕ) (s : State) (actor : Actor) (event : Event) (desk : ℕ) → Settles feeds s → ends_in actor event ≡ []
    → is_opened event ≡ false
    → has_ended (after_event s actor event) (Desk desk) ≡ true → open_batch_of (after_event s actor event) desk ≡ None
kept feeds s actor event desk settles no_end closed ended =
    (effect s actor event).no_more closed (λ (b : BatchCopy). b.desk == desk)
    (settles.none_open desk (sym (ended-same s actor (Desk desk) event no_end) ∙ ended))

-- a desk that has ended has no batch open after a legal event
none_open-event : (feeds desks : ℕ) (s : State) (actor : Actor) (event : Event) (desk : ℕ) → Settles feeds s
    → IsLegalEvent feeds desks s actor event
    → has_ended (after_event s actor event) (Desk desk) ≡ true → open_batch_of (after_event s actor event) desk ≡ None
none_open-event feeds desks s (Feed n) (Fed command reply) desk settles legal ended =
    kept feeds s (Feed n) (Fed command reply) desk settles refl refl ended
none_open-event feeds desks s (Feed n) (Finish ending) desk settles legal ended =
    settles.none_open desk (sym (ended-other s (Feed n) (Desk desk) (Finish ending) refl) ∙ ended)
none_open-event feeds desks s (Desk n) (Finish ending) desk settles (numbered, lives, may) ended = by_desk (eqb n desk) refl
  where
    by_desk : (b : Bool) → eqb n desk ≡ b → open_batch_of s desk ≡ None
    by_desk true is = subst (λ d. open_batch_of s d ≡ None) (eqb-true n desk is) (none_is (open_batch_of s n) may.none_open)
    by_desk false is = settles.none_open desk (sym (ended-other s (Desk n) (Desk desk) (Finish ending) is) ∙ ended)
none_open-event feeds desks s (Desk n) (Opened number time requests plans) desk settles (numbered, may, names) ended =
    by_desk (eqb n desk) refl
  where
    event : Event
    event = Opened number time requests plans

    alive : has_ended s (Desk n) ≡ false
    alive =
        let (both, fewer) = and_parts (not (has_ended s (Desk n)) && not (is_some (open_batch_of s n))) (nat_lt s.opened s.asked) may in
        let (lives, none) = and_parts (not (has_ended s (Desk n))) (not (is_some (open_batch_of s n))) both in
        not-true (has_ended s (Desk n)) lives

    same : has_ended (after_event s (Desk n) event) (Desk desk) ≡ has_ended s (Desk desk)
    same = ended-same s (Desk n) (Desk desk) event refl

    by_desk : (b : Bool) → eqb n desk ≡ b → open_batch_of (after_event s (Desk n) event) desk ≡ None
    by_desk true is =
        absurd (cc (subst (λ d. has_ended s (Desk d) ≡ false) (eqb-true n desk is) alive, sym same ∙ ended))
    by_desk false is =
        (effect s (Desk n) event).others (λ (b : BatchCopy). b.desk == desk)
        (λ b passes. ap (λ d. is_actor (Desk d) (Desk n)) (eqb-true b.desk desk passes) ∙ is_actor-comm (Desk desk) (Desk n) ∙ is)
        ∙ settles.none_open desk (sym same ∙ ended)
none_open-event feeds desks s (Desk n) (Committed number cost seats prices pays outcomes) desk settles legal ended =
    kept feeds s (Desk n) (Committed number cost seats prices pays outcomes) desk settles refl refl ended
none_open-event feeds desks s (Desk n) (Abandoned number) desk settles legal ended =
    kept feeds s (Desk n) (Abandoned number) desk settles refl refl ended
none_open-event feeds desks s (Desk n) (Fed command reply) desk settles legal ended = absurd legal
none_open-event feeds desks s (Feed n) (Opened number time requests plans) desk settles legal ended = absurd legal
none_open-event feeds desks s (Feed n) (Committed number cost seats prices pays outcomes) desk settles legal ended = absurd legal
none_open-event feeds desks s (Feed n) (Abandoned number) desk settles legal ended = absurd legal

-- no batch is to come, where a desk ends whole by a legal event
none_at_end : (feeds desks : ℕ) (s : State) (actor : Actor) (event : Event) (desk : ℕ) → IsLegalEvent feeds desks s actor event
    → list_any (λ (end : Actor × Ending). is_actor end.0 (Desk desk) && is_whole end.1) (ends_in actor event) ≡ true
    → NoneToCome feeds s
none_at_end feeds desks s (Desk n) (Finish Whole) desk (numbered, lives, may) ends =
    record { all_opened = (may.whole refl).0; all_ended = (may.whole refl).1 }
none_at_end feeds desks s (Desk n) (Finish Cut) desk legal ends = absurd (cc (cut (eqb n desk), ends))
  where
    cut : (b : Bool) → ((b && false) || false) ≡ false
    cut true = refl
    cut false = refl
none_at_end feeds desks s (Feed n) (Finish ending) desk legal ends = absurd (cc ends)
none_at_end feeds desks s actor (Fed command reply) desk legal ends = absurd (cc ends)
none_at_end feeds desks s actor (Opened number time requests plans) desk legal ends = absurd (cc ends)
none_at_end feeds desks s actor (Committed number cost seats prices pays outcomes) desk legal ends = absurd (cc ends)
none_at_end feeds desks s actor (Abandoned number) desk legal ends = absurd (cc ends)

-- each legal event keeps it
settles-event : (feeds desks : ℕ) (s : State) (actor : Actor) (event : Event) → IsLegalEvent feeds desks s actor event
    → Settles feeds s → Settles feeds (after_event s actor event)
settles-event feeds desks s actor event legal settles = record {
  none_open = λ desk ended. none_open-event feeds desks s actor event desk settles legal ended;
  whole = λ desk ended. none_to_come-event feeds desks s actor event legal (before desk ended);
}
  where
    before : (desk : ℕ) → ended_whole (after_event s actor event) (Desk desk) ≡ true → NoneToCome feeds s
    before desk ended =
        let test = λ (end : Actor × Ending). is_actor end.0 (Desk desk) && is_whole end.1 in
        elim (or_cases (ended_whole s (Desk desk)) (list_any test (ends_in actor event)) (
        sym (ap (list_any test) (effect s actor event).ended ∙ list_any-append test s.ended (ends_in actor event)) ∙ ended
        )) [
          | inl earlier ↦ settles.whole desk earlier
          | inr now ↦ none_at_end feeds desks s actor event desk legal now
        ]

-- and so does a legal history
settles-history : (feeds desks : ℕ) (s : State) (entries : List Entry) → IsLegal feeds desks s entries → Settles feeds s
    → Settles feeds (replay s entries)
unfolding replay IsLegal
settles-history feeds desks s [] legal settles = settles
settles-history feeds desks s (entry ∷ entries) (legal, rest) settles =
    settles-history feeds desks (after_entry s entry) entries rest
    (settles-event feeds desks s entry.actor entry.event legal settles)

-- nobody has ended at the start
settles-start : (feeds : ℕ) (start : State) → IsStart start → Settles feeds start
settles-start feeds start begins =
    let nobody : start.ended ≡ [] = ap (λ (s : State). s.ended) begins.nothing_yet in
    record {
      none_open = λ desk ended.
          absurd (cc (ap (list_any (λ (end : Actor × Ending). is_actor end.0 (Desk desk))) nobody, ended));
      whole = λ desk ended.
          absurd (cc (ap (list_any (λ (end : Actor × Ending). is_actor end.0 (Desk desk) && is_whole end.1)) nobody, ended));
    }

-- who has ended whole has ended
whole-ended : (actor : Actor) (ends : List (Actor × Ending))
    → list_any (λ (end : Actor × Ending). is_actor end.0 actor && is_whole end.1) ends ≡ true
    → list_any (λ (end : Actor × Ending). is_actor end.0 actor) ends ≡ true
whole-ended actor [] h = h
whole-ended actor (end ∷ ends) h =
    by_test (whole-ended actor ends) (is_actor end.0 actor) h
  where
    by_test : (list_any (λ (e : Actor × Ending). is_actor e.0 actor && is_whole e.1) ends ≡ true
        → list_any (λ (e : Actor × Ending). is_actor e.0 actor) ends ≡ true) → (b : Bool)
        → ((b && is_whole end.1) || list_any (λ (e : Actor × Ending). is_actor e.0 actor && is_whole e.1) ends) ≡ true
        → (b || list_any (λ (e : Actor × Ending). is_actor e.0 actor) ends) ≡ true
    by_test later true some = refl
    by_test later false some = later some

-- no batch is open, where each is of a desk that has none
none-open : (desks : ℕ) (s : State) (batches : List BatchCopy) → s.batches ≡ batches
    → ((b : BatchCopy) → Among b s.batches → IsNumbered desks b.desk)
    → ((desk : ℕ) → IsNumbered desks desk → open_batch_of s desk ≡ None) → batches ≡ []
none-open desks s [] are numbered none = refl
none-open desks s (b ∷ batches) are numbered none =
    absurd (cc (
      ap (λ t. cond t (Some b) (find (λ (x : BatchCopy). x.desk == b.desk) batches)) (eq-eqb b.desk b.desk refl),
      sym (ap (find (λ (x : BatchCopy). x.desk == b.desk)) are)
          ∙ none b.desk (numbered b (subst (Among b) (sym are) (inl refl))),
    ))

-- a list with an element that passes a test: what stands before it, it, and what stands after it
record Split {X : Type 0} (p : X → Bool) (xs : List X) : Type 0 where
  before : List X
  it : X
  after : List X
  is : xs ≡ before ++ it ∷ after
  passes : p it ≡ true

split : {X : Type 0} (p : X → Bool) (xs : List X) → list_any p xs ≡ true → Split p xs
split p [] h = absurd (cc h)
split {X} p (x ∷ xs) h = by_test (split p xs) (p x) refl h
  where
    by_test : (list_any p xs ≡ true → Split p xs) → (b : Bool) → p x ≡ b → (b || list_any p xs) ≡ true → Split p (x ∷ xs)
    by_test later true here some = record { before = []; it = x; after = xs; is = refl; passes = here }
    by_test later false not_here some =
        let rest = later some in
        record { before = x ∷ rest.before; it = rest.it; after = rest.after; is = ap (λ ys. x ∷ ys) rest.is; passes = rest.passes }

-- what is among the elements and passes is found by the test
any-among : {X : Type 0} (p : X → Bool) (xs : List X) (x : X) → Among x xs → p x ≡ true → list_any p xs ≡ true
any-among p [] x there passes = absurd there
any-among p (y ∷ ys) x (inl is) passes = ap (λ b. b || list_any p ys) (ap p is ∙ passes)
any-among p (y ∷ ys) x (inr there) passes = by_test (p y) (any-among p ys x there passes)
  where
    by_test : (b : Bool) → list_any p ys ≡ true → (b || list_any p ys) ≡ true
    by_test true later = refl
    by_test false later = later

among-middle : {X : Type 0} (before after : List X) (x : X) → Among x (before ++ x ∷ after)
among-middle [] after x = inl refl
among-middle (y ∷ ys) after x = inr (among-middle ys after x)

-- a batch that is given up legally is one of a desk of the history's
given_up-numbered : (feeds desks : ℕ) (s : State) (actor : Actor) (event : Event)
    → ((b : BatchCopy) → Among b s.batches → IsNumbered desks b.desk)
    → IsLegalEvent feeds desks s actor event → is_abandoned event ≡ true → (desk : ℕ) × (actor ≡ Desk desk) × IsNumbered desks desk
given_up-numbered feeds desks s (Desk n) (Abandoned number) numbered legal given_up = by_batch (open_batch_numbered s n number) refl legal
  where
    by_batch : (o : Option BatchCopy) → open_batch_numbered s n number ≡ o → IsSome o
        → (desk : ℕ) × (Desk n ≡ Desk desk) × IsNumbered desks desk
    by_batch None is some = absurd (cc some)
    by_batch (Some batch) is some =
        let at = open_batch s n number batch is in
        (n, refl, subst (IsNumbered desks) at.desk_is (numbered batch at.there))
given_up-numbered feeds desks s (Feed n) (Abandoned number) numbered legal given_up = absurd legal
given_up-numbered feeds desks s actor (Fed command reply) numbered legal given_up = absurd (cc given_up)
given_up-numbered feeds desks s actor (Finish ending) numbered legal given_up = absurd (cc given_up)
given_up-numbered feeds desks s actor (Opened number time requests plans) numbered legal given_up = absurd (cc given_up)
given_up-numbered feeds desks s actor (Committed number cost seats prices pays outcomes) numbered legal given_up = absurd (cc given_up)

-- each open batch of a legal history is of a desk of the history's
numbered-in : (feeds desks : ℕ) (start : State) (entries : List Entry) → IsStart start → IsLegal feeds desks start entries
    → (b : BatchCopy) → Among b (replay start entries).batches → IsNumbered desks b.desk
numbered-in feeds desks start entries begins legal b there =
    let s : State = replay start entries in
    let c : IsConsistent desks (fed_total entries) start s = consistent feeds desks start entries begins legal in
    (of_all (IsOpenBatch desks s) s.batches b c.batches_fit there).desk_in

-- no batch is given up, where no desk of the history's gives one up
none-given_up : (feeds desks : ℕ) (start : State) (entries : List Entry) → IsStart start → IsLegal feeds desks start entries
    → ((desk : ℕ) → IsNumbered desks desk → gives_up (entries_of (Desk desk) entries) ≡ false)
    → list_any (λ (entry : Entry). is_abandoned entry.event) entries ≡ false
unfolding IsLegal entries_of
none-given_up feeds desks start entries begins legal none =
    by_test (list_any (λ (entry : Entry). is_abandoned entry.event) entries) refl
  where
    by_test : (b : Bool) → list_any (λ (entry : Entry). is_abandoned entry.event) entries ≡ b → b ≡ false
    by_test false is = refl
    by_test true is =
        let parts = split (λ (entry : Entry). is_abandoned entry.event) entries is in
        let (first, here) = IsLegal-parts feeds desks start parts.before (parts.it ∷ parts.after)
        (subst (IsLegal feeds desks start) parts.is legal) in
        let (desk, desk_is, numbered) = given_up-numbered feeds desks (replay start parts.before) parts.it.actor parts.it.event
        (numbered-in feeds desks start parts.before begins first) here.0 parts.passes in
        let own : is_actor parts.it.actor (Desk desk) ≡ true
        = ap (λ actor. is_actor actor (Desk desk)) desk_is ∙ eq-eqb desk desk refl in
        let there : Among parts.it entries = subst (Among parts.it) (sym parts.is) (among-middle parts.before parts.after parts.it) in
        absurd (cc (
          none desk numbered,
          any-among (λ (entry : Entry). is_abandoned entry.event) (filter (λ (entry : Entry). is_actor entry.actor (Desk desk)) entries) parts.it
              (among_filter (λ (entry : Entry). is_actor entry.actor (Desk desk)) entries parts.it there own) parts.passes,
        ))

-- the law
pub whole-finished : (feeds desks : ℕ) (start : State) (entries : List Entry) → IsStart start → 1 ≤ desks → IsLegal feeds desks start entries
    → AllWhole feeds desks entries → IsFinished feeds desks start entries
whole-finished feeds desks start entries begins some legal all = record {
  feeds_whole = range_all (λ n. ended_whole s (Feed n)) 1 feeds (λ n low high. whole (Feed n) (all.feeds_whole n (low, omega arith)));
  desks_whole = range_all (λ n. ended_whole s (Desk n)) 1 desks (λ n low high. desk_whole n (low, omega arith));
  all_opened = (settles.whole 1 (desk_whole 1 (omega arith, some))).all_opened;
  none_open = none-open desks s s.batches refl (numbered-in feeds desks start entries begins legal)
      (λ desk numbered. settles.none_open desk (whole-ended (Desk desk) s.ended (desk_whole desk numbered)));
  none_given_up = none-given_up feeds desks start entries begins legal all.none_given_up;
}
  where
    s : State
    s = replay start entries

    settles : Settles feeds s
    settles = settles-history feeds desks start entries legal (settles-start feeds start begins)

    nobody : (actor : Actor) → ended_whole start actor ≡ false
    nobody actor =
        ap (λ (t : State). list_any (λ (end : Actor × Ending). is_actor end.0 actor && is_whole end.1) t.ended) begins.nothing_yet

    whole : (actor : Actor) → has_whole_end (entries_of actor entries) ≡ true → ended_whole s actor ≡ true
    whole actor own =
        whole-after actor start entries ∙ ap (λ b. b || has_whole_end (entries_of actor entries)) (nobody actor) ∙ own

    desk_whole : (desk : ℕ) → IsNumbered desks desk → ended_whole s (Desk desk) ≡ true
    desk_whole desk numbered = whole (Desk desk) (all.desks_whole desk numbered)
