-- What the entries of others leave as it was, and what stays once no batch is to come.
use Rattle.model_laws.proofs.Common.{◌≡◌, ℕ, ◌+◌, ◌<◌, ◌≤◌, Bool, true, false, ◌||◌, ◌&&◌, not, cond, List, [], ◌∷◌, ◌++◌, Option, Some, None, eqb, refl, sym, ap, subst, ◌∙◌, zero, suc, ltb-true, arith, find, ◌==◌, nat_lt, is_some, filter, list_any, list_all, range_with_len, eqb-true, and_from, and_parts, list_any-append, or-false, Actor, Feed, Desk, Ending, Entry, Event, Fed, Finish, Opened, Committed, Abandoned, may_open, entries_of, after_event, after_entry, replay, IsLegal, IsLegalEvent, IsNumbered, all_feeds_ended, BatchCopy, State, is_actor, has_ended, open_batch_of, is_fed}
use Rattle.model_laws.proofs.plain.Numbers.{eqb-comm}
use Rattle.model_laws.proofs.history_laws.Effects.{ends_in, is_opened, Effect, effect}

-- the same with the two actors in turn
pub is_actor-comm : (a b : Actor) → is_actor a b ≡ is_actor b a
is_actor-comm (Feed a) (Feed b) = eqb-comm a b
is_actor-comm (Desk a) (Desk b) = eqb-comm a b
is_actor-comm (Feed a) (Desk b) = refl
is_actor-comm (Desk a) (Feed b) = refl

-- a filter that keeps nothing
pub record KeepsNone {X : Type 0} (p : X → Bool) (x : X) (xs : List X) : Type 0 where
  pub fails : p x ≡ false
  pub rest : filter p xs ≡ []

pub keeps_none : {X : Type 0} (p : X → Bool) (x : X) (xs : List X) → filter p (x ∷ xs) ≡ [] → KeepsNone p x xs
keeps_none {X} p x xs none = by_test (p x) refl none
  where
    by_test : (b : Bool) → p x ≡ b → cond b (x ∷ filter p xs) (filter p xs) ≡ [] → KeepsNone p x xs
    by_test true is some = absurd (cc some)
    by_test false is none = record { fails = is; rest = none }

-- an actor that ends is no other
others_end : (actor other : Actor) (event : Event) → is_actor actor other ≡ false
    → list_any (λ (end : Actor × Ending). is_actor end.0 other) (ends_in actor event) ≡ false
others_end actor other (Finish ending) apart = ap (λ b. b || false) apart
others_end actor other (Fed command reply) apart = refl
others_end actor other (Opened a b c d) apart = refl
others_end actor other (Committed a b c d e f) apart = refl
others_end actor other (Abandoned a) apart = refl

-- whether an actor has ended, after an event of another
pub ended-other : (s : State) (actor other : Actor) (event : Event) → is_actor actor other ≡ false
    → has_ended (after_event s actor event) other ≡ has_ended s other
ended-other s actor other event apart =
    let test = λ (end : Actor × Ending). is_actor end.0 other in
    ap (list_any test) (effect s actor event).ended
    ∙ list_any-append test s.ended (ends_in actor event)
    ∙ ap (λ b. has_ended s other || b) (others_end actor other event apart)
    ∙ or-false (has_ended s other)

-- whether an actor has ended, after an event that is no end
pub ended-same : (s : State) (actor other : Actor) (event : Event) → ends_in actor event ≡ []
    → has_ended (after_event s actor event) other ≡ has_ended s other
ended-same s actor other event no_end =
    let test = λ (end : Actor × Ending). is_actor end.0 other in
    ap (list_any test) (effect s actor event).ended
    ∙ list_any-append test s.ended (ends_in actor event)
    ∙ ap (λ ends. has_ended s other || list_any test ends) no_end
    ∙ or-false (has_ended s other)

-- whether it has ended after entries of others
pub ended-others : (actor : Actor) (s : State) (entries : List Entry) → entries_of actor entries ≡ []
    → has_ended (replay s entries) actor ≡ has_ended s actor
unfolding replay entries_of
ended-others actor s [] none = refl
ended-others actor s (entry ∷ entries) none =
    let is = keeps_none (λ (e : Entry). is_actor e.actor actor) entry entries none in
    ended-others actor (after_entry s entry) entries is.rest ∙ ended-other s entry.actor actor entry.event is.fails

-- a batch of a desk that is found, after entries of others
pub found-others : (desk : ℕ) (p : BatchCopy → Bool) → ((b : BatchCopy) → p b ≡ true → b.desk ≡ desk) → (s : State) (entries : List Entry)
    → entries_of (Desk desk) entries ≡ [] → find p (replay s entries).batches ≡ find p s.batches
unfolding replay entries_of
found-others desk p only s [] none = refl
found-others desk p only s (entry ∷ entries) none =
    let is = keeps_none (λ (e : Entry). is_actor e.actor (Desk desk)) entry entries none in
    let apart : is_actor (Desk desk) entry.actor ≡ false = is_actor-comm (Desk desk) entry.actor ∙ is.fails in
    found-others desk p only (after_entry s entry) entries is.rest
    ∙ (effect s entry.actor entry.event).others p
    (λ b passes. subst (λ d. is_actor (Desk d) entry.actor ≡ false) (sym (only b passes)) apart)

-- the open batch of a desk, after entries of others
pub open_batch-others : (desk : ℕ) (s : State) (entries : List Entry) → entries_of (Desk desk) entries ≡ []
    → open_batch_of (replay s entries) desk ≡ open_batch_of s desk
open_batch-others desk s entries none =
    found-others desk (λ (b : BatchCopy). b.desk == desk) (λ b passes. eqb-true b.desk desk passes) s entries none

-- no batch is to come: as many were opened as asked for, and no feed can ask for more
pub record NoneToCome (feeds : ℕ) (s : State) : Type 0 where
  pub all_opened : s.opened ≡ s.asked
  pub all_ended : all_feeds_ended feeds s ≡ true

-- what holds of all numbers of a range holds of each
pub in_range : (p : ℕ → Bool) (from many n : ℕ) → list_all p (range_with_len from many) ≡ true → from ≤ n → n < from + many → p n ≡ true
in_range p from zero n all low high = absurd (omega (arith, low, high))
in_range p from (suc many) n all low high =
    let (first, rest) = and_parts (p from) (list_all p (range_with_len (from + 1) many)) all in
    by_test first (λ above. in_range p (from + 1) many n rest above (omega (arith, high))) (eqb n from) refl
  where
    above : (a b : ℕ) → eqb a b ≡ false → b ≤ a → b + 1 ≤ a
    above a b apart le = grind arith

    by_test : p from ≡ true → (from + 1 ≤ n → p n ≡ true) → (b : Bool) → eqb n from ≡ b → p n ≡ true
    by_test first later true is = subst (λ k. p k ≡ true) (sym (eqb-true n from is)) first
    by_test first later false is = later (above n from is low)

-- and what holds of each holds of all
pub range_all : (p : ℕ → Bool) (from many : ℕ) → ((n : ℕ) → from ≤ n → n < from + many → p n ≡ true)
    → list_all p (range_with_len from many) ≡ true
range_all p from zero each = refl
range_all p from (suc many) each =
    and_from (p from) (list_all p (range_with_len (from + 1) many)) (each from (omega arith) (omega arith))
    (range_all p (from + 1) many (λ n low high. each n (omega arith) (omega arith)))

-- a feed of so many has ended, where all have
pub feed-ended : (feeds feed : ℕ) (s : State) → all_feeds_ended feeds s ≡ true → IsNumbered feeds feed → has_ended s (Feed feed) ≡ true
feed-ended feeds feed s all (low, high) = in_range (λ n. has_ended s (Feed n)) 1 feeds feed all low (omega (arith, high))

-- who has ended has ended after any event
pub ended-stays : (s : State) (actor other : Actor) (event : Event) → has_ended s other ≡ true
    → has_ended (after_event s actor event) other ≡ true
ended-stays s actor other event ended =
    let test = λ (end : Actor × Ending). is_actor end.0 other in
    ap (list_any test) (effect s actor event).ended
    ∙ list_any-append test s.ended (ends_in actor event)
    ∙ ap (λ b. b || list_any test (ends_in actor event)) ended

-- all feeds have ended after any event, where they had
feeds-stay : (feeds : ℕ) (s : State) (actor : Actor) (event : Event) → all_feeds_ended feeds s ≡ true
    → all_feeds_ended feeds (after_event s actor event) ≡ true
feeds-stay feeds s actor event all =
    range_all (λ n. has_ended (after_event s actor event) (Feed n)) 1 feeds
    (λ n low high. ended-stays s actor (Feed n) event (in_range (λ k. has_ended s (Feed k)) 1 feeds n all low high))

-- no batch comes, where none is to come
pub none_to_come-event : (feeds desks : ℕ) (s : State) (actor : Actor) (event : Event) → IsLegalEvent feeds desks s actor event
    → NoneToCome feeds s → NoneToCome feeds (after_event s actor event)
none_to_come-event feeds desks s actor event legal none =
    by_case actor event legal (by_effect actor event)
  where
    by_effect : (actor : Actor) (event : Event) → is_opened event ≡ false → is_fed event ≡ false
        → NoneToCome feeds (after_event s actor event)
    by_effect actor event closed told = record {
      all_opened = (effect s actor event).opened closed ∙ none.all_opened ∙ sym ((effect s actor event).asked told);
      all_ended = feeds-stay feeds s actor event none.all_ended;
    }

    by_case : (actor : Actor) (event : Event) → IsLegalEvent feeds desks s actor event
        → (is_opened event ≡ false → is_fed event ≡ false → NoneToCome feeds (after_event s actor event))
        → NoneToCome feeds (after_event s actor event)
    by_case (Feed n) (Fed command reply) (numbered, lives, reply_is) go =
        absurd (cc (lives, feed-ended feeds n s none.all_ended numbered))
    by_case (Feed n) (Finish ending) legal go = go refl refl
    by_case (Desk n) (Finish ending) legal go = go refl refl
    by_case (Desk n) (Opened number time requests plans) (numbered, may, names) go =
        let (others, fewer) = and_parts (not (has_ended s (Desk n)) && not (is_some (open_batch_of s n))) (nat_lt s.opened s.asked) may in
        let below : s.opened < s.asked = ltb-true s.opened s.asked fewer in
        absurd (omega (arith, below, none.all_opened))
    by_case (Desk n) (Committed number cost seats prices pays outcomes) legal go = go refl refl
    by_case (Desk n) (Abandoned number) legal go = go refl refl
    by_case (Desk n) (Fed command reply) legal go = absurd legal
    by_case (Feed n) (Opened number time requests plans) legal go = absurd legal
    by_case (Feed n) (Committed number cost seats prices pays outcomes) legal go = absurd legal
    by_case (Feed n) (Abandoned number) legal go = absurd legal

-- and none comes after any entries
pub none_to_come : (feeds desks : ℕ) (s : State) (entries : List Entry) → IsLegal feeds desks s entries → NoneToCome feeds s
    → NoneToCome feeds (replay s entries)
unfolding replay IsLegal
none_to_come feeds desks s [] legal none = none
none_to_come feeds desks s (entry ∷ entries) (legal, rest) none =
    none_to_come feeds desks (after_entry s entry) entries rest
    (none_to_come-event feeds desks s entry.actor entry.event legal none)
