-- The commands of a history are those of its feeds.
use Rattle.trip_log.proofs.Common.{◌≡◌, ℕ, ◌+◌, ◌*◌, ◌≤◌, Bool, true, false, cond, inl, inr, List, [], ◌∷◌, length, refl, sym, subst, arith, filter_map, filter, sum_by-cons, one_of_two, Actor, Feed, Desk, Entry, Event, Fed, Finish, Opened, Committed, Abandoned, entries_of, command_of, fed_commands, IsLegal, IsLegalEvent, IsNumbered, after_entry, State, is_actor, IsOneOrTwo, fed_total, fed_in}

-- how many commands of a feed an event answers
abbrev fed_of : ℕ → Actor → Event → ℕ
fed_of feed actor event = cond (is_actor actor (Feed feed)) (fed_in event) 0

-- one entry more
one-more : (feed : ℕ) (entry : Entry) (entries : List Entry)
    → length (fed_commands feed (entry ∷ entries)) ≡ fed_of feed entry.actor entry.event + length (fed_commands feed entries)
unfolding entries_of
one-more feed entry entries = by_tests (is_actor entry.actor (Feed feed)) entry.event refl
  where
    others : List Entry
    others = filter (λ (e : Entry). is_actor e.actor (Feed feed)) entries

    by_tests : (b : Bool) (event : Event) → entry.event ≡ event
        → length (filter_map (λ (e : Entry). command_of e.event) (cond b (entry ∷ others) others))
        ≡ cond b (fed_in event) 0 + length (filter_map (λ (e : Entry). command_of e.event) others)
    by_tests false event is = omega arith
    by_tests true (Fed command reply) is = rw is (omega arith)
    by_tests true (Finish ending) is = rw is (omega arith)
    by_tests true (Opened batch time requests plans) is = rw is (omega arith)
    by_tests true (Committed batch cost seats prices pays outcomes) is = rw is (omega arith)
    by_tests true (Abandoned batch) is = rw is (omega arith)

-- an event that answers no command is of no feed
nothing-of : (b : Bool) (none : ℕ) → none ≡ 0 → cond b none 0 ≡ 0
nothing-of true none is = is
nothing-of false none is = refl

of-none : (feed : ℕ) (actor : Actor) (event : Event) → fed_in event ≡ 0 → fed_of feed actor event ≡ 0
of-none feed actor event none = nothing-of (is_actor actor (Feed feed)) (fed_in event) none

-- a command is of one of the feeds
of-feed : (desks : ℕ) (s : State) (actor : Actor) (event : Event) → IsLegalEvent 1 desks s actor event → fed_in event ≡ fed_of 1 actor event
of-feed desks s (Feed feed) (Fed command reply) ((low, high), lives, reply_is) =
    let is : feed ≡ 1 = omega (arith, low, high) in rw is refl
of-feed desks s (Desk desk) (Fed command reply) legal = absurd legal
of-feed desks s actor (Finish ending) legal = sym (of-none 1 actor (Finish ending) refl)
of-feed desks s actor (Opened batch time requests plans) legal = sym (of-none 1 actor (Opened batch time requests plans) refl)
of-feed desks s actor (Committed batch cost seats prices pays outcomes) legal = sym (of-none 1 actor (Committed batch cost seats prices pays outcomes) refl)
of-feed desks s actor (Abandoned batch) legal = sym (of-none 1 actor (Abandoned batch) refl)

of-feeds : (desks : ℕ) (s : State) (actor : Actor) (event : Event) → IsLegalEvent 2 desks s actor event
    → fed_in event ≡ fed_of 1 actor event + fed_of 2 actor event
of-feeds desks s (Feed feed) (Fed command reply) ((low, high), lives, reply_is) =
    elim (one_of_two feed low high) [
      | inl is ↦ rw is refl
      | inr is ↦ rw is refl
    ]
of-feeds desks s (Desk desk) (Fed command reply) legal = absurd legal
of-feeds desks s actor (Finish ending) legal =
    omega (arith, of-none 1 actor (Finish ending) refl, of-none 2 actor (Finish ending) refl)
of-feeds desks s actor (Opened batch time requests plans) legal =
    omega (arith, of-none 1 actor (Opened batch time requests plans) refl, of-none 2 actor (Opened batch time requests plans) refl)
of-feeds desks s actor (Committed batch cost seats prices pays outcomes) legal =
    omega (arith, of-none 1 actor (Committed batch cost seats prices pays outcomes) refl, of-none 2 actor (Committed batch cost seats prices pays outcomes) refl)
of-feeds desks s actor (Abandoned batch) legal =
    omega (arith, of-none 1 actor (Abandoned batch) refl, of-none 2 actor (Abandoned batch) refl)

pub of-one_feed : (desks : ℕ) (s : State) (entries : List Entry) → IsLegal 1 desks s entries → fed_total entries ≡ length (fed_commands 1 entries)
unfolding IsLegal entries_of
of-one_feed desks s [] legal = refl
of-one_feed desks s (entry ∷ entries) (legal, rest) =
    omega (
      arith,
      of-feed desks s entry.actor entry.event legal,
      of-one_feed desks (after_entry s entry) entries rest,
      one-more 1 entry entries,
      sum_by-cons (λ (e : Entry). fed_in e.event) entry entries,
    )

pub of-two_feeds : (desks : ℕ) (s : State) (entries : List Entry) → IsLegal 2 desks s entries
    → fed_total entries ≡ length (fed_commands 1 entries) + length (fed_commands 2 entries)
unfolding IsLegal entries_of
of-two_feeds desks s [] legal = refl
of-two_feeds desks s (entry ∷ entries) (legal, rest) =
    omega (
      arith,
      of-feeds desks s entry.actor entry.event legal,
      of-two_feeds desks (after_entry s entry) entries rest,
      one-more 1 entry entries,
      one-more 2 entry entries,
      sum_by-cons (λ (e : Entry). fed_in e.event) entry entries,
    )

-- where each feed gave so many at most
pub few-fed : (feeds desks most : ℕ) (s : State) (entries : List Entry) → IsOneOrTwo feeds → IsLegal feeds desks s entries
    → ((feed : ℕ) → IsNumbered feeds feed → length (fed_commands feed entries) ≤ most) → fed_total entries ≤ 2 * most
few-fed feeds desks most s entries fits legal few = elim (one_of_two feeds fits.0 fits.1) [
  | inl is ↦
      omega (
        arith,
        of-one_feed desks s entries (subst (λ n. IsLegal n desks s entries) is legal),
        few 1 (omega arith, omega (arith, is)),
      )
  | inr is ↦
      omega (
        arith,
        of-two_feeds desks s entries (subst (λ n. IsLegal n desks s entries) is legal),
        few 1 (omega arith, omega (arith, is)),
        few 2 (omega arith, omega (arith, is)),
      )
]
