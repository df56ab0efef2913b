-- The commands that a history answers.
use Rattle.board_core.proofs.Common.{◌≡◌, ℕ, ◌+◌, ◌<◌, ◌≤◌, inl, inr, Bool, true, false, cond, List, [], ◌∷◌, ◌++◌, length, eqb, refl, ◌∙◌, ap, subst, length-append, arith, filter_map, filter, eq-eqb, eqb-true, sum_by-cons, filter-append, filter_map-append, All-push, one_of_two, Actor, Feed, Desk, Command, Entry, Event, Fed, Finish, Opened, Committed, Abandoned, Reply, entries_of, command_of, fed_commands, after_entry, IsLegal, IsLegalEvent, State, is_actor, is_fed, fed_total, IsFedSpelled, IsFedWithin}

-- the commands of a feed in two parts of a history
pub fed_commands-append : (feed : ℕ) (first second : List Entry)
    → fed_commands feed (first ++ second) ≡ fed_commands feed first ++ fed_commands feed second
unfolding entries_of
fed_commands-append feed first second =
    ap (filter_map (λ (entry : Entry). command_of entry.event)) (filter-append (λ (entry : Entry). is_actor entry.actor (Feed feed)) first second)
    ∙ filter_map-append (λ (entry : Entry). command_of entry.event) (filter (λ (entry : Entry). is_actor entry.actor (Feed feed)) first)
    (filter (λ (entry : Entry). is_actor entry.actor (Feed feed)) second)

-- the command of a legal entry is one of the first feed or of the second
fed-of_two : (feeds desks : ℕ) (s : State) (actor : Actor) (event : Event) → feeds ≤ 2 → IsLegalEvent feeds desks s actor event
    → cond (is_fed event) 1 0
    ≤ length (fed_commands 1 (record { actor = actor; event = event } ∷ [])) + length (fed_commands 2 (record { actor = actor; event = event } ∷ []))
unfolding entries_of
fed-of_two feeds desks s (Feed feed) (Fed command reply) few ((low, high), _, _) =
    elim (one_of_two feed low (omega arith)) [
      | inl is ↦ omega (arith, one (eqb feed 1) (eq-eqb feed 1 is))
      | inr is ↦ omega (arith, one (eqb feed 2) (eq-eqb feed 2 is))
    ]
  where
    one : (b : Bool) → b ≡ true
        → 1 ≤ length (filter_map (λ (entry : Entry). command_of entry.event) (cond b (record { actor = Feed feed; event = Fed command reply } ∷ []) []))
    one true h = omega arith
    one false h = absurd (cc h)
fed-of_two feeds desks s (Desk desk) (Fed command reply) few legal = absurd legal
fed-of_two feeds desks s actor (Finish ending) few legal = omega arith
fed-of_two feeds desks s actor (Opened number time requests plans) few legal = omega arith
fed-of_two feeds desks s actor (Committed number cost seats prices pays outcomes) few legal = omega arith
fed-of_two feeds desks s actor (Abandoned number) few legal = omega arith

-- the commands of a legal history are those of the first feed and of the second
pub fed_total-le : (feeds desks : ℕ) (s : State) (entries : List Entry) → feeds ≤ 2 → IsLegal feeds desks s entries
    → fed_total entries ≤ length (fed_commands 1 entries) + length (fed_commands 2 entries)
unfolding IsLegal
fed_total-le feeds desks s [] few legal = omega arith
fed_total-le feeds desks s (entry ∷ entries) few (legal, rest) =
    omega (
      arith,
      fed-of_two feeds desks s entry.actor entry.event few legal,
      fed_total-le feeds desks (after_entry s entry) entries few rest,
      sum_by-cons (λ (e : Entry). cond (is_fed e.event) 1 0) entry entries,
      ap length (fed_commands-append 1 (entry ∷ []) entries),
      ap length (fed_commands-append 2 (entry ∷ []) entries),
      length-append (fed_commands 1 (entry ∷ [])) (fed_commands 1 entries),
      length-append (fed_commands 2 (entry ∷ [])) (fed_commands 2 entries),
    )

-- an entry that is no command's leaves the commands within their limits
pub within-push : (log : ℕ) (entries : List Entry) (entry : Entry) → IsFedWithin log entries → IsFedSpelled log entry.event
    → ((feed : ℕ) → length (fed_commands feed entries) + length (fed_commands feed (entry ∷ [])) ≤ 1000000000)
    → IsFedWithin log (entries ++ entry ∷ [])
within-push log entries entry within spelled few = record {
  spelled = All-push (λ (e : Entry). IsFedSpelled log e.event) entries entry within.spelled spelled;
  few = λ feed.
      omega (
        arith,
        few feed,
        ap length (fed_commands-append feed entries (entry ∷ [])),
        length-append (fed_commands feed entries) (fed_commands feed (entry ∷ [])),
      );
}

-- the commands of one entry of a feed
pub few-of_feed : (entries : List Entry) (feed : ℕ) (command : Command) (reply : Reply) → ((q : ℕ) → length (fed_commands q entries) ≤ 1000000000)
    → length (fed_commands feed entries) < 1000000000 → (other : ℕ)
    → length (fed_commands other entries) + length (fed_commands other (record { actor = Feed feed; event = Fed command reply } ∷ [])) ≤ 1000000000
unfolding entries_of
few-of_feed entries feed command reply few below other = by_test (eqb feed other) refl
  where
    by_test : (b : Bool) → eqb feed other ≡ b
        → length (fed_commands other entries)
        + length (filter_map (λ (entry : Entry). command_of entry.event) (cond b (record { actor = Feed feed; event = Fed command reply } ∷ []) []))
        ≤ 1000000000
    by_test true is = omega (arith, subst (λ q. length (fed_commands q entries) < 1000000000) (eqb-true feed other is) below)
    by_test false is = omega (arith, few other)

-- an event that is no command's has none
pub none-of_others : (entry : Entry) → is_fed entry.event ≡ false → (feed : ℕ) → length (fed_commands feed (entry ∷ [])) ≡ 0
unfolding entries_of
none-of_others entry is feed = by_test (is_actor entry.actor (Feed feed))
  where
    by_event : (event : Event) → is_fed event ≡ false → length (filter_map (λ (e : Entry). command_of e.event) (record entry { event = event } ∷ [])) ≡ 0
    by_event (Fed command reply) h = absurd (cc h)
    by_event (Finish ending) h = refl
    by_event (Opened number time requests plans) h = refl
    by_event (Committed number cost seats prices pays outcomes) h = refl
    by_event (Abandoned number) h = refl

    by_test : (b : Bool) → length (filter_map (λ (e : Entry). command_of e.event) (cond b (entry ∷ []) [])) ≡ 0
    by_test true = by_event entry.event is
    by_test false = refl
