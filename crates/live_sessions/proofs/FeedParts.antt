-- What a feed's loop leaves of the history: its answers and its end.
use Rattle.live_sessions.proofs.Common.{◌≡◌, ℕ, ◌≤◌, ◌-◌, true, false, cond, ◌||◌, ◌⊎◌, inl, inr, List, [], ◌∷◌, ◌++◌, sym, ap, subst, ◌∙◌, append_assoc, append-nil, arith, nat_le, append_cancel_left, filter_map-append, list_any-append, or-true, cases_Bool, Actor, Feed, Desk, Command, Ending, Whole, Cut, Entry, command_of, entries_of, fed_commands, IsOneOrTwo, Ran, KeepsCount, Rose, entries-append, IsTooLong, FeedForm, ended_commands, limits_of, has_whole_end, is_whole_end, end_entry, Known, actor_of, commands_in, IsPartOf, HasFed, RunsFeed, IsReadWhole, FeedRun, IsFeedOf}
use Rattle.command_lines.specs.Feeds.{IsWhole}
use Rattle.session_loops.specs.Stops.{AreFirstOf}

-- a feed was read whole, or something of it kept it from that
read_whole : (ran : Ran) → IsReadWhole ran ⊎ ((ran.source_failed ≡ true) ⊎ (ran.too_long ≡ true))
read_whole ran = elim (cases_Bool ran.source_failed) [
  | inl failed ↦ inr (inl failed)
  | inr sound ↦ elim (cases_Bool ran.too_long) [
    | inl long ↦ inr (inr long)
    | inr short ↦ inl (sound, short)
  ]
]

-- which is not that it was read whole
not_whole : (ran : Ran) → (ran.source_failed ≡ true) ⊎ (ran.too_long ≡ true) → IsReadWhole ran → ⊥
not_whole ran (inl failed) (sound, short) = absurd (cc (failed, sound))
not_whole ran (inr long) (sound, short) = absurd (cc (long, short))

-- an end is no command
pub commands-ended : (answers : List Entry) (actor : Actor) (ending : Ending) → commands_in (answers ++ end_entry actor ending ∷ []) ≡ commands_in answers
commands-ended answers actor ending =
    filter_map-append (λ (entry : Entry). command_of entry.event) answers (end_entry actor ending ∷ []) ∙ append-nil (commands_in answers)

-- a part that ends whole has a whole end
pub ends-whole : (made : List Entry) (actor : Actor) (ending : Ending) → ending ≡ Whole → has_whole_end (made ++ end_entry actor ending ∷ []) ≡ true
ends-whole made actor ending whole =
    list_any-append (λ (entry : Entry). is_whole_end entry.event) made (end_entry actor ending ∷ [])
    ∙ ap (λ (e : Ending). has_whole_end made || has_whole_end (end_entry actor e ∷ [])) whole ∙ or-true (has_whole_end made)

-- a feed's actor
feed-actor : (n : ℕ) → IsOneOrTwo n → actor_of n ≡ Feed n
feed-actor n (low, high) = ap (λ b. cond b (Feed n) (Desk (n - 2))) (small n high)
  where
    small : (m : ℕ) → m ≤ 2 → nat_le m 2 ≡ true
    small m h = grind arith

-- what entries after others have of an actor, by what they have of it together
pub part-after : (actor : Actor) (before more made : List Entry) → entries_of actor (before ++ more) ≡ entries_of actor before ++ made
    → entries_of actor more ≡ made
part-after actor before more made whole =
    append_cancel_left (entries_of actor before) (entries_of actor more) made (sym (entries-append actor before more) ∙ whole)

-- what the entries that a session adds have of a feed
pub record FeedOf (form : FeedForm) (feed : ℕ) (run : FeedRun) (own session : Ran) (more : List Entry) : Type 0 where
  pub taken : List ℕ
  pub is : IsFeedOf form feed run session taken more
  pub too_long : own.too_long ≡ true → IsTooLong (limits_of form.lines) taken
  pub ends_whole : own.no_memory ≡ false → IsReadWhole own → has_whole_end (entries_of (Feed feed) more) ≡ true

module _ (form : FeedForm) (run : FeedRun) (own : Ran) (taken : List ℕ) (answers : List Entry) (ending : Ending)
    (fed : HasFed form run.bytes run.left own taken answers ending) where
  -- a feed that ended whole was read whole, and memory was not wanting
  whole-read : ending ≡ Whole → (own.no_memory ≡ false) × IsReadWhole own
  whole-read whole = elim (cases_Bool own.no_memory) [
    | inl wanting ↦ absurd (cc (fed.wanting wanting, whole))
    | inr memory ↦ elim (read_whole own) [
      | inl read ↦ (memory, read)
      | inr kept ↦ absurd (cc ((fed.cut memory (not_whole own kept)).0, whole))
    ]
  ]

  -- one that was cut without want of memory was kept from it by its source
  cut-kept : own.no_memory ≡ false → ending ≡ Cut
      → (commands_in answers ≡ ended_commands form taken) × ((own.source_failed ≡ true) ⊎ (own.too_long ≡ true))
  cut-kept memory cut = elim (read_whole own) [
    | inl read ↦ absurd (cc ((fed.whole memory read).0, cut))
    | inr kept ↦ ((fed.cut memory (not_whole own kept)).1, kept)
  ]

pub feed-of : (form : FeedForm) (feed : ℕ) (run : FeedRun) (own session : Ran) (before more : List Entry) (old new : Known)
    → IsOneOrTwo feed → old.number ≡ feed → old.own ≡ entries_of (Feed feed) before
    → RunsFeed form run.bytes run.left own old new → IsPartOf (before ++ more) (Feed feed) new
    → KeepsCount own.source_failed run.faults_before run.faults_after
    → (session.no_memory ≡ false → own.no_memory ≡ false) → FeedOf form feed run own session more
feed-of form feed run own session before more old new fits number own_is runs its kept memory =
    record {
      taken = runs.taken;
      is = record {
        reads = runs.fed.reads;
        answers = runs.answers;
        ending = runs.ending;
        part = part;
        fed = runs.fed.fed;
        first = subst (λ (cs : List Command). AreFirstOf form run.bytes runs.taken cs) (sym commands) runs.fed.first;
        whole = λ whole.
            let (wants_none, read) = whole-read form run own runs.taken runs.answers runs.ending runs.fed whole in (
              subst (λ (cs : List Command). IsWhole form run.left cs runs.taken) (sym commands) (runs.fed.whole wants_none read).1,
              kept.stays read.0,
            );
        cut = λ wants_none cut.
            let (are, cause) = cut-kept form run own runs.taken runs.answers runs.ending runs.fed (memory wants_none) cut in
            (commands ∙ are, by_cause cause);
      };
      too_long = runs.fed.too_long;
      ends_whole = λ wants_none read. ap has_whole_end part
          ∙ ends-whole runs.answers (Feed feed) runs.ending (runs.fed.whole wants_none read).0;
    }
  where
    earlier : List Entry
    earlier = entries_of (Feed feed) before

    part : entries_of (Feed feed) more ≡ runs.answers ++ end_entry (Feed feed) runs.ending ∷ []
    part = part-after (Feed feed) before more (runs.answers ++ end_entry (Feed feed) runs.ending ∷ [])
        (sym its.own_all ∙ runs.ends.own_is
        ∙ ap (λ (o : List Entry). (o ++ runs.answers) ++ end_entry (actor_of old.number) runs.ending ∷ []) own_is
        ∙ ap (λ (n : ℕ). (earlier ++ runs.answers) ++ end_entry (actor_of n) runs.ending ∷ []) number
        ∙ ap (λ (actor : Actor). (earlier ++ runs.answers) ++ end_entry actor runs.ending ∷ []) (feed-actor feed fits)
        ∙ append_assoc earlier runs.answers (end_entry (Feed feed) runs.ending ∷ []))

    commands : fed_commands feed more ≡ commands_in runs.answers
    commands = ap commands_in part ∙ commands-ended runs.answers (Feed feed) runs.ending

    by_cause : (own.source_failed ≡ true) ⊎ (own.too_long ≡ true) → Rose run.faults_before run.faults_after ⊎ IsTooLong (limits_of form.lines) runs.taken
    by_cause (inl failed) = inl (kept.rose failed)
    by_cause (inr long) = inr (runs.fed.too_long long)
