-- Who has ended whole after a legal history, by his own part of it.
use Rattle.model_laws.proofs.Common.{◌≡◌, ℕ, true, false, ◌||◌, List, [], ◌∷◌, ◌++◌, refl, sym, ap, ◌∙◌, IsTrue, All, All-weaker, list_any-append, list_any_none, Feed, Ending, Whole, Cut, Entry, Event, Finish, entries_of, ended_whole, is_whole, replay, State, is_whole_end, has_whole_end, IsStart, is_fed}
use Rattle.model_laws.proofs.history_laws.Finished.{whole-after}
use Rattle.board_core.specs.Recorded.{end_entry}

-- answers to commands are no ends
fed-no-end : (event : Event) → IsTrue (is_fed event) → is_whole_end event ≡ false
fed-no-end (Finish ending) fed = absurd (cc fed)
fed-no-end event fed = refl

whole-of : (ending : Ending) → (is_whole ending || false) ≡ true → ending ≡ Whole
whole-of Whole is = refl
whole-of Cut is = absurd (cc is)

-- a feed that had not ended whole at a state, and has after entries, has a whole end in its part of them
pub ending-whole : (feed : ℕ) (s : State) (entries answers : List Entry) (ending : Ending) → ended_whole s (Feed feed) ≡ false
    → ended_whole (replay s entries) (Feed feed) ≡ true
    → entries_of (Feed feed) entries ≡ answers ++ end_entry (Feed feed) ending ∷ []
    → All (λ (entry : Entry). IsTrue (is_fed entry.event)) answers → ending ≡ Whole
ending-whole feed s entries answers ending nobody whole part fed =
    whole-of ending (
    sym (ap (λ b. b || (is_whole ending || false)) (list_any_none (λ (entry : Entry). is_whole_end entry.event) answers
    (All-weaker (λ (entry : Entry). IsTrue (is_fed entry.event)) (λ (entry : Entry). is_whole_end entry.event ≡ false)
    (λ (entry : Entry) is. fed-no-end entry.event is) answers fed)))
    ∙ sym (list_any-append (λ (entry : Entry). is_whole_end entry.event) answers (end_entry (Feed feed) ending ∷ []))
    ∙ ap has_whole_end (sym part)
    ∙ sym (ap (λ b. b || has_whole_end (entries_of (Feed feed) entries)) nobody)
    ∙ sym (whole-after (Feed feed) s entries)
    ∙ whole
    )

-- nobody has ended whole at a start
pub nobody-whole : (feed : ℕ) (start : State) → IsStart start → ended_whole start (Feed feed) ≡ false
nobody-whole feed start begins = ap (λ (t : State). ended_whole t (Feed feed)) begins.nothing_yet
