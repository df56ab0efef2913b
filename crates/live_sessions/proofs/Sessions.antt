-- What a session gives, by what its actors' loops and its log say.
use Rattle.live_sessions.proofs.Common.{◌≡◌, ℕ, ◌≤◌, true, false, inl, inr, List, [], ◌++◌, length, take, drop, Option, sym, ap, subst, ◌∙◌, take-append-drop, take-append-le, IsPrefix, Feed, Desk, Entry, entries_of, IsLegal, IsNumbered, State, HasText, entry_lines, head_line, text_of, Ran, has_whole_end, IsStart, HasPut, OutputState, written-prefix, written-whole, IsReadWhole, HasServed, IsWrittenOut}
use Rattle.model_laws.proofs.plain.Numbers.{one_of_two}
use Rattle.model_laws.proofs.history_laws.Finished.{whole-finished}
use Rattle.model_laws.proofs.history_laws.KeptHistory.{keeps_promises}
use Rattle.live_sessions.proofs.DeskParts.{DeskWhole, none-given_up, part-whole}
use Rattle.session_loops.proofs.LogLemmas.{text_of-append}

-- one of at most two is the first or the second
pub first-or-second : (P : ℕ → Type 0) (n : ℕ) → P 1 → P 2 → 1 ≤ n → n ≤ 2 → P n
first-or-second P n first second low high = elim (one_of_two n low high) [
  | inl is ↦ subst P (sym is) first
  | inr is ↦ subst P (sym is) second
]

-- a session's history keeps its promises, and is finished where nothing was wanting
pub served : (start : State) (feeds desks : ℕ) (ran : Ran) (entries : List Entry) → IsStart start → IsLegal feeds desks start entries
    → HasText start.settings.log feeds desks entries
    → (ran.no_memory ≡ false → (desk : ℕ) → IsNumbered desks desk → DeskWhole desk entries)
    → (ran.no_memory ≡ false → IsReadWhole ran → (feed : ℕ) → IsNumbered feeds feed → has_whole_end (entries_of (Feed feed) entries) ≡ true)
    → HasServed start feeds desks ran entries
served start feeds desks ran entries begins legal text desks_whole feeds_whole = record {
  begins = begins;
  legal = legal;
  text = text;
  promises = keeps_promises feeds desks start entries begins legal;
  desks_whole = λ memory desk fits. part-whole start entries (Desk desk) (desks_whole memory desk fits).whole;
  none_given_up = λ memory.
      none-given_up feeds desks start [] entries begins legal (λ desk fits. (desks_whole memory desk fits).none_given_up);
  finished = λ memory read. whole-finished feeds desks start entries begins text.desks_number.0 legal (record {
    feeds_whole = feeds_whole memory read;
    desks_whole = λ desk fits. (desks_whole memory desk fits).whole;
    none_given_up = λ desk fits. (desks_whole memory desk fits).none_given_up;
  });
}

-- the head, what a scribe wrote of what it had seen, and the rest are the text of the history
pub text-joined : (log feeds desks count : ℕ) (seen history : List Entry) → IsPrefix seen history → count ≤ length seen
    → (head_line log feeds desks ++ entry_lines log (take count seen)) ++ entry_lines log (drop count history) ≡ text_of log feeds desks history
unfolding text_of
text-joined log feeds desks count seen history (more, is) within =
    (λ i. (head_line log feeds desks ++ entry_lines log (first i)) ++ entry_lines log (drop count history))
    ∙ sym (text_of-append log feeds desks (take count history) (drop count history))
    ∙ ap (text_of log feeds desks) (take-append-drop count history)
  where
    first : take count seen ≡ take count history
    first = sym (ap (take count) (sym is) ∙ take-append-le count seen more within)

-- the log was written
pub written-out : (ran : Ran) (before now : Option (List ℕ)) (faults m : ℕ) (output : OutputState) (text : List ℕ) → ran.sink_failed ≡ output.failed
    → (output.failed ≡ false → output.page ≡ []) → HasPut before now faults m output text → IsWrittenOut ran before now text
written-out ran before now faults m output text is nothing_left has = record {
  whole = λ sound. written-whole before now faults m output text has (sym is ∙ sound) nothing_left;
  prefix = λ fell. written-prefix before now faults m output text has (sym is ∙ fell);
}
