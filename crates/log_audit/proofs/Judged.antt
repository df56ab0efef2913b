-- Entries that were judged.
use Rattle.log_audit.proofs.Common.{◌≡◌, ◌≢◌, ℕ, List, [], ◌∷◌, ◌++◌, Option, None, Some, refl, sym, ◌∙◌, ap, subst, All, All-contains, Contains-push, same_Some, Entry, BatchCopy, State, HasLine, HasText, IsOneOrTwo, entry_line, lines-same, Recorded, state_of, Auditor, Fault, Why, GoesOn, IsAuditing, IsJudged, IsLineOf, LeavesDue, AreOpen, IsFault}

-- an audit goes on where its board has the same start, and the same batches are open
pub auditing-on : (old new : Auditor) → IsAuditing old → new.board.start ≡ old.board.start → new.pricing ≡ old.pricing → new.log ≡ old.log
    → AreOpen (state_of new.board) new.batches → IsAuditing new
auditing-on old new auditing start pricing log held = record {
  roads_are = pricing ∙ auditing.roads_are ∙ ap (λ (s : State). s.roads) (sym start);
  log_is = log ∙ auditing.log_is ∙ ap (λ (s : State). s.settings.log) (sym start);
  open_are = held;
}

-- the last entry of a history with a text has a line
pub last-line : (old new : Recorded) (last : Entry) → new.start ≡ old.start → new.history ≡ old.history ++ last ∷ []
    → HasText new.start.settings.log new.feeds new.desks new.history → HasLine old.start.settings.log last
last-line old new last start history has =
    subst (λ (s : State). HasLine s.settings.log last) start
    (All-contains (HasLine new.start.settings.log) (old.history ++ last ∷ []) last
    (subst (All (HasLine new.start.settings.log)) history has.lines) (Contains-push old.history last))

-- the board's entry is the line's, or the line is wrong
pub judged : (old new : Auditor) (entry last : Entry) (line : List ℕ) (word : Why) (why : Option Fault) → IsAuditing old
    → HasText new.board.start.settings.log new.board.feeds new.board.desks new.board.history
    → GoesOn old new last → (GoesOn old new last → LeavesDue old new word None) → IsLineOf old.log entry line
    → (why ≡ None → entry_line new.log last ≡ line ++ 10 ∷ [])
    → (why ≢ None → (why ≡ Some (record { why = word; batch = None })) × (entry_line new.log last ≢ line ++ 10 ∷ []))
    → ((entry ≡ last → ⊥) → IsFault word old.board.feeds old.board.desks (state_of old.board) entry.actor entry.event)
    → IsJudged old new entry why
judged old new entry last line word why auditing has went left is told not_told fault = by_why why told not_told
  where
    log : ℕ
    log = old.board.start.settings.log

    log_now : new.log ≡ log
    log_now = went.auditing.log_is ∙ ap (λ (s : State). s.settings.log) went.start_stays

    last_has : HasLine log last
    last_has = last-line old.board new.board last went.start_stays went.grows has

    entry_has : HasLine log entry
    entry_has = subst (λ n. HasLine n entry) auditing.log_is is.spelled

    entry_is : entry_line log entry ≡ line ++ 10 ∷ []
    entry_is = ap (λ n. entry_line n entry) (sym auditing.log_is) ∙ is.line_is

    fits : IsOneOrTwo log
    fits = subst (λ (s : State). IsOneOrTwo s.settings.log) went.start_stays has.log_version

    by_why : (w : Option Fault) → (w ≡ None → entry_line new.log last ≡ line ++ 10 ∷ [])
        → (w ≢ None → (w ≡ Some (record { why = word; batch = None })) × (entry_line new.log last ≢ line ++ 10 ∷ [])) → IsJudged old new entry w
    by_why None same _ =
        let lines : entry_line log entry ≡ entry_line log last = entry_is ∙ sym (ap (λ n. entry_line n last) (sym log_now) ∙ same refl) in
        let one : entry ≡ last = lines-same log entry last fits entry_has last_has lines in
        subst (GoesOn old new) (sym one) went
    by_why (Some f) _ other =
        let some : ◌≢◌ {A = Option Fault} (Some f) None = λ e. cc e in
        let (fault_is, differs) = other some in
        subst (λ (x : Fault). IsFault x.why old.board.feeds old.board.desks (state_of old.board) entry.actor entry.event × LeavesDue old new x.why x.batch)
        (sym (same_Some f (record { why = word; batch = None }) fault_is)) (
          fault (λ one. differs (ap (λ n. entry_line n last) log_now ∙ ap (entry_line log) (sym one) ∙ entry_is)),
          left went,
        )

-- a commit whose seats or prices are wrong leaves its batch
pub uncommitted : (old new : Auditor) (entry : Entry) (why : Why) (batch : BatchCopy) (f : Fault) → f ≡ record { why = why; batch = Some batch }
    → LeavesDue old new why (Some batch) → IsFault why old.board.feeds old.board.desks (state_of old.board) entry.actor entry.event
    → IsFault f.why old.board.feeds old.board.desks (state_of old.board) entry.actor entry.event × LeavesDue old new f.why f.batch
uncommitted old new entry why batch f is left fault =
    subst (λ (x : Fault). IsFault x.why old.board.feeds old.board.desks (state_of old.board) entry.actor entry.event × LeavesDue old new x.why x.batch)
    (sym is) (fault, left)
