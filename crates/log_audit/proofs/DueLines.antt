-- The line that was due in place of a wrong one.
use Rattle.log_audit.proofs.Common.{◌≡◌, ℕ, inl, inr, List, [], ◌∷◌, ◌++◌, Option, None, Some, Ok, Err, Vec, Global, sym, ◌∙◌, ap, subst, append-nil, IfSome, IfOk, IsSomeAnd, IsTrue, IsFalse, Result, Entry, IsLegal, IsLegalEntry, replay, BatchCopy, State, HasLine, HasText, entry_line, IsLegal-parts, first-legal, Recorded, Auditor, Fault, No, Why, Spelling, IsAnswer, IsLogOf, text_so_far, GoesOn, HasGrown, IsUncommitted, LeavesDue, IsDue, IsDueOf, has_due, HasReadAll, HasReadWrong}
use Rattle.log_audit.specs.declared.verdict.Why.TheVariants.{Actor as ToActor, Reply as ToReply, Batch as ToBatch, Seating as ToSeating, Prices as ToPrices, Outcomes as ToOutcomes}
use Rattle.log_audit.proofs.Ends.{IsWrongAfter, all-read, ends-wrong-entry}
use Rattle.log_audit.proofs.Judged.{last-line}

-- no line is wrong
pub none-wrong-due : (before left : Option (List ℕ)) (start : State) (auditor : Auditor) → HasReadAll before left start auditor []
    → IfSome before (λ all. IsDueOf start all (Ok None))
none-wrong-due before left start auditor read =
    all-read before left (text_so_far board ++ []) (λ all. IsDueOf start all (Ok None)) read.end.reads read.end.to_end
    (inl (
      board.feeds,
      board.desks,
      board.history,
      subst (IsLogOf start board.feeds board.desks board.history) (sym (append-nil (text_so_far board)))
          (subst (λ (s : State). IsLogOf s board.feeds board.desks board.history (text_so_far board)) read.start_is read.log),
      read.end.within,
    ))
  where
    board : Recorded
    board = auditor.board

-- none was due in place of the wrong line
pub none-due : (o : Option (List ℕ)) (start : State) (line : ℕ) (why : Why) → IsFalse (has_due why)
    → IfSome o (λ all. IsAnswer start all (Ok (No line why))) → IfSome o (λ all. IsDueOf start all (Ok None))
none-due None start line why none h = tt
none-due (Some all) start line why none (wrong, counts) = inr (line, why, wrong, counts, none)

-- one entry more
grown-of : (old new : Auditor) → (due : Entry) × GoesOn old new due → HasGrown old.board new
grown-of old new (due, goes) = record {
  due = due;
  grows = goes.grows;
  start_stays = goes.start_stays;
  feeds_stay = goes.feeds_stay;
  desks_stay = goes.desks_stay;
  log_is = goes.auditing.log_is;
}

-- the board has the entry that was due, where there is no batch
pub entry-left : (old new : Auditor) (why : Why) (batch : Option BatchCopy) → IsTrue (has_due why) → LeavesDue old new why batch → batch ≡ None
    → HasGrown old.board new
entry-left old new Spelling batch has left none = absurd (cc has)
entry-left old new ToActor batch has left none = absurd (cc has)
entry-left old new ToReply batch has left none = grown-of old new left.1
entry-left old new ToBatch batch has left none = grown-of old new left.1
entry-left old new ToOutcomes batch has left none = grown-of old new left.1
entry-left old new ToSeating batch has left none = absurd (subst (λ o. IsSomeAnd o (IsUncommitted old new)) none left)
entry-left old new ToPrices batch has left none = absurd (subst (λ o. IsSomeAnd o (IsUncommitted old new)) none left)

-- or the batch is uncommitted
pub batch-left : (old new : Auditor) (why : Why) (batch : Option BatchCopy) (one : BatchCopy) → IsTrue (has_due why) → LeavesDue old new why batch
    → batch ≡ Some one → IsUncommitted old new one
batch-left old new Spelling batch one has left some = absurd (cc has)
batch-left old new ToActor batch one has left some = absurd (cc has)
batch-left old new ToReply batch one has left some = absurd (cc (left.0, some))
batch-left old new ToBatch batch one has left some = absurd (cc (left.0, some))
batch-left old new ToOutcomes batch one has left some = absurd (cc (left.0, some))
batch-left old new ToSeating batch one has left some = subst (λ o. IsSomeAnd o (IsUncommitted old new)) some left
batch-left old new ToPrices batch one has left some = subst (λ o. IsSomeAnd o (IsUncommitted old new)) some left

-- the entry that was due is legal there
legal-next : (old : Recorded) (new : Auditor) (grown : HasGrown old new)
    → IsLegal new.board.feeds new.board.desks new.board.start new.board.history
    → IsLegalEntry old.feeds old.desks (replay old.start old.history) grown.due
legal-next old new grown legal =
    let moved : IsLegal old.feeds old.desks old.start (old.history ++ grown.due ∷ [])
    = subst (λ f. IsLegal f old.desks old.start (old.history ++ grown.due ∷ [])) grown.feeds_stay
    (subst (λ d. IsLegal new.board.feeds d old.start (old.history ++ grown.due ∷ [])) grown.desks_stay
    (subst (λ (s : State). IsLegal new.board.feeds new.board.desks s (old.history ++ grown.due ∷ [])) grown.start_stays
    (subst (IsLegal new.board.feeds new.board.desks new.board.start) grown.grows legal))) in
    first-legal old.feeds old.desks (replay old.start old.history) grown.due [] (IsLegal-parts old.feeds old.desks old.start old.history (grown.due ∷ []) moved).1

-- its line was due
module _ (before left : Option (List ℕ)) (start : State) (auditor after : Auditor) (number : ℕ) (fault : Fault)
    (w : HasReadWrong before left start auditor number fault) (has : IsTrue (has_due fault.why)) (grown : HasGrown w.old.board after)
    (legal : IsLegal after.board.feeds after.board.desks after.board.start after.board.history)
    (has_text : HasText after.board.start.settings.log after.board.feeds after.board.desks after.board.history) where
  abbrev old : Recorded
  old = w.old.board

  next : IsLegalEntry old.feeds old.desks (replay start old.history) grown.due
  next = subst (λ (s : State). IsLegalEntry old.feeds old.desks (replay s old.history) grown.due) w.start_is (legal-next old after grown legal)

  spelled : HasLine start.settings.log grown.due
  spelled = subst (λ (s : State). HasLine s.settings.log grown.due) w.start_is
      (last-line old after.board grown.due grown.start_stays grown.grows has_text)

  log_is : after.log ≡ start.settings.log
  log_is = grown.log_is ∙ ap (λ (s : State). s.settings.log) (grown.start_stays ∙ w.start_is)

  wrong : IfSome before (λ all. IsWrongAfter start old.feeds old.desks old.history all number fault.why)
  wrong = subst (λ (s : State). IfSome before (λ all. IsWrongAfter s old.feeds old.desks old.history all number fault.why)) w.start_is
      (ends-wrong-entry before left old.start old.feeds old.desks old.history (text_so_far old) w.line w.lines number fault.why w.log w.next w.wrong
      w.number_is)

  due-at : (all line : List ℕ) → IsWrongAfter start old.feeds old.desks old.history all number fault.why → line ≡ entry_line after.log grown.due
      → IsDue start all line
  due-at all line ((entry, feeds, desks, entries), counts) is = record {
    number = number;
    why = fault.why;
    wrong = entry;
    counts = counts;
    has_due = has;
    due = grown.due;
    legal = subst (λ f. IsLegalEntry f entry.desks (replay start entry.entries) grown.due) (sym feeds)
        (subst (λ d. IsLegalEntry old.feeds d (replay start entry.entries) grown.due) (sym desks)
        (subst (λ (es : List Entry). IsLegalEntry old.feeds old.desks (replay start es) grown.due) (sym entries) next));
    spelled = spelled;
    line_is = is ∙ ap (λ n. entry_line n grown.due) log_is;
  }

  pub line-due : {E : Type 0} (r : Result (Option (Vec ℕ Global)) E)
      → IfOk r (λ o. IsSomeAnd o (λ (line : Vec ℕ Global). line.items ≡ entry_line after.log grown.due))
      → IfOk r (λ o. IfSome before (λ all. IsDueOf start all (Ok o)))
  line-due (Err e) h = tt
  line-due (Ok None) h = absurd h
  line-due (Ok (Some line)) is = by_case before wrong
    where
      by_case : (o : Option (List ℕ)) → IfSome o (λ all. IsWrongAfter start old.feeds old.desks old.history all number fault.why)
          → IfSome o (λ all. IsDueOf start all (Ok (Some line)))
      by_case None h = tt
      by_case (Some all) h = due-at all line.items h is
