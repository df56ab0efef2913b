-- What was written of a session, at its end.
use Rattle.session_run.proofs.Common.{◌≡◌, ℕ, Bool, true, false, cond, inr, List, [], Option, Some, None, refl, sym, ap, subst, ◌∙◌, ◌||◌, Ending, Whole, Cut, State, text_of, Ran, SourceFailed, TooLong, Recorded, MoveSheet, ahead_text, AreSheetsOf, HasPut, Stop, NoMemory, OfFeed, IsWrittenBy, feed_ending, sheets_text, IsLogged, SessionState, is_source_failed, is_too_long, ending_of, HasEnded, HasToldAll, HasToldAllBy}
use Rattle.session_run.proofs.Replays.{is-logged}

-- how a feed ended, by what stopped it
pub feed-ends : (log : ℕ) (left : Option (List ℕ)) (stop : Option Stop) (board : Recorded) (no_memory : Bool) (taken : List ℕ) (ran : Ran)
    → ran.source_failed ≡ is_source_failed stop → ran.too_long ≡ is_too_long stop → HasEnded log left stop board no_memory taken
    → no_memory ≡ false → ending_of stop ≡ feed_ending ran
feed-ends log left None board no_memory taken ran source long ended memory = sym (λ i. cond (source i || long i) Cut Whole)
feed-ends log left (Some NoMemory) board no_memory taken ran source long ended memory = absurd (cc (ended.2, memory))
feed-ends log left (Some (OfFeed SourceFailed)) board no_memory taken ran source long ended memory =
    sym (ap (λ b. cond (b || ran.too_long) Cut Whole) source)
feed-ends log left (Some (OfFeed TooLong)) board no_memory taken ran source long ended memory = sym (λ i. cond (source i || long i) Cut Whole)

-- the text of sheets depends on the ending only where memory was not wanting
same-text : (reach : ℕ) (a b : Bool) (one other : Ending) (sheets : List MoveSheet) → a ≡ b → (a ≡ false → one ≡ other)
    → sheets_text reach a one sheets ≡ sheets_text reach b other sheets
same-text reach true true one other sheets same ending = refl
same-text reach true false one other sheets same ending = absurd (cc same)
same-text reach false true one other sheets same ending = absurd (cc same)
same-text reach false false one other sheets same ending = ap (λ e. ahead_text reach e sheets) (ending refl)

-- what was written of a session whose run is this
module _ (start : State) (ran : Ran) (taken : List ℕ) (ending : Ending) (before after : Option (List ℕ)) (faults n : ℕ) (s : SessionState)
    (start_is : s.board.start ≡ start) (failed : ran.sink_failed ≡ s.output.failed) (memory : ran.no_memory ≡ s.no_memory)
    (ends : s.no_memory ≡ false → ending ≡ feed_ending ran) (nothing_left : s.output.failed ≡ false → s.output.page ≡ []) where
  by_reach : (reach : Option ℕ) → HasToldAllBy reach ending before after faults n s → IsWrittenBy reach start ran taken s.board.history before after
  by_reach None told =
      subst (λ (from : State). IsLogged ran taken before after (text_of from.settings.log 1 1 s.board.history)) start_is
      (is-logged ran taken before after faults n s.output (text_of s.board.start.settings.log 1 1 s.board.history) failed nothing_left told)
  by_reach (Some reach) told = record {
    first = told.first;
    sheets = told.sheets;
    begins = told.begins;
    prompt = told.prompt;
    sheets_are = subst (λ (from : State). AreSheetsOf from reach told.first told.sheets) start_is told.sheets_are;
    all = λ sound. told.all (sym memory ∙ sound);
    written = subst (IsLogged ran taken before after)
        (same-text reach s.no_memory ran.no_memory ending (feed_ending ran) told.sheets (sym memory) ends)
        (is-logged ran taken before after faults n s.output (sheets_text reach s.no_memory ending told.sheets) failed nothing_left told.logged);
  }

  pub written-by : (reach : Option ℕ) → s.reach ≡ reach → HasToldAll ending before after faults n s
      → IsWrittenBy reach start ran taken s.board.history before after
  written-by reach is told = by_reach reach (subst (λ o. HasToldAllBy o ending before after faults n s) is told)

-- some text was logged
pub record LoggedSome (before after : Option (List ℕ)) (faults n : ℕ) (s : SessionState) : Type 0 where
  pub text : List ℕ
  pub has : HasPut before after faults n s.output text

pub logged-some : (reach : Option ℕ) (ending : Ending) (before after : Option (List ℕ)) (faults n : ℕ) (s : SessionState)
    → HasToldAllBy reach ending before after faults n s → LoggedSome before after faults n s
logged-some None ending before after faults n s told = record { text = text_of s.board.start.settings.log 1 1 s.board.history; has = told }
logged-some (Some reach) ending before after faults n s told =
    record { text = sheets_text reach s.no_memory ending told.sheets; has = told.logged }

-- nothing was written where memory was wanting at once
pub none-written : (reach : Option ℕ) (start : State) (ran : Ran) (before : Option (List ℕ)) → ran.no_memory ≡ true → ran.sink_failed ≡ false
    → IsWrittenBy reach start ran [] [] before before
none-written None start ran before none sound =
    record { whole = λ _. inr (none, refl, refl); prefix = λ fell. absurd (cc (fell, sound)) }
none-written (Some reach) start ran before none sound = record {
  first = [];
  sheets = [];
  begins = ([], refl);
  prompt = record { direct = refl; none_given_up = refl };
  sheets_are = tt;
  all = λ memory. absurd (cc (memory, none));
  written = record { whole = λ _. inr (none, refl, refl); prefix = λ fell. absurd (cc (fell, sound)) };
}
