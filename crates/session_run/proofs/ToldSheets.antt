-- What was told of a session that goes on.
use Rattle.session_run.proofs.Common.{◌≡◌, ℕ, Bool, true, false, cond, List, [], ◌∷◌, ◌++◌, Option, Some, None, length, take, refl, sym, ap, subst, ◌∙◌, append_assoc, append-nil, take-append_seam, ◌||◌, not, flat_map, flat_map-append, Ending, Entry, text_of, Feed, Desk, Recorded, end_entry, MoveSheet, ahead_text, head_line, last_line, sheet_line, AreSheetsOf, HasPut, OutputState, Answered, sheets_text, SessionState, is_whole, sheets_in, HasToldAllBy, HasToldBy, IsTold, TellsSheets, IsPrompt, GoesOn, GoesOnTo, GoesOnWith}
use Rattle.session_run.proofs.CommitSheets.{adds-ends}
use Rattle.session_run.proofs.Ends.{ends-prompt}

-- what was told of a log is the text of the first entries of what it went on to
pub told-first : (told : ℕ) (earlier now : Option (List ℕ)) (faults n : ℕ) (output : OutputState) (old new : Recorded) (more : List Entry)
    → new.start ≡ old.start → new.history ≡ old.history ++ more → told ≡ length old.history
    → IsTold earlier now faults n output old
    → HasPut earlier now faults n output (text_of new.start.settings.log 1 1 (take told new.history))
told-first told earlier now faults n output old new more start grows all has =
    subst (λ (t : List ℕ). HasPut earlier now faults n output t) (sym (λ i. text_of (start i).settings.log 1 1 (first i))) has
  where
    first : take told new.history ≡ old.history
    first = ap (λ k. take k new.history) all ∙ ap (take (length old.history)) grows ∙ take-append_seam old.history more

-- the head and the lines of sheets, and of more
lines-more : (reach : ℕ) (sheets more : List MoveSheet)
    → (head_line reach ++ flat_map sheet_line sheets) ++ flat_map sheet_line more ≡ head_line reach ++ flat_map sheet_line (sheets ++ more)
lines-more reach sheets more =
    append_assoc (head_line reach) (flat_map sheet_line sheets) (flat_map sheet_line more)
    ∙ ap (λ text. head_line reach ++ text) (sym (flat_map-append sheet_line sheets more))

-- a session before and after an answer, of which sheets are told
module _ (reach : ℕ) (answered : Answered) (earlier now later : Option (List ℕ)) (faults n m : ℕ) (old new : SessionState)
    (wanting : new.no_memory ≡ (old.no_memory || not (is_whole answered)))
    (logged : (text : List ℕ) → HasPut earlier now faults n old.output text
    → HasPut earlier later faults m new.output (text ++ cond new.no_memory [] (flat_map sheet_line (sheets_in answered)))) where
  -- where memory was wanting no more is told
  told-wanting : new.no_memory ≡ true → GoesOn old.board new.board
      → TellsSheets reach (λ sheets. head_line reach ++ flat_map sheet_line sheets) earlier now faults n old
      → TellsSheets reach (λ sheets. head_line reach ++ flat_map sheet_line sheets) earlier later faults m new
  told-wanting is goes_on tells =
      let (rest, begins) = tells.begins in
      let text : List ℕ = head_line reach ++ flat_map sheet_line tells.sheets in
      record {
        first = tells.first;
        sheets = tells.sheets;
        begins = (
          rest ++ goes_on.more,
          sym (append_assoc tells.first rest goes_on.more) ∙ ap (λ h. h ++ goes_on.more) begins ∙ sym goes_on.grows,
        );
        prompt = tells.prompt;
        sheets_are = subst (λ s. AreSheetsOf s reach tells.first tells.sheets) (sym goes_on.start) tells.sheets_are;
        all = λ sound. absurd (cc (is, sound));
        logged = subst (λ (t : List ℕ). HasPut earlier later faults m new.output t)
            (ap (λ b. text ++ cond b [] (flat_map sheet_line (sheets_in answered))) is ∙ append-nil text) (logged text tells.logged);
      }

  -- else the sheets of what came
  told-whole : (told : ℕ) → new.no_memory ≡ false → GoesOnWith (Some reach) told answered old.board new.board
      → TellsSheets reach (λ sheets. head_line reach ++ flat_map sheet_line sheets) earlier now faults n old
      → TellsSheets reach (λ sheets. head_line reach ++ flat_map sheet_line sheets) earlier later faults m new
  told-whole told is goes_on tells =
      let (sound, whole) = neither old.no_memory (is_whole answered) (sym wanting ∙ is) in
      let first : tells.first ≡ old.board.history = tells.all sound in
      let more : List MoveSheet = sheets_in answered in
      let text : List ℕ = head_line reach ++ flat_map sheet_line tells.sheets in
      record {
        first = new.board.history;
        sheets = tells.sheets ++ more;
        begins = ([], append-nil new.board.history);
        prompt = goes_on.prompt whole (subst IsPrompt first tells.prompt);
        sheets_are = goes_on.sheets whole reach refl tells.sheets
            (subst (λ h. AreSheetsOf old.board.start reach h tells.sheets) first tells.sheets_are);
        all = λ _. refl;
        logged = subst (λ (t : List ℕ). HasPut earlier later faults m new.output t)
            (ap (λ b. text ++ cond b [] (flat_map sheet_line more)) is ∙ lines-more reach tells.sheets more) (logged text tells.logged);
      }
    where
      neither : (a b : Bool) → (a || not b) ≡ false → (a ≡ false) × (b ≡ true)
      neither true b h = absurd (cc h)
      neither false true h = (refl, refl)
      neither false false h = absurd (cc h)

  pub told-more : (told : ℕ) → GoesOnWith (Some reach) told answered old.board new.board
      → TellsSheets reach (λ sheets. head_line reach ++ flat_map sheet_line sheets) earlier now faults n old
      → TellsSheets reach (λ sheets. head_line reach ++ flat_map sheet_line sheets) earlier later faults m new
  told-more told goes_on tells = by_test new.no_memory refl
    where
      by_test : (b : Bool) → new.no_memory ≡ b → TellsSheets reach (λ sheets. head_line reach ++ flat_map sheet_line sheets) earlier later faults m new
      by_test true is = told-wanting is goes_on.goes_on tells
      by_test false is = told-whole told is goes_on tells

-- the last line is told where memory was not wanting
pub told-last : (reach told : ℕ) (ending : Ending) (earlier now later : Option (List ℕ)) (faults n m : ℕ) (old new : SessionState)
    → new.no_memory ≡ old.no_memory → GoesOnTo ending told old.board new.board
    → ((text : List ℕ) → HasPut earlier now faults n old.output text
    → HasPut earlier later faults m new.output (text ++ cond old.no_memory [] (last_line ending)))
    → TellsSheets reach (λ sheets. head_line reach ++ flat_map sheet_line sheets) earlier now faults n old
    → TellsSheets reach (sheets_text reach new.no_memory ending) earlier later faults m new
told-last reach told ending earlier now later faults n m old new same goes_on logged tells =
    by_test old.no_memory refl
  where
    lines : List ℕ
    lines = head_line reach ++ flat_map sheet_line tells.sheets

    by_test : (b : Bool) → old.no_memory ≡ b → TellsSheets reach (sheets_text reach new.no_memory ending) earlier later faults m new
    by_test true is =
        let (rest, begins) = tells.begins in
        let ends : List Entry = end_entry (Feed 1) ending ∷ end_entry (Desk 1) goes_on.desk_ending ∷ [] in
        record {
          first = tells.first;
          sheets = tells.sheets;
          begins = (
            rest ++ ends,
            sym (append_assoc tells.first rest ends) ∙ ap (λ h. h ++ ends) begins ∙ sym goes_on.grows,
          );
          prompt = tells.prompt;
          sheets_are = subst (λ s. AreSheetsOf s reach tells.first tells.sheets) (sym goes_on.start) tells.sheets_are;
          all = λ sound. absurd (cc (is, same, sound));
          logged = subst (λ (t : List ℕ). HasPut earlier later faults m new.output t)
              (ap (λ b. lines ++ cond b [] (last_line ending)) is ∙ append-nil lines
              ∙ sym (ap (λ b. sheets_text reach b ending tells.sheets) (same ∙ is))) (logged lines tells.logged);
        }
    by_test false is =
        let first : tells.first ≡ old.board.history = tells.all is in
        record {
          first = new.board.history;
          sheets = tells.sheets ++ [];
          begins = ([], append-nil new.board.history);
          prompt = ends-prompt old.board.history new.board.history ending goes_on.desk_ending goes_on.grows (subst IsPrompt first tells.prompt);
          sheets_are = adds-ends reach old.board new.board ending goes_on.desk_ending goes_on.start goes_on.grows tells.sheets
              (subst (λ h. AreSheetsOf old.board.start reach h tells.sheets) first tells.sheets_are);
          all = λ _. refl;
          logged = subst (λ (t : List ℕ). HasPut earlier later faults m new.output t)
              (ap (λ b. lines ++ cond b [] (last_line ending)) is
              ∙ ap (λ sheets. ahead_text reach ending sheets) (sym (append-nil tells.sheets))
              ∙ sym (ap (λ b. sheets_text reach b ending (tells.sheets ++ [])) (same ∙ is))) (logged lines tells.logged);
        }

-- what was told stays told where the page is written
pub told-flushed : (reach : Option ℕ) (ending : Ending) (earlier now later : Option (List ℕ)) (faults n m : ℕ) (s : SessionState) (output : OutputState)
    → ((text : List ℕ) → HasPut earlier now faults n s.output text → HasPut earlier later faults m output text)
    → HasToldAllBy reach ending earlier now faults n s → HasToldAllBy reach ending earlier later faults m (record s { output = output })
told-flushed None ending earlier now later faults n m s output logged told = logged (text_of s.board.start.settings.log 1 1 s.board.history) told
told-flushed (Some reach) ending earlier now later faults n m s output logged told = record {
  first = told.first;
  sheets = told.sheets;
  begins = told.begins;
  prompt = told.prompt;
  sheets_are = told.sheets_are;
  all = told.all;
  logged = logged (sheets_text reach s.no_memory ending told.sheets) told.logged;
}

-- what was told stays told, where more of it is written
pub told-written : (reach : Option ℕ) (earlier now later : Option (List ℕ)) (faults n m : ℕ) (s : SessionState) (output : OutputState)
    → ((text : List ℕ) → HasPut earlier now faults n s.output text → HasPut earlier later faults m output text)
    → HasToldBy reach earlier now faults n s → HasToldBy reach earlier later faults m (record s { output = output })
told-written None earlier now later faults n m s output put told = put _ told
told-written (Some reach) earlier now later faults n m s output put told = record {
  first = told.first;
  sheets = told.sheets;
  begins = told.begins;
  prompt = told.prompt;
  sheets_are = told.sheets_are;
  all = told.all;
  logged = put _ told.logged;
}
