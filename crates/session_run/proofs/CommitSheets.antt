-- The sheets of histories that go on.
use Rattle.session_run.proofs.Common.{◌≡◌, ℕ, true, List, [], ◌∷◌, ◌++◌, Option, Some, None, refl, sym, ap, subst, ◌∙◌, append_assoc, append-nil, cons_option, Desk, Entry, Ending, Feed, next_batch, replay, BatchCopy, State, SolvedBatch, Recorded, state_of, opened_entry, end_entry, committed_entry, MoveSheet, AllZip, Commit, IsSheetOf, commit_by, commits_after, Answered, AddsSheets, CommitsPlanned, IsPlanned, is_whole, sheets_in}
use Rattle.idle_moves.specs.Sheet.{IsSheet}
use Rattle.session_run.specs.declared.batches.Answered.TheVariants.{Whole, Wanting}

cons_option-append : {A : Type 0} (o : Option A) (xs ys : List A) → cons_option o (xs ++ ys) ≡ cons_option o xs ++ ys
cons_option-append None xs ys = refl
cons_option-append (Some x) xs ys = refl

-- the commits among entries in two parts
commits-append : (before first second : List Entry)
    → commits_after before (first ++ second) ≡ commits_after before first ++ commits_after (before ++ first) second
commits-append before [] second = ap (λ b. commits_after b second) (sym (append-nil before))
commits-append before (entry ∷ entries) second =
    let commit : Option Commit = commit_by before entry.actor entry.event in
    let own : List Commit = commits_after (before ++ entry ∷ []) entries in
    ap (cons_option commit) (commits-append (before ++ entry ∷ []) entries second)
    ∙ cons_option-append commit own (commits_after ((before ++ entry ∷ []) ++ entries) second)
    ∙ ap (λ b. cons_option commit own ++ commits_after b second) (append_assoc before (entry ∷ []) entries)

-- paired lists in two parts
paired-append : {A B : Type 0} (R : A → B → Type 0) (xs xs' : List A) (ys ys' : List B) → AllZip R xs ys → AllZip R xs' ys'
    → AllZip R (xs ++ xs') (ys ++ ys')
paired-append R [] xs' [] ys' first second = second
paired-append R [] xs' (y ∷ ys) ys' first second = absurd first
paired-append R (x ∷ xs) xs' [] ys' first second = absurd first
paired-append R (x ∷ xs) xs' (y ∷ ys) ys' first second = (first.0, paired-append R xs xs' ys ys' first.1 second)

-- an entry that is no commit adds no sheet
pub adds-none : (reach : ℕ) (old new : Recorded) (entry : Entry) → new.start ≡ old.start → new.history ≡ old.history ++ entry ∷ []
    → ((before : List Entry) → commit_by before entry.actor entry.event ≡ None) → AddsSheets reach [] old new
adds-none reach old new entry start history none sheets are =
    subst (λ (s : State). AllZip (IsSheetOf s reach) (commits_after [] new.history) (sheets ++ [])) (sym start)
    (subst (λ (commits : List Commit). AllZip (IsSheetOf old.start reach) commits (sheets ++ [])) (sym commits)
    (paired-append (IsSheetOf old.start reach) (commits_after [] old.history) [] sheets [] are tt))
  where
    commits : commits_after [] new.history ≡ commits_after [] old.history ++ []
    commits =
        ap (commits_after []) history ∙ commits-append [] old.history (entry ∷ [])
        ∙ ap (λ o. commits_after [] old.history ++ cons_option o []) (none old.history)

-- the sheets of a board that goes on twice
pub adds-then : (reach : ℕ) (first second : List MoveSheet) (a b c : Recorded) → AddsSheets reach first a b → AddsSheets reach second b c
    → AddsSheets reach (first ++ second) a c
adds-then reach first second a b c adds more sheets are =
    subst (λ (l : List MoveSheet). AllZip (IsSheetOf c.start reach) (commits_after [] c.history) l) (append_assoc sheets first second)
    (more (sheets ++ first) (adds sheets are))

-- a batch that was opened and committed at once adds its sheet
pub adds-commit : (reach : ℕ) (old middle new : Recorded) (solved : SolvedBatch) (sheet : MoveSheet) → middle.start ≡ old.start
    → new.start ≡ middle.start → solved.batch ≡ next_batch (state_of old) 1
    → middle.history ≡ old.history ++ opened_entry solved.batch ∷ []
    → new.history ≡ middle.history ++ committed_entry (state_of middle) solved ∷ []
    → IsSheet middle.start.roads solved.batch solved.answer.seating reach sheet → AddsSheets reach (sheet ∷ []) old new
adds-commit reach old middle new solved sheet start same_start batch opening closing is_sheet =
    adds-then reach [] (sheet ∷ []) old middle new
    (adds-none reach old middle (opened_entry solved.batch) start opening (λ before. refl)) last
  where
    commit : Commit
    commit = record { before = middle.history; desk = solved.batch.desk; number = solved.batch.number; seats = solved.answer.seating }

    commits : commits_after [] new.history ≡ commits_after [] middle.history ++ commit ∷ []
    commits = ap (commits_after []) closing ∙ commits-append [] middle.history (committed_entry (state_of middle) solved ∷ [])

    sheet_of : IsSheetOf middle.start reach commit sheet
    sheet_of = record {
      earlier = old.history;
      batch = solved.batch;
      between = [];
      batch_is = batch ∙ (λ i. next_batch (replay (sym start i) old.history) (sym (ap (λ (b : BatchCopy). b.desk) batch) i));
      opened = opening;
      number_is = refl;
      sheet_is = is_sheet;
    }

    last : AddsSheets reach (sheet ∷ []) middle new
    last sheets are =
        subst (λ (s : State). AllZip (IsSheetOf s reach) (commits_after [] new.history) (sheets ++ sheet ∷ [])) (sym same_start)
        (subst (λ (l : List Commit). AllZip (IsSheetOf middle.start reach) l (sheets ++ sheet ∷ [])) (sym commits)
        (paired-append (IsSheetOf middle.start reach) (commits_after [] middle.history) (commit ∷ []) sheets (sheet ∷ []) are (sheet_of, tt)))

pub adds-planned : (r : ℕ) (reach : Option ℕ) (answered : Answered) (batch : BatchCopy) (old middle new : Recorded) → reach ≡ Some r
    → is_whole answered ≡ true → middle.start ≡ old.start → new.start ≡ middle.start → batch ≡ next_batch (state_of old) 1
    → middle.history ≡ old.history ++ opened_entry batch ∷ [] → CommitsPlanned reach batch answered middle new
    → AddsSheets r (sheets_in answered) old new
adds-planned r reach (Whole (Some sheet)) batch old middle new given whole start same_start is opening planned =
    adds-commit r old middle new planned.solved sheet start same_start (planned.batch_is ∙ is)
    (opening ∙ ap (λ (b : BatchCopy). old.history ++ opened_entry b ∷ []) (sym planned.batch_is)) planned.grows
    (subst (λ o. IsPlanned middle.start.roads o planned.solved (Whole (Some sheet))) given planned.planned)
adds-planned r reach (Whole None) batch old middle new given whole start same_start is opening planned =
    absurd (subst (λ o. IsPlanned middle.start.roads o planned.solved (Whole None)) given planned.planned)
adds-planned r reach Wanting batch old middle new given whole start same_start is opening planned = absurd (cc whole)

-- the ends of the feed and the desk add none
pub adds-ends : (reach : ℕ) (old new : Recorded) (ending desk_ending : Ending) → new.start ≡ old.start
    → new.history ≡ old.history ++ end_entry (Feed 1) ending ∷ end_entry (Desk 1) desk_ending ∷ [] → AddsSheets reach [] old new
adds-ends reach old new ending desk_ending start history =
    let middle : Recorded = record old { history = old.history ++ end_entry (Feed 1) ending ∷ [] } in
    adds-then reach [] [] old middle new
    (adds-none reach old middle (end_entry (Feed 1) ending) refl refl (λ before. refl))
    (adds-none reach middle new (end_entry (Desk 1) desk_ending) start
    (history ∙ sym (append_assoc old.history (end_entry (Feed 1) ending ∷ []) (end_entry (Desk 1) desk_ending ∷ []))) (λ before. refl))
