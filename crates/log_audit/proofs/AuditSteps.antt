-- The steps of an audit: its head, a line after it, and how it ends.
use Rattle.log_audit.proofs.Common.{◌≡◌, ◌≢◌, ℕ, ◌+◌, ◌≤◌, inl, inr, true, false, List, [], ◌∷◌, ◌++◌, length, take, Option, None, Some, refl, sym, ◌∙◌, ap, subst, arith, append_assoc, length-append, IfSome, IfNone, IfOk, Result, Ok, Err, MatchOption, nat_lt, codes, decimal, ltb-true, lt-ltb, cases_lt, decimal_digit, take_all, ended_after, ended_lines, rest_after, rest_of, Entry, IsLegal, State, HasLine, HasText, IsOneOrTwo, entry_line, head_line, line_of, text_of, IsStart, Recorded, state_of, Auditor, Fault, Head, for_one_or_two, texts-same, NextLine, Line, Unfinished, End, ReaderState, HasNoLf, AuditFault, ReadFault, TooLong, NoMemory, Verdict, No, Why, Spelling, HasNoHead, IsAnswer, IsLogOf, IsWrongLine, FailsAfter, HasReadHead, HasReadNoHead, IsWrongLineAfter, text_so_far, IsAuditing, IsJudged, IsLineOf, LeavesDue, Counts, IsTooLong, LOG_LIMITS, HasRead, IsAtEnd, IsNext, IsNextLine, IsStop, StopsReading, IsFault}
use Rattle.log_audit.proofs.Ends.{all-read, count-text, counts-front, ends-fault, ends-too_long, one-line-more, wrong-next}
use Rattle.log_audit.proofs.LogParts.{few-bytes, lines-counted, lines_within, told-by}
use Rattle.log_audit.proofs.OneAnswer.{one-answer}
use Rattle.log_audit.proofs.WholeLines.{entry-first, head-first, no-head-first, text-nothing, text-push}

-- a line and what follows it is not nothing
lf-some : (line more : List ℕ) → (line ++ 10 ∷ []) ++ more ≢ []
lf-some [] more = λ e. cc e
lf-some (x ∷ line) more = λ e. cc e

-- a line that is too long spells no entry
pub over-wrong : (board : Recorded) (line : List ℕ) → HasNoLf line → nat_lt LOG_LIMITS.line (length line) ≡ true → IsWrongLineAfter board line Spelling
over-wrong board line none over = λ more. (
  lf-some line more,
  λ entry tells.
      let same = entry-first board.start.settings.log entry line more tells.first.0 tells.spelled none (sym tells.first.1) in
      omega (arith, tells.short, ap length same, length-append line (10 ∷ []), ltb-true LOG_LIMITS.line (length line) over),
)

-- nor does one that is no entry's
pub none-wrong : (board : Recorded) (line : List ℕ) → HasNoLf line
    → ((entry : Entry) → HasLine board.start.settings.log entry → entry_line board.start.settings.log entry ≢ line ++ 10 ∷ [])
    → IsWrongLineAfter board line Spelling
none-wrong board line none never = λ more. (
  lf-some line more,
  λ entry tells. never entry tells.spelled
      (entry-first board.start.settings.log entry line more tells.first.0 tells.spelled none (sym tells.first.1)),
)

-- a line with a fault
fault-wrong : (board : Recorded) (entry : Entry) (line : List ℕ) (why : Why) → length line ≤ LOG_LIMITS.line → IsLineOf board.start.settings.log entry line
    → IsFault why board.feeds board.desks (state_of board) entry.actor entry.event → IsWrongLineAfter board line why
fault-wrong board entry line why few is fault = λ more.
    wrong-next board.start board.feeds board.desks board.history ((line ++ 10 ∷ []) ++ more) entry why
    (record {
      spelled = is.spelled;
      short = omega (arith, few, ap length is.line_is, length-append line (10 ∷ []));
      first = (more, ap (λ l. l ++ more) is.line_is);
    }) fault

-- what follows a line that was judged
abbrev pub LineJudged : Auditor → Auditor → List ℕ → Option Fault → Type 0
LineJudged old new line fault = MatchOption fault
    (IsAuditing new × (new.board.start ≡ old.board.start) × (text_so_far new.board ≡ text_so_far old.board ++ line ++ 10 ∷ []))
    (λ (f : Fault). IsWrongLineAfter old.board line f.why × LeavesDue old new f.why f.batch)

line-judged : (old new : Auditor) (entry : Entry) (line : List ℕ) (fault : Option Fault) → length line ≤ LOG_LIMITS.line
    → IsLineOf old.board.start.settings.log entry line → IsJudged old new entry fault → LineJudged old new line fault
line-judged old new entry line None few is goes =
    let log = old.board.start.settings.log in (
      goes.auditing,
      goes.start_stays,
      (λ i. text_of (goes.start_stays i).settings.log (goes.feeds_stay i) (goes.desks_stay i) (goes.grows i))
          ∙ text-push log old.board.feeds old.board.desks old.board.history entry
          ∙ ap (λ l. text_so_far old.board ++ l) is.line_is
          ∙ sym (append_assoc (text_so_far old.board) line (10 ∷ [])),
    )
line-judged old new entry line (Some f) few is (fault, left) = (fault-wrong old.board entry line f.why few is fault, left)

-- a line that spells no entry leaves nothing
pub spelling-left : (old new : Auditor) (line : List ℕ) (f : Fault) → f ≡ record { why = Spelling; batch = None }
    → IsWrongLineAfter old.board line Spelling → IsWrongLineAfter old.board line f.why × LeavesDue old new f.why f.batch
spelling-left old new line f is wrong =
    subst (λ (x : Fault). IsWrongLineAfter old.board line x.why × LeavesDue old new x.why x.batch) (sym is) (wrong, tt)

-- what is shown of a line that is not too long is the line
pub shown-all : (line shown : List ℕ) → shown ≡ take LOG_LIMITS.line line → nat_lt LOG_LIMITS.line (length line) ≢ true
    → (length line ≤ LOG_LIMITS.line) × (shown ≡ line)
shown-all line shown is fits =
    let few : length line ≤ LOG_LIMITS.line = few-bytes in (few, is ∙ take_all LOG_LIMITS.line line few)
  where
    few-bytes : length line ≤ LOG_LIMITS.line
    few-bytes = elim (cases_lt LOG_LIMITS.line (length line)) [
      | inl more ↦ absurd (fits (lt-ltb LOG_LIMITS.line (length line) more))
      | inr few ↦ omega (arith, few)
    ]

pub judged-line : (old new : Auditor) (entry : Entry) (line shown : List ℕ) (why : Option Fault) → shown ≡ take LOG_LIMITS.line line
    → nat_lt LOG_LIMITS.line (length line) ≢ true → IsLineOf old.board.start.settings.log entry shown → IsJudged old new entry why
    → LineJudged old new line why
judged-line old new entry line shown why is fits of_line judged =
    let (few, same) = shown-all line shown is fits in
    line-judged old new entry line why few (subst (IsLineOf old.board.start.settings.log entry) same of_line) judged

-- a number of a wrong line is not 0
number-some : (start : State) (bytes : List ℕ) (line : ℕ) (why : Why) → IsWrongLine start bytes line why → 1 ≤ line
number-some start bytes line why (inl w) = omega (arith, w.1)
number-some start bytes line why (inr w) = omega (arith, w.line_is)

-- reading stops after some lines
pub stops-reading : (before left : Option (List ℕ)) (start old_start : State) (feeds desks : ℕ) (entries : List Entry) (text : List ℕ) (stop : AuditFault)
    → IsStart start → IsLogOf start feeds desks entries text → start ≡ old_start → IsStop before left text stop
    → StopsReading before left old_start stop
stops-reading before left start old_start feeds desks entries text TooLong begins good starts stopped =
    subst (λ s. IfSome before (λ all. IsAnswer s all (Err TooLong))) starts (ends-too_long before left start feeds desks entries text begins good stopped)
stops-reading before left start old_start feeds desks entries text ReadFault begins good starts stopped =
    subst (λ s. FailsAfter s before left) starts (ends-fault before left start feeds desks entries text begins good stopped)
stops-reading before left start old_start feeds desks entries text NoMemory begins good starts stopped = tt

-- how many entries there are
pub few-entries : (before left : Option (List ℕ)) (lines : ReaderState) (start : State) (feeds desks : ℕ) (entries : List Entry) (text : List ℕ)
    → IsLogOf start feeds desks entries text → HasRead before left lines text → length entries + 1 + lines.lines_left ≡ LOG_LIMITS.lines
few-entries before left lines start feeds desks entries text good read =
    omega (arith, lines-counted read, count-text start feeds desks entries text good)

-- a line that spells no entry
pub unread-wrong : (old : Auditor) (line shown read : List ℕ) (o : Option Entry) → IsAuditing old → HasNoLf line → shown ≡ take LOG_LIMITS.line line
    → nat_lt LOG_LIMITS.line (length line) ≢ true → read ≡ shown → o ≡ None
    → IfNone o ((entry : Entry) → HasLine old.log entry → entry_line old.log entry ≢ read ++ 10 ∷ [])
    → IsWrongLineAfter old.board line Spelling
unread-wrong old line shown read o auditing none is fits read_is nothing never =
    let (few, same) = shown-all line shown is fits in
    let each : (entry : Entry) → HasLine old.log entry → entry_line old.log entry ≢ read ++ 10 ∷ []
    = subst (λ x. IfNone x ((entry : Entry) → HasLine old.log entry → entry_line old.log entry ≢ read ++ 10 ∷ [])) nothing never in
    none-wrong old.board line none (λ entry has told.
    each entry (subst (λ n. HasLine n entry) (sym auditing.log_is) has)
    (ap (λ n. entry_line n entry) auditing.log_is ∙ told ∙ ap (λ l. l ++ 10 ∷ []) (sym (read_is ∙ same))))

-- a line whose entry was judged
pub read-judged : {E : Type 0} (old new : Auditor) (line shown read : List ℕ) (o : Option Entry) (entry : Entry) (r : Result (Option Fault) E)
    → IsAuditing old → shown ≡ take LOG_LIMITS.line line → nat_lt LOG_LIMITS.line (length line) ≢ true → read ≡ shown → o ≡ Some entry
    → IfSome o (HasLine old.log) → IfSome o (λ e. entry_line old.log e ≡ read ++ 10 ∷ []) → IfOk r (IsJudged old new entry)
    → IfOk r (LineJudged old new line)
read-judged {E} old new line shown read o entry r auditing is fits read_is some has told judged = by_result r judged
  where
    of_line : IsLineOf old.board.start.settings.log entry shown
    of_line = record {
      spelled = subst (λ n. HasLine n entry) auditing.log_is (subst (λ x. IfSome x (HasLine old.log)) some has);
      line_is = ap (λ n. entry_line n entry) (sym auditing.log_is)
          ∙ subst (λ x. IfSome x (λ e. entry_line old.log e ≡ read ++ 10 ∷ [])) some told
          ∙ ap (λ l. l ++ 10 ∷ []) read_is;
    }

    by_result : (x : Result (Option Fault) E) → IfOk x (IsJudged old new entry) → IfOk x (LineJudged old new line)
    by_result (Ok why) h = judged-line old new entry line shown why is fits of_line h
    by_result (Err e) h = tt

-- no bytes are whole lines
pub rest-nothing : rest_of [] ≡ []
unfolding rest_after
rest-nothing = refl

ended-nothing : length (ended_lines []) ≡ 0
unfolding ended_after
ended-nothing = refl

-- a head is short
head-short : (log feeds desks : ℕ) → IsOneOrTwo log → IsOneOrTwo feeds → IsOneOrTwo desks → length (head_line log feeds desks) ≤ 100
head-short log feeds desks l f d =
    let one = digit log l in
    let two = digit feeds f in
    let three = digit desks d in
    by_digits (decimal log) (decimal feeds) (decimal desks) one two three
  where
    digit : (n : ℕ) → IsOneOrTwo n → length (decimal n) ≡ 1
    digit n fits = for_one_or_two (λ m. length (decimal m) ≡ 1) (ap length (decimal_digit 1 (omega arith))) (ap length (decimal_digit 2 (omega arith))) n fits

    by_digits : (a b c : List ℕ) → length a ≡ 1 → length b ≡ 1 → length c ≡ 1
        → length (line_of (codes "log" ∷ a ∷ codes "feeds" ∷ b ∷ codes "desks" ∷ c ∷ [])) ≤ 100
    by_digits [] b c x y z = absurd (omega (arith, x))
    by_digits (u ∷ v ∷ a) b c x y z = absurd (omega (arith, x))
    by_digits (u ∷ []) [] c x y z = absurd (omega (arith, y))
    by_digits (u ∷ []) (v ∷ w ∷ b) c x y z = absurd (omega (arith, y))
    by_digits (u ∷ []) (v ∷ []) [] x y z = absurd (omega (arith, z))
    by_digits (u ∷ []) (v ∷ []) (w ∷ t ∷ c) x y z = absurd (omega (arith, z))
    by_digits (u ∷ []) (v ∷ []) (w ∷ []) x y z = omega arith

-- the first line is no head
no-head-told : (before left : Option (List ℕ)) (lines : ReaderState) (version : ℕ) (line : List ℕ) → IsNextLine before left lines [] line
    → ((feeds desks : ℕ) → IsOneOrTwo feeds → IsOneOrTwo desks → head_line version feeds desks ≢ line ++ 10 ∷ [])
    → IsOneOrTwo version → HasReadNoHead before version
no-head-told before left lines version line next never fits =
    let front : List ℕ = line ++ 10 ∷ [] in
    let ended : length (ended_lines front) ≡ length (ended_lines []) + 1 = one-line-more [] line rest-nothing next.no_lf in
    told-by before left (front ++ lines.pending) (λ all. HasNoHead version all × Counts all 1) next.read.reads
    (λ later. (
      λ feeds desks f d begins. never feeds desks f d
          (head-first version feeds desks line (lines.pending ++ later) begins.0 fits f d next.no_lf (sym (append_assoc front (lines.pending) later) ∙ sym begins.1)),
      subst (λ all. Counts all 1) (sym (append_assoc front (lines.pending) later))
          (counts-front front (lines.pending ++ later) 1 (few-bytes next.read) (omega (arith, lines-counted next.read))
          (omega (arith, ended))),
    ))

pub head-over : (before left : Option (List ℕ)) (lines : ReaderState) (version : ℕ) (n : NextLine) → IsOneOrTwo version → n ≡ Line
    → IsNext before left lines [] n → lines.cutter.over ≡ true → HasReadNoHead before version
head-over before left lines version n fits is next over =
    let (line, it) = subst (IsNext before left lines []) is next in
    no-head-told before left lines version line it
    (λ feeds desks f d same. omega (
      arith,
      head-short version feeds desks fits f d,
      ap length same,
      length-append line (10 ∷ []),
      ltb-true LOG_LIMITS.line (length line) (sym it.over ∙ over),
    )) fits

pub head-found : (before left : Option (List ℕ)) (lines : ReaderState) (version : ℕ) (n : NextLine) (shown : List ℕ) (o : Option Head) → IsOneOrTwo version
    → n ≡ Line → IsNext before left lines [] n → lines.cutter.over ≡ false → shown ≡ lines.cutter.shown
    → IfSome o (λ head. (head.log ≡ version) × IsOneOrTwo head.feeds × IsOneOrTwo head.desks
    × (head_line version head.feeds head.desks ≡ shown ++ 10 ∷ []))
    → IfNone o ((feeds desks : ℕ) → IsOneOrTwo version → IsOneOrTwo feeds → IsOneOrTwo desks → head_line version feeds desks ≢ shown ++ 10 ∷ [])
    → MatchOption o (HasReadNoHead before version) (HasReadHead before left lines version)
head-found before left lines version n shown o fits is next over shown_is found never =
    let (line, it) = subst (IsNext before left lines []) is next in
    let same : (length line ≤ LOG_LIMITS.line) × (lines.cutter.shown ≡ line)
    = shown-all line lines.cutter.shown it.shown (λ more. not-true (sym over ∙ it.over ∙ more)) in
    by_head line it (shown_is ∙ same.1) o found never
  where
    not-true : false ≡ true → ⊥
    not-true h = cc h

    by_head : (line : List ℕ) → IsNextLine before left lines [] line → shown ≡ line → (x : Option Head)
        → IfSome x (λ head. (head.log ≡ version) × IsOneOrTwo head.feeds × IsOneOrTwo head.desks
        × (head_line version head.feeds head.desks ≡ shown ++ 10 ∷ []))
        → IfNone x ((feeds desks : ℕ) → IsOneOrTwo version → IsOneOrTwo feeds → IsOneOrTwo desks → head_line version feeds desks ≢ shown ++ 10 ∷ [])
        → MatchOption x (HasReadNoHead before version) (HasReadHead before left lines version)
    by_head line it shown_line None f nothing =
        no-head-told before left lines version line it
        (λ feeds desks fd dd same. nothing feeds desks fits fd dd (same ∙ ap (λ l. l ++ 10 ∷ []) (sym shown_line))) fits
    by_head line it shown_line (Some head) (log_is, feeds, desks, head_is) nothing = record {
      log_is = log_is;
      feeds_fit = feeds;
      desks_fit = desks;
      read = subst (HasRead before left lines) (sym (head_is ∙ ap (λ l. l ++ 10 ∷ []) shown_line)) it.read;
    }

at-end : (before left : Option (List ℕ)) (version : ℕ) (rest : List ℕ) → IsAtEnd before left [] rest → HasReadNoHead before version
at-end before left version rest end =
    all-read before left rest (λ all. HasNoHead version all × Counts all 1) end.reads end.to_end (
      λ feeds desks f d begins. no-head-first version feeds desks begins.0 rest end.no_lf (sym begins.1),
      λ long. absurd (end.within long),
    )

pub head-missing : (before left : Option (List ℕ)) (lines : ReaderState) (version : ℕ) (n : NextLine) → (n ≡ Line → ⊥)
    → IsNext before left lines [] n → HasReadNoHead before version
head-missing before left lines version Line other next = absurd (other refl)
head-missing before left lines version Unfinished other (rest, end, _) = at-end before left version rest end
head-missing before left lines version End other end = at-end before left version [] end

-- a head that is spelled so is of one version
pub other-version : (version feeds desks log feeds' desks' : ℕ) (line : List ℕ) → IsOneOrTwo version → IsOneOrTwo feeds → IsOneOrTwo desks
    → IsOneOrTwo log → IsOneOrTwo feeds' → IsOneOrTwo desks' → head_line log feeds' desks' ≡ line → head_line version feeds desks ≡ line → log ≡ version
other-version version feeds desks log feeds' desks' line v f d l f' d' one other =
    (texts-same log feeds' desks' version feeds desks [] []
    (record { log_version = l; feeds_number = f'; desks_number = d'; lines = λ k e low. absurd (omega (arith, low)) })
    (record { log_version = v; feeds_number = f; desks_number = d; lines = λ k e low. absurd (omega (arith, low)) })
    (text-nothing log feeds' desks' ∙ one ∙ sym other ∙ sym (text-nothing version feeds desks))).0

-- the log of a board
pub log-of : (board : Recorded) → IsLegal board.feeds board.desks board.start board.history
    → HasText board.start.settings.log board.feeds board.desks board.history
    → IsLogOf board.start board.feeds board.desks board.history (text_so_far board)
log-of board legal text = record { has_text = text; legal = legal; text_is = refl }

-- reading stops before the head
pub stops-head : (before left : Option (List ℕ)) (start : State) (stop : AuditFault) → IsStop before left [] stop → StopsReading before left start stop
stops-head before left start NoMemory stopped = tt
stops-head before left start ReadFault (rest, none, reads, within) = record {
  bytes = rest;
  reads = reads;
  within = within;
  none_wrong = λ line why wrong low.
      omega (arith, number-some start rest line why wrong, low, ended-nothing, ap length none);
}
stops-head before left start TooLong stopped = by_case before stopped
  where
    by_case : (o : Option (List ℕ)) → IfSome o (λ all. (more : List ℕ) × (all ≡ [] ++ more) × IsTooLong LOG_LIMITS all × (lines_within all ≤ length (ended_lines [])))
        → IfSome o (λ all. IsAnswer start all (Err TooLong))
    by_case None h = tt
    by_case (Some all) (more, is, long, within) = (
      long,
      λ line why wrong counts. omega (arith, number-some start all line why wrong, counts long, within, ended-nothing),
    )

-- reading stopped at a fault of the source, or a log is too long
pub stopped-fault : (before left : Option (List ℕ)) (start : State) (stop : AuditFault) → stop ≡ ReadFault → StopsReading before left start stop
    → FailsAfter start before left
stopped-fault before left start TooLong is stops = absurd (cc is)
stopped-fault before left start ReadFault is stops = stops
stopped-fault before left start NoMemory is stops = absurd (cc is)

pub stopped-long : (before left : Option (List ℕ)) (start : State) (stop : AuditFault) → stop ≢ NoMemory → stop ≢ ReadFault
    → StopsReading before left start stop → IfSome before (λ all. IsAnswer start all (Err stop))
stopped-long before left start TooLong memory fault stops = stops
stopped-long before left start ReadFault memory fault stops = absurd (fault refl)
stopped-long before left start NoMemory memory fault stops = absurd (memory refl)

-- the answer where there is no head
pub no-head-answer : (before : Option (List ℕ)) (start : State) → HasReadNoHead before start.settings.log
    → IfSome before (λ all. IsAnswer start all (Ok (No 1 Spelling)))
no-head-answer None start h = tt
no-head-answer (Some all) start h = (inl (h.0, refl, refl), h.1)

-- there is no other answer
pub only-answer : (before : Option (List ℕ)) (start : State) (r : Result Verdict AuditFault) → IsStart start
    → IfSome before (λ all. IsAnswer start all r)
    → IfSome before (λ all. (other : Result Verdict AuditFault) → IsAnswer start all other → other ≡ r)
only-answer None start r begins h = tt
only-answer (Some all) start r begins h = λ other also. one-answer start all r other begins h also

-- the text of a board that has no history
pub board-nothing : (board : Recorded) (log feeds desks : ℕ) → board.start.settings.log ≡ log → board.feeds ≡ feeds → board.desks ≡ desks
    → board.history ≡ [] → head_line log feeds desks ≡ text_so_far board
board-nothing board log feeds desks l f d h = sym ((λ i. text_of (l i) (f i) (d i) (h i)) ∙ text-nothing log feeds desks)
