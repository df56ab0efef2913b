-- What a log gives back, and that it is nothing else.
use Rattle.log_audit.proofs.Common.{◌≡◌, ℕ, ◌≤◌, inl, inr, List, [], ◌∷◌, ◌++◌, length, Option, None, Some, Result, Ok, Err, refl, sym, ◌∙◌, ap, subst, arith, append-nil, length-append, IfSome, cases_lt, ended_lines, rest_of, replay, State, open_batch_of, IsOneOrTwo, IsStart, texts-same, Auditor, Fault, Restoration, AuditFault, ReadFault, TooLong, NoMemory, Why, Spelling, IsAnswer, IsLogOf, IsWrongLine, HasReadNoHead, text_so_far, HasReadAll, HasReadWrong, IsBoardOf, IsHeadOrEnded, IsRestoration, IsSameButRoom, StandsAt}
use Rattle.log_audit.specs.declared.restoring.Restored.{Restored}
use Rattle.log_audit.specs.declared.restoring.Restoration.TheVariants.{Standing, No}
use Rattle.log_audit.specs.declared.verdict.Verdict.TheVariants.{No as NoVerdict}
use Rattle.log_audit.proofs.AuditSteps.{no-head-answer}
use Rattle.log_audit.proofs.Ends.{all-read, count-text, ended-rest, whole-text, wrong-ended}
use Rattle.log_audit.proofs.OneAnswer.{split-longer, wrong-later, wrong-same}
use Rattle.log_audit.proofs.Readings.{wrong-answer}

-- a wrong line that is the head or has its LF
no-of : (o : Option (List ℕ)) (start : State) (line : ℕ) (why : Why) → IfSome o (λ all. IsAnswer start all (Ok (NoVerdict line why)))
    → IfSome o (λ all. IsHeadOrEnded all line) → IfSome o (λ all. IsRestoration start all (Ok (No line why)))
no-of None start line why wrong ended = tt
no-of (Some all) start line why (wrong, counts) ended = (wrong, counts, ended)

pub no-head-restored : (before : Option (List ℕ)) (start : State) → HasReadNoHead before start.settings.log
    → IfSome before (λ all. IsRestoration start all (Ok (No 1 Spelling)))
no-head-restored before start none = no-of before start 1 Spelling (no-head-answer before start none) (first before)
  where
    first : (o : Option (List ℕ)) → IfSome o (λ all. IsHeadOrEnded all 1)
    first None = tt
    first (Some all) = inl refl

pub wrong-restored : (before left : Option (List ℕ)) (start : State) (new : Auditor) (number : ℕ) (fault : Fault)
    → HasReadWrong before left start new number fault → IfSome before (λ all. IsRestoration start all (Ok (No number fault.why)))
wrong-restored before left start new number fault w =
    let board = w.old.board in
    no-of before start number fault.why (wrong-answer before left start new number fault w)
    (ended before (wrong-ended before left board.start board.feeds board.desks board.history (text_so_far board) w.line w.lines number w.log w.next w.number_is))
  where
    ended : (o : Option (List ℕ)) → IfSome o (λ all. number ≤ length (ended_lines all)) → IfSome o (λ all. IsHeadOrEnded all number)
    ended None h = tt
    ended (Some all) h = inr h

desk-one : IsOneOrTwo 1
desk-one = (omega arith, omega arith)

desk-two : IsOneOrTwo 2
desk-two = (omega arith, omega arith)

-- the board of an audit that has read all of a log, and its batches, whatever the bytes are
module _ (before left : Option (List ℕ)) (start : State) (auditor : Auditor) (rest : List ℕ) (restored : Restored)
    (read : HasReadAll before left start auditor rest)
    (is : restored ≡ record { board = auditor.board; first = auditor.batches.first; second = auditor.batches.second }) where
  pub board-restored : IsBoardOf start restored
  board-restored = subst (IsBoardOf start) (sym is) (record {
    start_is = read.start_is;
    few = read.few;
    first_is = read.auditing.open_are 1 desk-one;
    second_is = read.auditing.open_are 2 desk-two;
  })

  -- and what the bytes are
  pub all-restored : IfSome before (λ all. IsRestoration start all (Ok (Standing restored)))
  all-restored =
      all-read before left (text_so_far auditor.board ++ rest) (λ all. StandsAt start all restored) read.end.reads read.end.to_end
      (subst (StandsAt start (text_so_far auditor.board ++ rest)) (sym is) (record {
        text = text_so_far auditor.board;
        torn = rest;
        bytes_are = refl;
        no_lf = read.end.no_lf;
        within = read.end.within;
        start_is = read.start_is;
        log = subst (λ (s : State). IsLogOf s auditor.board.feeds auditor.board.desks auditor.board.history (text_so_far auditor.board)) read.start_is read.log;
        first_is = read.auditing.open_are 1 desk-one;
        second_is = read.auditing.open_are 2 desk-two;
      }))

-- what stands behind the last LF is what no LF ends
torn-is : (start : State) (bytes : List ℕ) (restored : Restored) (s : StandsAt start bytes restored)
    → (ended_lines bytes ≡ ended_lines s.text) × (rest_of bytes ≡ s.torn)
torn-is start bytes restored s =
    let (ended, rest) = ended-rest s.text s.torn
    (whole-text start restored.board.feeds restored.board.desks restored.board.history s.text s.log) s.no_lf in
    (ap ended_lines s.bytes_are ∙ ended, ap rest_of s.bytes_are ∙ rest)

-- a board does not stand where a line is wrong that is the head or has its LF
not-wrong : (start : State) (bytes : List ℕ) (restored : Restored) (line : ℕ) (why : Why) → IsStart start → StandsAt start bytes restored
    → IsWrongLine start bytes line why → IsHeadOrEnded bytes line → ⊥
not-wrong start bytes restored line why begins s wrong where_is =
    let board = restored.board in
    let late = wrong-later start board.feeds board.desks board.history s.text s.torn bytes line why begins s.log s.bytes_are wrong in
    let (ended, _) = torn-is start bytes restored s in
    elim where_is [
      | inl first ↦ omega (arith, first, late)
      | inr low ↦ omega (arith, low, late, ap length ended, count-text start board.feeds board.desks board.history s.text s.log)
    ]

-- fronts with the same rest are the same
same-front : (xs ys rest : List ℕ) → xs ++ rest ≡ ys ++ rest → xs ≡ ys
same-front xs ys rest same = elim (cases_lt (length xs) (length ys)) [
  | inl shorter ↦ ordered xs ys same (omega (arith, shorter))
  | inr longer ↦ sym (ordered ys xs (sym same) (omega (arith, longer)))
]
  where
    no-length : (zs : List ℕ) → length zs ≤ 0 → zs ≡ []
    no-length [] h = refl
    no-length (z ∷ zs) h = absurd (omega arith)

    ordered : (less more : List ℕ) → less ++ rest ≡ more ++ rest → length less ≤ length more → less ≡ more
    ordered less more whole short =
        let (mid, longer, split) = split-longer less rest more rest whole short in
        let none : mid ≡ [] = no-length mid (omega (arith, ap length split, length-append mid rest)) in
        sym (longer ∙ ap (λ l. less ++ l) none ∙ append-nil less)

-- two boards that stand are the same but for their room
stands-same : (start : State) (bytes : List ℕ) (a b : Restored) → StandsAt start bytes a → StandsAt start bytes b
    → a ≡ record b { board = record b.board { spare = a.board.spare } }
stands-same start bytes a b one two =
    let torn : one.torn ≡ two.torn = sym (torn-is start bytes a one).1 ∙ (torn-is start bytes b two).1 in
    let texts : one.text ≡ two.text
    = same-front one.text two.text two.torn (ap (λ l. one.text ++ l) (sym torn) ∙ sym one.bytes_are ∙ two.bytes_are) in
    let log : ℕ = start.settings.log in
    let (_, feeds, desks, entries) = texts-same log a.board.feeds a.board.desks log b.board.feeds b.board.desks a.board.history b.board.history
    one.log.has_text two.log.has_text (sym one.log.text_is ∙ texts ∙ two.log.text_is) in
    let starts : a.board.start ≡ b.board.start = one.start_is ∙ sym two.start_is in
    let first : a.first ≡ b.first = one.first_is ∙ (λ i. open_batch_of (replay (starts i) (entries i)) 1) ∙ sym two.first_is in
    let second : a.second ≡ b.second = one.second_is ∙ (λ i. open_batch_of (replay (starts i) (entries i)) 2) ∙ sym two.second_is in
    (λ i. record {
      board = record { start = starts i; feeds = feeds i; desks = desks i; history = entries i; spare = a.board.spare };
      first = first i;
      second = second i;
    })

-- a log gives one thing back
pub one-restoration : (start : State) (bytes : List ℕ) (answer other : Result Restoration AuditFault) → IsStart start
    → IsRestoration start bytes answer → IsRestoration start bytes other → IsSameButRoom other answer
one-restoration start bytes (Ok (Standing a)) (Ok (Standing b)) begins one two = stands-same start bytes b a two one
one-restoration start bytes (Ok (Standing a)) (Ok (No line why)) begins one (wrong, _, ended) =
    absurd (not-wrong start bytes a line why begins one wrong ended)
one-restoration start bytes (Ok (Standing a)) (Err TooLong) begins one (long, _) = absurd (one.within long)
one-restoration start bytes (Ok (Standing a)) (Err ReadFault) begins one h = absurd h
one-restoration start bytes (Ok (Standing a)) (Err NoMemory) begins one h = absurd h
one-restoration start bytes (Ok (No line why)) (Ok (Standing b)) begins (wrong, _, ended) two =
    absurd (not-wrong start bytes b line why begins two wrong ended)
one-restoration start bytes (Ok (No line why)) (Ok (No line' why')) begins (wrong, _, _) (wrong', _, _) =
    let (lines, whys) = wrong-same start bytes line' line why' why begins wrong' wrong in
    (λ i. Ok (No (lines i) (whys i)))
one-restoration start bytes (Ok (No line why)) (Err TooLong) begins (wrong, counts, _) (long, none) = absurd (none line why wrong counts)
one-restoration start bytes (Ok (No line why)) (Err ReadFault) begins one h = absurd h
one-restoration start bytes (Ok (No line why)) (Err NoMemory) begins one h = absurd h
one-restoration start bytes (Err TooLong) (Ok (Standing b)) begins (long, _) two = absurd (two.within long)
one-restoration start bytes (Err TooLong) (Ok (No line why)) begins (long, none) (wrong, counts, _) = absurd (none line why wrong counts)
one-restoration start bytes (Err TooLong) (Err TooLong) begins h k = refl
one-restoration start bytes (Err TooLong) (Err ReadFault) begins h k = absurd k
one-restoration start bytes (Err TooLong) (Err NoMemory) begins h k = absurd k
one-restoration start bytes (Err ReadFault) other begins h k = absurd h
one-restoration start bytes (Err NoMemory) other begins h k = absurd h

pub only-restoration : (before : Option (List ℕ)) (start : State) (r : Result Restoration AuditFault) → IsStart start
    → IfSome before (λ all. IsRestoration start all r)
    → IfSome before (λ all. (other : Result Restoration AuditFault) → IsRestoration start all other → IsSameButRoom other r)
only-restoration None start r begins h = tt
only-restoration (Some all) start r begins h = λ other also. one-restoration start all r other begins h also
