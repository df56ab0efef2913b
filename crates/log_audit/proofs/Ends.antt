-- How an audit ends.
use Rattle.log_audit.proofs.Common.{◌≡◌, ◌≢◌, ℕ, ◌+◌, ◌-◌, ◌≤◌, inr, List, [], ◌∷◌, ◌++◌, length, take, Option, None, Some, refl, sym, ◌∙◌, ap, subst, arith, append_assoc, append-nil, length-append, IfSome, Ok, Err, take-append-add, ne_eqb, length-map, Reads, Reads-to_end, ended_after, rest_after, ended_lines, rest_of, ended_lines-append, ended_after-no_end, rest_after-append, rest_after-no_end, HasNoEnd, Entry, State, replay, entry_line, IsStart, cut-text, rest-text, ReaderState, HasNoLf, ReadFault, TooLong, Totals, Yes, No, Why, Spelling, Tells, IsLogOf, IsWrongEntry, IsWrongNext, IsAnswer, FailsAfter, LOG_LIMITS, IsTooLong, Counts, IsAtEnd, IsNextLine, IsStop, AreTotalsOf, IsFault}
use Rattle.trip_log.specs.inner.Cuts.{front_of}
use Rattle.log_audit.specs.declared.verdict.Why.TheVariants.{Actor as ToActor, Reply as ToReply, Batch as ToBatch, Seating as ToSeating, Prices as ToPrices, Outcomes as ToOutcomes}
use Rattle.log_audit.proofs.LogParts.{few-bytes, lines-counted, lines_within, told-by}
use Rattle.log_audit.proofs.OneAnswer.{wrong-later}
use Rattle.log_audit.proofs.WholeLines.{no-entry-first}

-- the lines of a text: the head, and one for each entry
pub count-text : (start : State) (feeds desks : ℕ) (entries : List Entry) (text : List ℕ) → IsLogOf start feeds desks entries text
    → length (ended_lines text) ≡ length entries + 1
count-text start feeds desks entries text good =
    let lines = ap (λ l. length (ended_lines l)) good.text_is ∙ ap length (cut-text start.settings.log feeds desks entries good.has_text) in
    omega (arith, lines, length-map entries (λ (entry : Entry). front_of (entry_line start.settings.log entry)))

pub whole-text : (start : State) (feeds desks : ℕ) (entries : List Entry) (text : List ℕ) → IsLogOf start feeds desks entries text
    → rest_of text ≡ []
whole-text start feeds desks entries text good = ap rest_of good.text_is ∙ rest-text start.settings.log feeds desks entries good.has_text

-- bytes without LF end no line
no_end : (bytes : List ℕ) → HasNoLf bytes → HasNoEnd bytes
no_end [] none = tt
no_end (b ∷ bytes) (first, rest) = (ne_eqb b 10 first, no_end bytes rest)

pub ended-rest : (bytes rest : List ℕ) → rest_of bytes ≡ [] → HasNoLf rest
    → (ended_lines (bytes ++ rest) ≡ ended_lines bytes) × (rest_of (bytes ++ rest) ≡ rest)
unfolding ended_after rest_after
ended-rest bytes rest whole none = (
  ended_lines-append bytes rest ∙ ap (λ l. ended_lines bytes ++ ended_after l rest) whole
      ∙ ap (λ l. ended_lines bytes ++ l) (ap (ended_after []) (sym (append-nil rest)) ∙ ended_after-no_end [] rest [] (no_end rest none))
      ∙ append-nil (ended_lines bytes),
  rest_after-append [] bytes rest ∙ ap (λ l. rest_after l rest) whole
      ∙ ap (rest_after []) (sym (append-nil rest)) ∙ rest_after-no_end [] rest [] (no_end rest none),
)

-- all the bytes that were told were read
pub all-read : (before left : Option (List ℕ)) (read : List ℕ) (P : List ℕ → Type 0) → Reads before left read → IfSome left (λ more. more ≡ [])
    → P read → IfSome before P
all-read before left read P reads end holds = by_case before (Reads-to_end reads end)
  where
    by_case : (o : Option (List ℕ)) → IfSome o (λ all. read ≡ all) → IfSome o P
    by_case None is = tt
    by_case (Some all) is = subst P is holds

-- the log is whole
pub ends-yes : (before left : Option (List ℕ)) (start : State) (feeds desks : ℕ) (entries : List Entry) (text : List ℕ) (totals : Totals)
    → IsLogOf start feeds desks entries text → AreTotalsOf feeds desks start entries totals → IsAtEnd before left text []
    → IfSome before (λ all. IsAnswer start all (Ok (Yes totals)))
ends-yes before left start feeds desks entries text totals good are end =
    all-read before left (text ++ []) (λ all. IsAnswer start all (Ok (Yes totals))) end.reads end.to_end
    (subst (λ all. IsAnswer start all (Ok (Yes totals))) (sym (append-nil text)) (
      feeds,
      desks,
      entries,
      good,
      are,
      λ long. end.within (subst (IsTooLong LOG_LIMITS) (sym (append-nil text)) long),
    ))

-- its last line has no LF
pub ends-unfinished : (before left : Option (List ℕ)) (start : State) (feeds desks : ℕ) (entries : List Entry) (text rest : List ℕ) (line : ℕ)
    → IsLogOf start feeds desks entries text → IsAtEnd before left text rest → rest ≢ [] → line ≡ length entries + 2
    → IfSome before (λ all. IsAnswer start all (Ok (No line Spelling)))
ends-unfinished before left start feeds desks entries text rest line good end some line_is =
    all-read before left (text ++ rest) (λ all. IsAnswer start all (Ok (No line Spelling))) end.reads end.to_end (
      inr (record {
        feeds = feeds;
        desks = desks;
        entries = entries;
        front = text;
        rest = rest;
        bytes_are = refl;
        log = good;
        wrong = (some, λ entry tells. no-entry-first start.settings.log entry tells.first.0 rest end.no_lf (sym tells.first.1));
        line_is = line_is;
      }),
      λ long. absurd (end.within long),
    )

-- a line that an LF ends within the limits counts
pub counts-front : (front more : List ℕ) (line : ℕ) → length front ≤ LOG_LIMITS.bytes → length (ended_lines front) ≤ LOG_LIMITS.lines
    → line ≤ length (ended_lines front) → Counts (front ++ more) line
counts-front front more line few_bytes few_lines low long =
    let split : take LOG_LIMITS.bytes (front ++ more) ≡ front ++ take (LOG_LIMITS.bytes - length front) more = take-append-more LOG_LIMITS.bytes front more few_bytes in
    omega (
      arith,
      low,
      few_lines,
      ap (λ l. length (ended_lines l)) split,
      ap length (ended_lines-append front (take (LOG_LIMITS.bytes - length front) more)),
      length-append (ended_lines front) (ended_after (rest_of front) (take (LOG_LIMITS.bytes - length front) more)),
    )
  where
    take-append-more : (n : ℕ) (xs ys : List ℕ) → length xs ≤ n → take n (xs ++ ys) ≡ xs ++ take (n - length xs) ys
    take-append-more n xs ys fits =
        let split : n ≡ length xs + (n - length xs) = omega arith in
        ap (λ m. take m (xs ++ ys)) split ∙ take-append-add xs ys (n - length xs)

-- a line with its LF ends one line
pub one-line-more : (text line : List ℕ) → rest_of text ≡ [] → HasNoLf line
    → length (ended_lines (text ++ line ++ 10 ∷ [])) ≡ length (ended_lines text) + 1
unfolding ended_after
one-line-more text line whole none =
    let (ended, rest) = ended-rest text line whole none in
    let lines : ended_lines ((text ++ line) ++ 10 ∷ []) ≡ ended_lines text ++ line ∷ []
    = ended_lines-append (text ++ line) (10 ∷ []) ∙ (λ i. ended i ++ ended_after (rest i) (10 ∷ [])) in
    omega (arith, ap length lines, length-append (ended_lines text) (line ∷ []))

-- a line is wrong after the text of a history
abbrev pub IsWrongAfter : State → ℕ → ℕ → List Entry → List ℕ → ℕ → Why → Type 0
IsWrongAfter start feeds desks entries all number why =
    ((w : IsWrongEntry start all number why) × (w.feeds ≡ feeds) × (w.desks ≡ desks) × (w.entries ≡ entries)) × Counts all number

pub ends-wrong-entry : (before left : Option (List ℕ)) (start : State) (feeds desks : ℕ) (entries : List Entry) (text line : List ℕ) (lines : ReaderState) (number : ℕ) (why : Why)
    → IsLogOf start feeds desks entries text → IsNextLine before left lines text line
    → ((more : List ℕ) → IsWrongNext start feeds desks entries ((line ++ 10 ∷ []) ++ more) why) → number ≡ length entries + 2
    → IfSome before (λ all. IsWrongAfter start feeds desks entries all number why)
ends-wrong-entry before left start feeds desks entries text line lines number why good next wrong number_is =
    let front : List ℕ = text ++ line ++ 10 ∷ [] in
    let ended : length (ended_lines front) ≡ length (ended_lines text) + 1
    = one-line-more text line (whole-text start feeds desks entries text good) next.no_lf in
    told-by before left (front ++ lines.pending) (λ all. IsWrongAfter start feeds desks entries all number why) next.read.reads
    (λ later. (
      (
        record {
          feeds = feeds;
          desks = desks;
          entries = entries;
          front = text;
          rest = (line ++ 10 ∷ []) ++ (lines.pending ++ later);
          bytes_are = append_assoc front (lines.pending) later ∙ ap (λ l. l ++ (lines.pending ++ later)) (append_assoc text line (10 ∷ []))
              ∙ append_assoc text (line ++ 10 ∷ []) (lines.pending ++ later);
          log = good;
          wrong = wrong (lines.pending ++ later);
          line_is = number_is;
        },
        refl,
        refl,
        refl,
      ),
      subst (λ all. Counts all number) (sym (append_assoc front (lines.pending) later))
          (counts-front front (lines.pending ++ later) number (few-bytes next.read) (omega (arith, lines-counted next.read))
          (omega (arith, number_is, ended, count-text start feeds desks entries text good))),
    ))

pub ends-wrong : (before left : Option (List ℕ)) (start : State) (feeds desks : ℕ) (entries : List Entry) (text line : List ℕ) (lines : ReaderState) (number : ℕ) (why : Why)
    → IsLogOf start feeds desks entries text → IsNextLine before left lines text line
    → ((more : List ℕ) → IsWrongNext start feeds desks entries ((line ++ 10 ∷ []) ++ more) why) → number ≡ length entries + 2
    → IfSome before (λ all. IsAnswer start all (Ok (No number why)))
ends-wrong before left start feeds desks entries text line lines number why good next wrong number_is =
    by_case before (ends-wrong-entry before left start feeds desks entries text line lines number why good next wrong number_is)
  where
    by_case : (o : Option (List ℕ)) → IfSome o (λ all. IsWrongAfter start feeds desks entries all number why)
        → IfSome o (λ all. IsAnswer start all (Ok (No number why)))
    by_case None h = tt
    by_case (Some all) ((w, _, _, _), counts) = (inr w, counts)

-- and it has its LF
pub wrong-ended : (before left : Option (List ℕ)) (start : State) (feeds desks : ℕ) (entries : List Entry) (text line : List ℕ) (lines : ReaderState)
    (number : ℕ) → IsLogOf start feeds desks entries text → IsNextLine before left lines text line → number ≡ length entries + 2
    → IfSome before (λ all. number ≤ length (ended_lines all))
wrong-ended before left start feeds desks entries text line lines number good next number_is =
    let front : List ℕ = text ++ line ++ 10 ∷ [] in
    let ended : length (ended_lines front) ≡ length (ended_lines text) + 1
    = one-line-more text line (whole-text start feeds desks entries text good) next.no_lf in
    told-by before left (front ++ lines.pending) (λ all. number ≤ length (ended_lines all)) next.read.reads
    (λ later. omega (
      arith,
      number_is,
      ended,
      count-text start feeds desks entries text good,
      ap (λ l. length (ended_lines l)) (append_assoc front lines.pending later),
      ap length (ended_lines-append front (lines.pending ++ later)),
      length-append (ended_lines front) (ended_after (rest_of front) (lines.pending ++ later)),
    ))

-- the log is too long
pub ends-too_long : (before left : Option (List ℕ)) (start : State) (feeds desks : ℕ) (entries : List Entry) (text : List ℕ) → IsStart start
    → IsLogOf start feeds desks entries text → IsStop before left text TooLong → IfSome before (λ all. IsAnswer start all (Err TooLong))
ends-too_long before left start feeds desks entries text begins good stop = by_case before stop
  where
    by_case : (o : Option (List ℕ)) → IfSome o (λ all. (more : List ℕ) × (all ≡ text ++ more) × IsTooLong LOG_LIMITS all × (lines_within all ≤ length (ended_lines text)))
        → IfSome o (λ all. IsAnswer start all (Err TooLong))
    by_case None h = tt
    by_case (Some all) (more, is, long, within) = (
      long,
      λ line why wrong counts.
          let late = wrong-later start feeds desks entries text more all line why begins good is wrong in
          omega (arith, late, within, counts long, count-text start feeds desks entries text good),
    )

-- a read failed
pub ends-fault : (before left : Option (List ℕ)) (start : State) (feeds desks : ℕ) (entries : List Entry) (text : List ℕ) → IsStart start
    → IsLogOf start feeds desks entries text → IsStop before left text ReadFault
    → FailsAfter start before left
ends-fault before left start feeds desks entries text begins good (rest, none, reads, within) = record {
  bytes = text ++ rest;
  reads = reads;
  within = within;
  none_wrong = λ line why wrong low.
      let late = wrong-later start feeds desks entries text rest (text ++ rest) line why begins good refl wrong in
      omega (
        arith,
        late,
        low,
        count-text start feeds desks entries text good,
        ap length none,
      );
}

-- an entry that is wrong at its place
pub wrong-next : (start : State) (feeds desks : ℕ) (entries : List Entry) (rest : List ℕ) (entry : Entry) (why : Why) → Tells start.settings.log rest entry
    → IsFault why feeds desks (replay start entries) entry.actor entry.event → IsWrongNext start feeds desks entries rest why
wrong-next start feeds desks entries rest entry Spelling tells fault = absurd (fault.fault tt)
wrong-next start feeds desks entries rest entry ToActor tells fault = (entry, tells, fault)
wrong-next start feeds desks entries rest entry ToReply tells fault = (entry, tells, fault)
wrong-next start feeds desks entries rest entry ToBatch tells fault = (entry, tells, fault)
wrong-next start feeds desks entries rest entry ToSeating tells fault = (entry, tells, fault)
wrong-next start feeds desks entries rest entry ToPrices tells fault = (entry, tells, fault)
wrong-next start feeds desks entries rest entry ToOutcomes tells fault = (entry, tells, fault)
