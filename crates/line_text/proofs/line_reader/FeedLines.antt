-- The lines of a feed that were taken when it ended or was stopped.
use Rattle.line_text.proofs.Common.{◌≡◌, ◌≢◌, ℕ, ◌+◌, ◌-◌, ◌^◌, ◌<◌, min, Bool, true, false, nat_lt, take, List, [], ◌∷◌, ◌++◌, length, Option, Some, None, Result, Ok, Err, refl, ap, sym, subst, ◌∙◌, arith, append_assoc, append-nil, length-append, IfSome, MatchResult, false_from_ne_true, ended_lines, last_line, lines_of, rest_of, Reads, Reads-none, Reads-then, Reads-to_end, Reads-told, NextLine, Line, Unfinished, End, ReadStop, SourceFailed, TooLong, Limits, IsTooLong, IsWithinLimits, lines_within, HasGiven, ReaderState, IsAtEnd, IsNext, IsNextLine, IsShown, IsStopped, KeepsCount}
use mathlib.Core.List.{IsPrefix}
use Rattle.line_text.proofs.LineLemmas.{last_line-some}
use Rattle.ride_ports.specs.declared.outcome.Ran.{Ran}
use Rattle.line_text.specs.declared.line_reader.stops.Stop.{Stop}
use Rattle.line_text.specs.declared.line_reader.stops.Stop.TheVariants.{NoMemory, OfFeed}
use Rattle.line_text.specs.inner.line_reader.FeedRuns.{HasRun, IsBetween, IsEnded, is_source_failed, ran_of}
use Rattle.line_text.specs.inner.line_reader.Reader.{is_fault}
use Rattle.line_text.specs.line_reader.FeedRuns.{AreFirstLines, IsReadWhole, IsUnhindered}
use Rattle.line_text.proofs.line_reader.LineParts.{ended-after_whole, first-within}

-- whole lines are the first lines of them and more bytes
first-of-more : (bytes more : List ℕ) → rest_of bytes ≡ [] → IsPrefix (ended_lines bytes) (lines_of (bytes ++ more))
first-of-more bytes more whole = (
  ended_lines more ++ last_line (rest_of (bytes ++ more)),
  sym (append_assoc (ended_lines bytes) (ended_lines more) (last_line (rest_of (bytes ++ more))))
      ∙ ap (λ ls. ls ++ last_line (rest_of (bytes ++ more))) (sym (ended-after_whole bytes more whole)),
)

-- whole lines that were read are the first of a feed
whole-first : (feed left : Option (List ℕ)) (bytes more : List ℕ) → rest_of bytes ≡ [] → Reads feed left (bytes ++ more)
    → AreFirstLines feed (bytes ++ more) (ended_lines bytes)
whole-first feed left bytes more whole reads = record {
  of_taken = first-of-more bytes more whole;
  of_feed = each feed reads;
}
  where
    each : (o : Option (List ℕ)) → Reads o left (bytes ++ more) → IfSome o (λ all. IsPrefix (ended_lines bytes) (lines_of all))
    each None r = tt
    each (Some all) r =
        let (rest, _, is) = Reads-told all r refl in
        subst (λ (l : List ℕ). IsPrefix (ended_lines bytes) (lines_of l)) (sym (is ∙ append_assoc bytes more rest))
        (first-of-more bytes (more ++ rest) whole)

-- all lines are those of a feed that was read to its end
all-first : (feed left : Option (List ℕ)) (taken : List ℕ) → Reads feed left taken → IfSome left (λ rest. rest ≡ []) → AreFirstLines feed taken (lines_of taken)
all-first feed left taken reads end = record {
  of_taken = ([], append-nil (lines_of taken));
  of_feed = each feed (Reads-to_end reads end);
}
  where
    each : (o : Option (List ℕ)) → IfSome o (λ all. taken ≡ all) → IfSome o (λ all. IsPrefix (lines_of taken) (lines_of all))
    each None h = tt
    each (Some all) h = subst (λ (l : List ℕ). IsPrefix (lines_of taken) (lines_of l)) h ([], append-nil (lines_of taken))

-- no lines are the first of any feed
pub none-first : (feed : Option (List ℕ)) → AreFirstLines feed [] []
none-first feed = record { of_taken = (lines_of [], refl); of_feed = each feed }
  where
    each : (o : Option (List ℕ)) → IfSome o (λ all. IsPrefix [] (lines_of all))
    each None = tt
    each (Some all) = (lines_of all, refl)

-- before the first line of a feed
pub between-none : (feed : Option (List ℕ)) (reader : ReaderState) → HasGiven reader [] → reader.pending ≡ [] → IsBetween feed feed reader []
between-none feed reader given bare = record { given = given; reads = subst (λ (l : List ℕ). Reads feed feed l) (sym bare) (Reads-none feed) }

-- what was read, with what came
reads-on : (feed left later : Option (List ℕ)) (bytes pending more : List ℕ) → Reads feed left (bytes ++ pending) → Reads left later more
    → Reads feed later (bytes ++ (pending ++ more))
reads-on feed left later bytes pending more reads then = subst (λ (l : List ℕ). Reads feed later l) (append_assoc bytes pending more) (Reads-then reads then)

-- with the next line
reads-line : (feed left : Option (List ℕ)) (reader : ReaderState) (bytes came line : List ℕ) → Reads feed left (bytes ++ came)
    → IsNextLine reader bytes came line → Reads feed left ((bytes ++ line ++ 10 ∷ []) ++ reader.pending)
reads-line feed left reader bytes came line reads next =
    subst (λ (l : List ℕ). Reads feed left l)
    (ap (λ l. bytes ++ l) next.parts ∙ sym (append_assoc bytes (line ++ 10 ∷ []) reader.pending)
    ∙ ap (λ l. l ++ reader.pending) (sym (append_assoc bytes line (10 ∷ [])))) reads

-- the lines of whole lines and a rest
pub lines-at_end : (limits : Limits) (left : Option (List ℕ)) (bytes rest : List ℕ) → IsAtEnd left limits bytes rest
    → lines_of (bytes ++ rest) ≡ ended_lines bytes ++ last_line rest
lines-at_end limits left bytes rest end = (λ i. end.ended_are i ++ last_line (end.rest_is i))

-- a feed that was stopped in its midst
run-cut : (limits : Limits) (feed left : Option (List ℕ)) (stop : Stop) (failed : Bool) (bytes more : List ℕ) → rest_of bytes ≡ []
    → Reads feed left (bytes ++ more) → IsEnded limits (Some stop) left (bytes ++ more) failed (ended_lines bytes)
    → HasRun limits feed left (Some stop) failed (bytes ++ more) (ended_lines bytes)
run-cut limits feed left stop failed bytes more whole reads ended = record {
  reads = reads;
  first = whole-first feed left bytes more whole reads;
  ended = ended;
}

-- a feed of which no more was read, as the sink failed
pub run-sink_failed : (limits : Limits) (feed left : Option (List ℕ)) (reader : ReaderState) (failed : Bool) (bytes : List ℕ)
    → IsBetween feed left reader bytes → failed ≡ true
    → HasRun limits feed left None failed (bytes ++ reader.pending) (ended_lines bytes)
run-sink_failed limits feed left reader failed bytes between fell = record {
  reads = between.reads;
  first = whole-first feed left bytes reader.pending between.given.whole between.reads;
  ended = λ stood. absurd (cc (fell, stood));
}

-- a feed that was taken to its end
run-whole : (limits : Limits) (feed left : Option (List ℕ)) (failed : Bool) (bytes rest : List ℕ) (lines : List (List ℕ)) → Reads feed left (bytes ++ rest)
    → IsAtEnd left limits bytes rest → lines ≡ ended_lines bytes ++ last_line rest → HasRun limits feed left None failed (bytes ++ rest) lines
run-whole limits feed left failed bytes rest lines reads end are =
    let all : lines ≡ lines_of (bytes ++ rest) = are ∙ sym (lines-at_end limits left bytes rest end) in
    record {
      reads = reads;
      first = subst (λ (ls : List (List ℕ)). AreFirstLines feed (bytes ++ rest) ls) (sym all) (all-first feed left (bytes ++ rest) reads end.to_end);
      ended = λ _. (all, end.within, end.to_end);
    }

-- fewer lines than the limit were taken where one more is read
few-next : (limits : Limits) (reader : ReaderState) (bytes came line : List ℕ) → reader.limits ≡ limits
    → IsNextLine reader bytes came line → length (ended_lines bytes) < limits.lines
few-next limits reader bytes came line are next =
    omega (
      arith,
      next.given.read.lines_counted,
      ap length next.lines_are,
      length-append (ended_lines bytes) (line ∷ []),
      ap (λ (l : Limits). l.lines) are,
    )

few-last : (limits : Limits) (left : Option (List ℕ)) (bytes rest : List ℕ) → IsAtEnd left limits bytes rest → rest ≢ []
    → length (ended_lines bytes) < limits.lines
few-last limits left bytes rest end some =
    omega (
      arith,
      end.within.few_lines,
      ap length (lines-at_end limits left bytes rest end),
      length-append (ended_lines bytes) (last_line rest),
      ap length (last_line-some rest some),
    )

-- a line that came after the lines of some bytes, each of which was taken: one more may be, the reader shows it, and where memory is
-- wanting for it the feed is stopped
pub record HasCome (limits : Limits) (feed left : Option (List ℕ)) (reader : ReaderState) (bytes came line : List ℕ) : Type 0 where
  pub few : length (ended_lines bytes) < limits.lines
  pub numbered : reader.cutter.number ≡ min (length (ended_lines bytes) + 1) (2 ^ 64 - 1)
  pub shown : reader.cutter.shown ≡ take limits.line line
  pub over : reader.cutter.over ≡ nat_lt limits.line (length line)
  pub wanting : (failed : Bool) → HasRun limits feed left (Some NoMemory) failed (bytes ++ came) (ended_lines bytes)

has-come : (limits : Limits) (feed left : Option (List ℕ)) (reader : ReaderState) (bytes came line : List ℕ) → reader.limits ≡ limits
    → rest_of bytes ≡ [] → Reads feed left (bytes ++ came) → length (ended_lines bytes) < limits.lines
    → IsShown reader (length (ended_lines bytes) + 1) line → HasCome limits feed left reader bytes came line
has-come limits feed left reader bytes came line are whole reads few shown = record {
  few = few;
  numbered = shown.numbered;
  shown = shown.bytes ∙ ap (λ (l : Limits). take l.line line) are;
  over = shown.over ∙ ap (λ (l : Limits). nat_lt l.line (length line)) are;
  wanting = λ failed. run-cut limits feed left NoMemory failed bytes came whole reads tt;
}

-- what a reader's answer after the lines of some bytes says of a feed: a line came, and once it is taken the next one may; the last line
-- came, and once it is taken the feed has run; the feed has run; or it was stopped
abbrev pub Follows : Limits → Option (List ℕ) → Option (List ℕ) → ReaderState → List ℕ → List ℕ → Result NextLine ReadStop → Type 0
Follows limits feed left reader bytes came (Ok Line) = (line : List ℕ) × HasCome limits feed left reader bytes came line
    × IsBetween feed left reader (bytes ++ line ++ 10 ∷ []) × (ended_lines (bytes ++ line ++ 10 ∷ []) ≡ ended_lines bytes ++ line ∷ [])
Follows limits feed left reader bytes came (Ok Unfinished) = HasCome limits feed left reader bytes came came
    × ((failed : Bool) → HasRun limits feed left None failed (bytes ++ came) (ended_lines bytes ++ came ∷ []))
Follows limits feed left reader bytes came (Ok End) = (failed : Bool) → HasRun limits feed left None failed (bytes ++ came) (ended_lines bytes)
Follows limits feed left reader bytes came (Err stop) =
    (failed : Bool) → HasRun limits feed left (Some (OfFeed stop)) failed (bytes ++ came) (ended_lines bytes)

each-follows : (limits : Limits) (feed left : Option (List ℕ)) (reader : ReaderState) (bytes came : List ℕ) (answer : Result NextLine ReadStop)
    → reader.limits ≡ limits → rest_of bytes ≡ [] → Reads feed left (bytes ++ came)
    → MatchResult answer (IsNext left reader bytes came) (IsStopped limits bytes came) → Follows limits feed left reader bytes came answer
each-follows limits feed left reader bytes came (Ok Line) are whole reads (line, next) = (
  line,
  has-come limits feed left reader bytes came line are whole reads (few-next limits reader bytes came line are next) next.shown,
  record { given = next.given; reads = reads-line feed left reader bytes came line reads next },
  next.lines_are,
)
each-follows limits feed left reader bytes came (Ok Unfinished) are whole reads (at_end, some, shown) =
    let end : IsAtEnd left limits bytes came = subst (λ (l : Limits). IsAtEnd left l bytes came) are at_end in (
      has-come limits feed left reader bytes came came are whole reads (few-last limits left bytes came end some) shown,
      λ failed. run-whole limits feed left failed bytes came (ended_lines bytes ++ came ∷ []) reads end
          (ap (λ ls. ended_lines bytes ++ ls) (sym (last_line-some came some))),
    )
each-follows limits feed left reader bytes came (Ok End) are whole reads (at_end, none) =
    let end : IsAtEnd left limits bytes came = subst (λ (l : Limits). IsAtEnd left l bytes came) are at_end in
    λ failed. run-whole limits feed left failed bytes came (ended_lines bytes) reads end
    (sym (append-nil (ended_lines bytes)) ∙ ap (λ l. ended_lines bytes ++ last_line l) (sym none))
each-follows limits feed left reader bytes came (Err stop) are whole reads stopped =
    λ failed. run-cut limits feed left (OfFeed stop) failed bytes came whole reads (sym stopped.lines_are, stopped.why)

-- the same of the answer of a reader that is told to go on
pub follows : (limits : Limits) (feed left later : Option (List ℕ)) (old new : ReaderState) (bytes : List ℕ) (result answer : Result NextLine ReadStop)
    → result ≡ answer → old.limits ≡ limits → new.limits ≡ old.limits → IsBetween feed left old bytes
    → ((more : List ℕ) × Reads left later more × ((taken : List ℕ) → HasGiven old taken → MatchResult result
    (IsNext later new taken (old.pending ++ more)) (IsStopped old.limits taken (old.pending ++ more))))
    → (came : List ℕ) × Follows limits feed later new bytes came answer
follows limits feed left later old new bytes result answer is old_are new_are between next =
    let (more, came, step) = next in (
      old.pending ++ more,
      each-follows limits feed later new bytes (old.pending ++ more) answer (new_are ∙ old_are) between.given.whole
          (reads-on feed left later bytes old.pending more between.reads came)
          (subst (λ (r : Result NextLine ReadStop). MatchResult r (IsNext later new bytes (old.pending ++ more)) (IsStopped limits bytes (old.pending ++ more))) is
          (subst (λ (l : Limits). MatchResult result (IsNext later new bytes (old.pending ++ more)) (IsStopped l bytes (old.pending ++ more))) old_are
          (step bytes between.given))),
    )

-- a stop of the source is a fault of it
pub fault-stops : (T : Type 0) (stop : ReadStop) (before after : ℕ) → KeepsCount (is_fault {T = T} (Err stop)) before after
    → KeepsCount (is_source_failed (Some (OfFeed stop))) before after
fault-stops T SourceFailed before after kept = kept
fault-stops T TooLong before after kept = kept

-- an output that failed stays so
pub run-still : (limits : Limits) (feed left : Option (List ℕ)) (stop : Option Stop) (failed later : Bool) (taken : List ℕ) (lines : List (List ℕ))
    → (failed ≡ true → later ≡ true) → HasRun limits feed left stop failed taken lines → HasRun limits feed left stop later taken lines
run-still limits feed left stop failed later taken lines still run = record { reads = run.reads; first = run.first; ended = each stop run.ended }
  where
    each : (s : Option Stop) → IsEnded limits s left taken failed lines → IsEnded limits s left taken later lines
    each None ended = λ stood. ended (false_from_ne_true failed (λ fell. absurd (cc (still fell, stood))))
    each (Some NoMemory) ended = tt
    each (Some (OfFeed why)) ended = ended

-- which lines were taken, by what kept a session from running whole
pub record AreTaken (limits : Limits) (ran : Ran) (stop : Option Stop) (left : Option (List ℕ)) (taken : List ℕ) (lines : List (List ℕ)) : Type 0 where
  pub whole : IsUnhindered ran → IsReadWhole ran → (stop ≡ None) × (lines ≡ lines_of taken)
  pub cut : IsUnhindered ran → (IsReadWhole ran → ⊥) → (why : ReadStop) × (stop ≡ Some (OfFeed why)) × (lines ≡ lines_within limits taken)
  pub no_memory : ran.sink_failed ≡ false → ran.no_memory ≡ true → stop ≡ Some NoMemory
  pub within : IsUnhindered ran → ran.too_long ≡ false → IsWithinLimits limits taken
  pub too_long : ran.too_long ≡ true → IsTooLong limits taken
  pub none_left : IsUnhindered ran → IsReadWhole ran → IfSome left (λ rest. rest ≡ [])

pub are-taken : (limits : Limits) (stop : Option Stop) (left : Option (List ℕ)) (taken : List ℕ) (failed : Bool) (lines : List (List ℕ))
    → IsEnded limits stop left taken failed lines → AreTaken limits (ran_of stop failed) stop left taken lines
are-taken limits None left taken failed lines ended = record {
  whole = λ written _. (refl, (ended written.0).0);
  cut = λ _ short. absurd (short (refl, refl));
  no_memory = λ _ wanting. absurd (cc wanting);
  within = λ written _. (ended written.0).1;
  too_long = λ is. absurd (cc is);
  none_left = λ written _. (ended written.0).2;
}
are-taken limits (Some NoMemory) left taken failed lines none = record {
  whole = λ written _. absurd (let no : true ≡ false = written.1 in cc);
  cut = λ written _. absurd (let no : true ≡ false = written.1 in cc);
  no_memory = λ _ _. refl;
  within = λ written _. absurd (let no : true ≡ false = written.1 in cc);
  too_long = λ is. absurd (cc is);
  none_left = λ written _. absurd (let no : true ≡ false = written.1 in cc);
}
are-taken limits (Some (OfFeed SourceFailed)) left taken failed lines (are, why) = record {
  whole = λ _ read. absurd (let no : true ≡ false = read.0 in cc);
  cut = λ _ _. (SourceFailed, refl, are);
  no_memory = λ _ wanting. absurd (cc wanting);
  within = λ _ _. why;
  too_long = λ is. absurd (cc is);
  none_left = λ _ read. absurd (let no : true ≡ false = read.0 in cc);
}
are-taken limits (Some (OfFeed TooLong)) left taken failed lines (are, why) = record {
  whole = λ _ read. absurd (let no : true ≡ false = read.1 in cc);
  cut = λ _ _. (TooLong, refl, are);
  no_memory = λ _ wanting. absurd (cc wanting);
  within = λ _ short. absurd (cc short);
  too_long = λ _. why;
  none_left = λ _ read. absurd (let no : true ≡ false = read.1 in cc);
}

-- a feed within the limits is not too long
pub short-enough : (limits : Limits) (feed left : Option (List ℕ)) (taken : List ℕ) (long : Bool) → Reads feed left taken
    → (long ≡ true → IsTooLong limits taken) → IfSome feed (λ bytes. IsWithinLimits limits bytes → long ≡ false)
short-enough limits feed left taken long reads too_long = each feed reads
  where
    each : (o : Option (List ℕ)) → Reads o left taken → IfSome o (λ bytes. IsWithinLimits limits bytes → long ≡ false)
    each None r = tt
    each (Some bytes) r =
        let (rest, _, is) = Reads-told bytes r refl in
        λ within. false_from_ne_true long (λ is_long.
        first-within limits taken rest (subst (λ (l : List ℕ). IsWithinLimits limits l) is within) (too_long is_long))
