-- The lines of a log: what a reader of them gives, and where it stops.
use Rattle.log_audit.proofs.Common.{◌≡◌, ℕ, ◌+◌, ◌≤◌, inl, inr, List, [], ◌∷◌, ◌++◌, length, take, min, Option, None, Some, refl, ap, sym, subst, ◌∙◌, arith, append_assoc, length-append, nat_lt, take_all, IfSome, cases_lt, length-take, take-append-le, Reads, Reads-none, Reads-then, Reads-told, ended_lines, last_line, rest_of, lines-grow, NextLine, Line, Unfinished, End, ReaderState, IsStopped, ReadFault, TooLong, IsTooLong, LOG_LIMITS, TakesSome, HasRead, IsAtEnd, IsNext, IsStop}
use Rattle.line_text.specs.declared.line_reader.answers.ReadStop.TheVariants.{SourceFailed as ReadFailed, TooLong as ReadTooLong}
use Rattle.line_text.specs.declared.line_reader.limits.Limits.{Limits}
use Rattle.line_text.specs.line_reader.Limits.{IsWithinLimits, lines_within as lines_in}
use Rattle.line_text.specs.inner.line_reader.Reader.{IsNext as IsNextText, IsAtEnd as IsAtEndText}
use Rattle.line_text.proofs.line_reader.LineParts.{lines-within}

-- how many lines an LF ends within the limits
abbrev pub lines_within : List ℕ → ℕ
lines_within bytes = min LOG_LIMITS.lines (length (ended_lines (take LOG_LIMITS.bytes bytes)))

-- what the bytes begin that are told
pub told-by : (before left : Option (List ℕ)) (read : List ℕ) (P : List ℕ → Type 0) → Reads before left read
    → ((rest : List ℕ) → P (read ++ rest)) → IfSome before P
told-by before left read P reads each =
    elim before as (λ o. before ≡ o → IfSome o P) [
      | None ↦ λ _. tt
      | Some all ↦ λ is. let (rest, _, all_is) = Reads-told all reads is in subst P (sym all_is) (each rest)
    ] refl

-- nothing was taken of a source
pub takes-none : (known : Option (List ℕ)) → TakesSome known known
takes-none known = ([], Reads-none known)

-- some bytes were taken, and then some more
pub takes-then : {a b c : Option (List ℕ)} → TakesSome a b → TakesSome b c → TakesSome a c
takes-then {a} {b} {c} (xs, first) (ys, second) = (xs ++ ys, Reads-then first second)

-- what was read is within the limits
pub few-bytes : {before left : Option (List ℕ)} {lines : ReaderState} {bytes : List ℕ} → HasRead before left lines bytes → length bytes ≤ LOG_LIMITS.bytes
few-bytes read = omega (arith, read.given.read.bytes_counted, ap (λ (l : Limits). l.bytes) read.limits)

pub lines-counted : {before left : Option (List ℕ)} {lines : ReaderState} {bytes : List ℕ} → HasRead before left lines bytes
    → length (ended_lines bytes) + lines.lines_left ≡ LOG_LIMITS.lines
lines-counted read = read.given.read.lines_counted ∙ ap (λ (l : Limits). l.lines) read.limits

-- a text within the limits is not too long
not-too-long : (limits : Limits) (bytes : List ℕ) → limits ≡ LOG_LIMITS → IsWithinLimits limits bytes → IsTooLong LOG_LIMITS bytes → ⊥
not-too-long limits bytes are within (inl long) = omega (arith, long, within.few_bytes, ap (λ (l : Limits). l.bytes) are)
not-too-long limits bytes are within (inr many) = omega (arith, many, within.few_lines, ap (λ (l : Limits). l.lines) are)

-- a last line is at most one
last-few : (rest : List ℕ) → length (last_line rest) ≤ 1
last-few [] = omega arith
last-few (b ∷ rest) = omega arith

-- of a text that is too long no more lines count, whatever comes after it
module _ (bytes all more : List ℕ) (are : lines_in LOG_LIMITS all ≡ ended_lines bytes) (long : IsTooLong LOG_LIMITS all) where
  still-long : IsTooLong LOG_LIMITS (all ++ more)
  still-long = by_cause long
    where
      by_cause : IsTooLong LOG_LIMITS all → IsTooLong LOG_LIMITS (all ++ more)
      by_cause (inl far) = inl (omega (arith, far, length-append all more))
      by_cause (inr many) = inr (omega (arith, many, lines-grow all more))

  count : min LOG_LIMITS.lines (length (ended_lines (take LOG_LIMITS.bytes all))) ≡ length (ended_lines bytes)
  count = sym (length-take LOG_LIMITS.lines (ended_lines (take LOG_LIMITS.bytes all))) ∙ ap length are

  none-more : lines_within (all ++ more) ≤ length (ended_lines bytes)
  none-more = elim (cases_lt LOG_LIMITS.bytes (length all)) [
    | inl far ↦ omega (arith, count, ap (λ l. length (ended_lines l)) (take-append-le LOG_LIMITS.bytes all more (omega (arith, far))))
    | inr few ↦ by_cause few long
  ]
    where
      by_cause : length all ≤ LOG_LIMITS.bytes → IsTooLong LOG_LIMITS all → lines_within (all ++ more) ≤ length (ended_lines bytes)
      by_cause few (inl far) = absurd (omega (arith, few, far))
      by_cause few (inr many) =
          omega (
            arith,
            count,
            ap (λ l. length (ended_lines l)) (take_all LOG_LIMITS.bytes all few),
            many,
            length-append (ended_lines all) (last_line (rest_of all)),
            last-few (rest_of all),
          )

-- what was read next
module _ (before left later : Option (List ℕ)) (old : ReaderState) (bytes more : List ℕ) (has : HasRead before left old bytes)
    (reads : Reads left later more) where
  abbrev came : List ℕ
  came = old.pending ++ more

  all-reads : Reads before later (bytes ++ came)
  all-reads = subst (λ (l : List ℕ). Reads before later l) (append_assoc bytes old.pending more) (Reads-then has.reads reads)

  at-end : (limits : Limits) → limits ≡ LOG_LIMITS → IsAtEndText later limits bytes came → IsAtEnd before later bytes came
  at-end limits are end = record {
    no_lf = end.no_lf;
    reads = all-reads;
    to_end = end.to_end;
    within = not-too-long limits (bytes ++ came) are end.within;
  }

  pub next-read : (new : ReaderState) (next : NextLine) → new.limits ≡ old.limits → IsNextText later new bytes came next
      → IsNext before later new bytes next
  next-read new Line limits (line, it) =
      let are : new.limits ≡ LOG_LIMITS = limits ∙ has.limits in (
        line,
        record {
          no_lf = it.no_lf;
          read = record {
            limits = are;
            given = it.given;
            reads = subst (λ (l : List ℕ). Reads before later l)
                (ap (λ l. bytes ++ l) it.parts ∙ sym (append_assoc bytes (line ++ 10 ∷ []) new.pending)
                ∙ ap (λ l. l ++ new.pending) (sym (append_assoc bytes line (10 ∷ [])))) all-reads;
          };
          shown = it.shown.bytes ∙ ap (λ (l : Limits). take l.line line) are;
          over = it.shown.over ∙ ap (λ (l : Limits). nat_lt l.line (length line)) are;
        },
      )
  next-read new Unfinished limits (end, some, shown) = (came, at-end new.limits (limits ∙ has.limits) end, some)
  next-read new End limits (end, none) = subst (IsAtEnd before later bytes) none (at-end new.limits (limits ∙ has.limits) end)

  -- and where nothing was
  pub stop-failed : IsStopped old.limits bytes came ReadFailed → IsStop before later bytes ReadFault
  stop-failed stopped = (
    came,
    sym (lines-within old.limits (bytes ++ came) stopped.why) ∙ stopped.lines_are,
    all-reads,
    not-too-long old.limits (bytes ++ came) has.limits stopped.why,
  )

  pub stop-long : IsStopped old.limits bytes came ReadTooLong → IsStop before later bytes TooLong
  stop-long stopped =
      let stops : IsStopped LOG_LIMITS bytes came ReadTooLong = subst (λ (l : Limits). IsStopped l bytes came ReadTooLong) has.limits stopped in
      told-by before later (bytes ++ came)
      (λ all. (rest : List ℕ) × (all ≡ bytes ++ rest) × IsTooLong LOG_LIMITS all × (lines_within all ≤ length (ended_lines bytes))) all-reads
      (λ rest. (
        came ++ rest,
        append_assoc bytes came rest,
        still-long bytes (bytes ++ came) rest stops.lines_are stops.why,
        none-more bytes (bytes ++ came) rest stops.lines_are stops.why,
      ))
