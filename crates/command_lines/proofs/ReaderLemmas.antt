-- What a reader of a feed has given after one more line.
use Rattle.command_lines.proofs.Common.{◌≡◌, ◌≢◌, ℕ, ◌+◌, ◌≤◌, Bool, true, false, MatchBool, List, [], ◌∷◌, ◌++◌, Option, Some, length, refl, ap, sym, subst, ◌∙◌, arith, append_assoc, append-nil, IfSome, length_push, cons_option, Command, ended_after, ended_lines, last_line, lines_of, last_line-some, Limits, ReaderState, StopsAt, IsAtEnd, IsNextLine, commands_from, commands_of, said_by, FeedState, HasCut, HasGiven, IsStopped, FeedForm, AreFirst, ended_commands, limits_of, IsForm}
use Rattle.line_text.specs.declared.line_reader.answers.ReadStop.{ReadStop}
use Rattle.line_text.specs.line_reader.Limits.{IsWithinLimits, lines_within}
use Rattle.line_text.specs.inner.line_reader.Reader.{HasGiven as HasGivenLines, IsStopped as IsStoppedText}
use Rattle.line_text.proofs.line_reader.FeedLines.{lines-at_end}
use Rattle.command_lines.specs.Feeds.{IsWhole}
use Rattle.command_lines.proofs.LineCommands.{commands_from-append, commands_from-one, ended-first, length-commands_from-le}

-- what a reader that goes on has given
pub going : (reader : FeedState) (left : Option (List ℕ)) (commands : List Command) (bytes : List ℕ) → reader.ended ≡ false
    → HasGiven reader left commands bytes → HasCut reader commands bytes
going reader left commands bytes goes given =
    subst (λ (b : Bool). MatchBool b (IsWhole reader.form left commands bytes) (HasCut reader commands bytes)) goes given.given

given-going : (reader : FeedState) (left : Option (List ℕ)) (commands : List Command) (bytes : List ℕ) → reader.ended ≡ false
    → IsForm reader.form → HasCut reader commands bytes → HasGiven reader left commands bytes
given-going reader left commands bytes goes fits has = record {
  form_is = fits;
  given = subst (λ (b : Bool). MatchBool b (IsWhole reader.form left commands bytes) (HasCut reader commands bytes)) (sym goes) has;
}

-- and one that came to the end
given-whole : (reader : FeedState) (left : Option (List ℕ)) (commands : List Command) (bytes : List ℕ) → reader.ended ≡ true
    → IsForm reader.form → IsWhole reader.form left commands bytes → HasGiven reader left commands bytes
given-whole reader left commands bytes ended fits whole = record {
  form_is = fits;
  given = subst (λ (b : Bool). MatchBool b (IsWhole reader.form left commands bytes) (HasCut reader commands bytes)) (sym ended) whole;
}

-- nothing is given at first
pub given-nothing : (reader : FeedState) (left : Option (List ℕ)) → IsForm reader.form → reader.ended ≡ false → reader.lines.limits ≡ limits_of reader.form.lines
    → HasGivenLines reader.lines [] → reader.lines.pending ≡ [] → HasGiven reader left [] []
unfolding ended_after commands_from
given-nothing reader left fits goes limits given none = given-going reader left [] [] goes fits (record {
  cut = [];
  parts = sym none;
  limits = limits;
  given = given;
  commands_are = refl;
})

-- the commands of lines and of one more
commands-then : (log : ℕ) (lines : List (List ℕ)) (line : List ℕ)
    → commands_from log 1 lines ++ cons_option (said_by log (length lines + 1) line) [] ≡ commands_from log 1 (lines ++ line ∷ [])
commands-then log lines line =
    sym (commands_from-append log 1 lines (line ∷ [])
    ∙ ap (λ cs. commands_from log 1 lines ++ cs)
    (ap (λ n. commands_from log n (line ∷ [])) (omega arith) ∙ commands_from-one log (length lines + 1) line))

-- a line's number is that of the lines before it and one
pub number-next : (most : ℕ) (reader : ReaderState) (cut came line : List ℕ) → most ≤ 1000000 → reader.limits ≡ limits_of most
    → IsNextLine reader cut came line → length (ended_lines cut) + 1 ≤ 1000000
number-next most reader cut came line few limits next =
    omega (
      arith,
      few,
      next.given.read.lines_counted,
      ap (λ (l : Limits). l.lines) limits,
      ap length next.lines_are,
      length_push (ended_lines cut) line,
    )

pub number-last : (most : ℕ) (left : Option (List ℕ)) (limits : Limits) (cut came : List ℕ) → most ≤ 1000000 → limits ≡ limits_of most
    → IsAtEnd left limits cut came → came ≢ [] → length (ended_lines cut) + 1 ≤ 1000000
number-last most left limits cut came few are end some =
    omega (
      arith,
      few,
      end.within.few_lines,
      ap (λ (l : Limits). l.lines) are,
      ap length (lines-at_end limits left cut came end ∙ ap (λ ls. ended_lines cut ++ ls) (last_line-some came some)),
      length_push (ended_lines cut) came,
    )

module _ (old new : FeedState) (left : Option (List ℕ)) (commands : List Command) (bytes more : List ℕ) (has : HasCut old commands bytes)
    (fits : IsForm old.form) (form : new.form ≡ old.form) where
  -- the bytes that were taken, and then came
  came-is : bytes ++ more ≡ has.cut ++ (old.lines.pending ++ more)
  came-is = ap (λ l. l ++ more) has.parts ∙ append_assoc has.cut old.lines.pending more

  -- with the next line
  pub given-line : (line : List ℕ) → new.ended ≡ false → new.lines.limits ≡ old.lines.limits
      → IsNextLine new.lines has.cut (old.lines.pending ++ more) line
      → HasGiven new left (commands ++ cons_option (said_by old.form.log (length (ended_lines has.cut) + 1) line) []) (bytes ++ more)
  given-line line goes limits next =
      let all : bytes ++ more ≡ (has.cut ++ line ++ 10 ∷ []) ++ new.lines.pending
      = came-is ∙ ap (λ l. has.cut ++ l) next.parts ∙ sym (append_assoc has.cut (line ++ 10 ∷ []) new.lines.pending)
      ∙ ap (λ l. l ++ new.lines.pending) (sym (append_assoc has.cut line (10 ∷ []))) in
      given-going new left _ (bytes ++ more) goes (subst IsForm (sym form) fits) (record {
        cut = has.cut ++ line ++ 10 ∷ [];
        parts = all;
        limits = limits ∙ has.limits ∙ ap (λ (f : FeedForm). limits_of f.lines) (sym form);
        given = next.given;
        commands_are = ap (λ cs. cs ++ cons_option (said_by old.form.log (length (ended_lines has.cut) + 1) line) []) has.commands_are
            ∙ commands-then old.form.log (ended_lines has.cut) line
            ∙ ap (commands_from old.form.log 1) (sym next.lines_are)
            ∙ ap (λ (f : FeedForm). commands_from f.log 1 (ended_lines (has.cut ++ line ++ 10 ∷ []))) (sym form);
      })

  whole : (all : List Command) → new.ended ≡ true → IsAtEnd left old.lines.limits has.cut (old.lines.pending ++ more)
      → all ≡ commands_of old.form.log (has.cut ++ (old.lines.pending ++ more)) → HasGiven new left all (bytes ++ more)
  whole all ended end are = given-whole new left all (bytes ++ more) ended (subst IsForm (sym form) fits) (record {
    within = subst (λ (f : FeedForm). IsWithinLimits (limits_of f.lines) (bytes ++ more)) (sym form)
        (subst (λ (l : List ℕ). IsWithinLimits (limits_of old.form.lines) l) (sym came-is)
        (subst (λ (l : Limits). IsWithinLimits l (has.cut ++ (old.lines.pending ++ more))) has.limits end.within));
    commands_are = are ∙ ap (commands_of old.form.log) (sym came-is) ∙ ap (λ (f : FeedForm). commands_of f.log (bytes ++ more)) (sym form);
    to_end = end.to_end;
  })

  -- with the last line, which no LF ends
  pub given-last : new.ended ≡ true → IsAtEnd left old.lines.limits has.cut (old.lines.pending ++ more) → old.lines.pending ++ more ≢ []
      → HasGiven new left (commands ++ cons_option (said_by old.form.log (length (ended_lines has.cut) + 1) (old.lines.pending ++ more)) []) (bytes ++ more)
  given-last ended end some =
      whole _ ended end
      (ap (λ cs. cs ++ cons_option (said_by old.form.log (length (ended_lines has.cut) + 1) (old.lines.pending ++ more)) []) has.commands_are
      ∙ commands-then old.form.log (ended_lines has.cut) (old.lines.pending ++ more)
      ∙ ap (λ ls. commands_from old.form.log 1 (ended_lines has.cut ++ ls)) (sym (last_line-some (old.lines.pending ++ more) some))
      ∙ ap (commands_from old.form.log 1) (sym (lines-at_end old.lines.limits left has.cut (old.lines.pending ++ more) end)))

  -- with nothing more
  pub given-end : new.ended ≡ true → IsAtEnd left old.lines.limits has.cut (old.lines.pending ++ more) → old.lines.pending ++ more ≡ []
      → HasGiven new left (commands ++ []) (bytes ++ more)
  given-end ended end none =
      whole (commands ++ []) ended end
      (append-nil commands ∙ has.commands_are
      ∙ ap (commands_from old.form.log 1) (sym (lines-at_end old.lines.limits left has.cut (old.lines.pending ++ more) end
      ∙ ap (λ l. ended_lines has.cut ++ last_line l) none ∙ append-nil (ended_lines has.cut))))

  -- no line comes
  ended-are : lines_within old.lines.limits (has.cut ++ (old.lines.pending ++ more)) ≡ ended_lines has.cut → commands ≡ ended_commands old.form (bytes ++ more)
  ended-are are =
      has.commands_are ∙ ap (commands_from old.form.log 1) (sym are)
      ∙ ap (λ (l : Limits). commands_from old.form.log 1 (lines_within l (has.cut ++ (old.lines.pending ++ more)))) has.limits
      ∙ ap (ended_commands old.form) (sym came-is)

  pub stopped : (stop : ReadStop) → IsStoppedText old.lines.limits has.cut (old.lines.pending ++ more) stop → IsStopped old.form stop commands (bytes ++ more)
  stopped stop has_stopped = (
    subst (λ (l : List ℕ). StopsAt (limits_of old.form.lines) l stop) (sym came-is)
        (subst (λ (l : Limits). StopsAt l (has.cut ++ (old.lines.pending ++ more)) stop) has.limits has_stopped.why),
    ended-are has_stopped.lines_are,
  )

-- a feed gives no more commands than it may have lines
pub given-few : (reader : FeedState) (left : Option (List ℕ)) (commands : List Command) (bytes : List ℕ) → HasGiven reader left commands bytes
    → length commands ≤ reader.form.lines
given-few reader left commands bytes given = by_end reader.ended given.given
  where
    by_end : (ended : Bool) → MatchBool ended (IsWhole reader.form left commands bytes) (HasCut reader commands bytes) → length commands ≤ reader.form.lines
    by_end true whole =
        omega (arith, ap length whole.commands_are, length-commands_from-le reader.form.log 1 (lines_of bytes), whole.within.few_lines)
    by_end false has =
        omega (
          arith,
          ap length has.commands_are,
          length-commands_from-le reader.form.log 1 (ended_lines has.cut),
          has.given.read.lines_counted,
          ap (λ (l : Limits). l.lines) has.limits,
        )

-- the commands that were given are the first of those of more bytes, and at the end of the feed there are no more
first-of-more : (reader : FeedState) (left : Option (List ℕ)) (commands : List Command) (bytes rest : List ℕ) → (IfSome left (λ l. l ≡ []) → rest ≡ [])
    → HasGiven reader left commands bytes → AreFirst commands (commands_of reader.form.log (bytes ++ rest))
first-of-more reader left commands bytes rest at_end given = by_end reader.ended given.given
  where
    by_end : (ended : Bool) → MatchBool ended (IsWhole reader.form left commands bytes) (HasCut reader commands bytes)
        → AreFirst commands (commands_of reader.form.log (bytes ++ rest))
    by_end true whole = (
      [],
      ap (λ l. commands_of reader.form.log (bytes ++ l)) (at_end whole.to_end) ∙ ap (commands_of reader.form.log) (append-nil bytes) ∙ sym whole.commands_are
          ∙ sym (append-nil commands),
    )
    by_end false has =
        let all : bytes ++ rest ≡ has.cut ++ (reader.lines.pending ++ rest)
        = ap (λ l. l ++ rest) has.parts ∙ append_assoc has.cut reader.lines.pending rest in
        subst (λ (cs : List Command). AreFirst cs (commands_of reader.form.log (bytes ++ rest))) (sym has.commands_are)
        (subst (λ (l : List ℕ). AreFirst (commands_from reader.form.log 1 (ended_lines has.cut)) (commands_of reader.form.log l)) (sym all)
        (ended-first reader.form.log has.cut (reader.lines.pending ++ rest)))

-- the first of the bytes that were taken
pub given-first : (reader : FeedState) (left : Option (List ℕ)) (commands : List Command) (bytes : List ℕ) → HasGiven reader left commands bytes
    → AreFirst commands (commands_of reader.form.log bytes)
given-first reader left commands bytes given =
    subst (λ (l : List ℕ). AreFirst commands (commands_of reader.form.log l)) (append-nil bytes) (first-of-more reader left commands bytes [] (λ _. refl) given)

-- and of all the feed's bytes
pub given-first-of-all : (reader : FeedState) (rest : List ℕ) (commands : List Command) (bytes : List ℕ) → HasGiven reader (Some rest) commands bytes
    → AreFirst commands (commands_of reader.form.log (bytes ++ rest))
given-first-of-all reader rest commands bytes given = first-of-more reader (Some rest) commands bytes rest (λ none. none) given
