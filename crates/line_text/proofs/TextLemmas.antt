-- What a text gives, from what its first bytes give.
use Rattle.line_text.proofs.Common.{◌≡◌, ◌≢◌, ℕ, ◌+◌, ◌<◌, ◌≤◌, suc, nat_lt, true, false, cond, List, [], ◌∷◌, ◌++◌, length, take, Result, Ok, Err, refl, ap, ◌∙◌, length-append, arith, lt-ltb, le-ltb, take_at, ended_lines, lines_of, AreFirst, counted_lines, Format, and_then, after_lines, after_ended, text_value}

-- a refusal decides, whatever lines follow
pub after_lines-refused : {S V E : Type 0} (format : Format S V E) (number : ℕ) (state : S) (e : E) (lines more : List (List ℕ)) →
    after_lines format number state lines ≡ Err e → after_lines format number state (lines ++ more) ≡ Err e
unfolding after_lines
after_lines-refused format number state e [] more is = cc
after_lines-refused {S} {V} {E} format number state e (line ∷ lines) more is =
    elim (format.line number state line) as (λ (r : Result S E). and_then r (λ next. after_lines format (number + 1) next lines) ≡ Err e →
    and_then r (λ next. after_lines format (number + 1) next (lines ++ more)) ≡ Err e) [
      | Ok next ↦ λ is. after_lines-refused format (number + 1) next e lines more is
      | Err d ↦ λ is. (cc)
    ] is

-- lines that follow lines with no refusal
pub after_lines-append : {S V E : Type 0} (format : Format S V E) (number : ℕ) (state after : S) (lines more : List (List ℕ)) →
    after_lines format number state lines ≡ Ok after → after_lines format number state (lines ++ more) ≡ after_lines format (number + length lines) after more
unfolding after_lines
after_lines-append {S} {V} {E} format number state after [] more is =
    let same : state ≡ after = cc in
    ap (λ (s : S). after_lines format number s more) same ∙ ap (λ n. after_lines format n after more) (omega arith)
after_lines-append {S} {V} {E} format number state after (line ∷ lines) more is =
    elim (format.line number state line) as (λ (r : Result S E). and_then r (λ next. after_lines format (number + 1) next lines) ≡ Ok after →
    and_then r (λ next. after_lines format (number + 1) next (lines ++ more)) ≡ after_lines format (number + suc (length lines)) after more) [
      | Ok next ↦ λ is. after_lines-append format (number + 1) next after lines more is ∙ ap (λ n. after_lines format n after more) (omega arith)
      | Err d ↦ λ is. (cc)
    ] is

-- one more line
pub after_lines-push : {S V E : Type 0} (format : Format S V E) (state after : S) (lines : List (List ℕ)) (line : List ℕ) →
    after_lines format 1 state lines ≡ Ok after → after_lines format 1 state (lines ++ line ∷ []) ≡ format.line (length lines + 1) after line
unfolding after_lines
after_lines-push {S} {V} {E} format state after lines line is =
    after_lines-append format 1 state after lines (line ∷ []) is
    ∙ only (format.line (1 + length lines) after line) ∙ ap (λ n. format.line n after line) (omega arith)
  where
    only : (r : Result S E) → and_then r (λ next. Ok next) ≡ r
    only (Ok next) = refl
    only (Err e) = refl

-- the first faulty line of those that count decides
pub text_value-refused : {S V E : Type 0} (format : Format S V E) (e : E) (lines : List (List ℕ)) (bytes : List ℕ) →
    AreFirst lines (counted_lines format.most bytes) → after_lines format 1 format.start lines ≡ Err e → text_value format bytes ≡ Err e
text_value-refused {S} {V} {E} format e lines bytes first is =
    elim (nat_lt format.most (length bytes)) as (λ v.
    AreFirst lines (cond v (ended_lines (take format.most bytes)) (lines_of bytes)) →
    cond v (and_then (after_ended format (take format.most bytes)) (λ _. Err format.too_long))
    (and_then (after_lines format 1 format.start (lines_of bytes)) format.finish) ≡ Err e) [
      | true ↦ λ first. ap (λ (r : Result S E). and_then r (λ _. Err format.too_long)) (refused (ended_lines (take format.most bytes)) first)
      | false ↦ λ first. ap (λ (r : Result S E). and_then r format.finish) (refused (lines_of bytes) first)
    ] first
  where
    refused : (all : List (List ℕ)) → AreFirst lines all → after_lines format 1 format.start all ≡ Err e
    refused all (more, whole) = ap (after_lines format 1 format.start) whole ∙ after_lines-refused format 1 format.start e lines more is

-- more bytes than the format allows
pub text_value-too_long : {S V E : Type 0} (format : Format S V E) (state : S) (front more : List ℕ) → length front ≡ format.most → 0 < length more →
    after_ended format front ≡ Ok state → text_value format (front ++ more) ≡ Err format.too_long
text_value-too_long {S} {V} {E} format state front more full some is =
    rw (lt-ltb format.most (length (front ++ more)) (simp length-append (omega arith)), take_at front more format.most full, is) refl

-- a text with no faulty line
pub text_value-taken : {S V E : Type 0} (format : Format S V E) (state : S) (bytes : List ℕ) → length bytes ≤ format.most →
    after_lines format 1 format.start (lines_of bytes) ≡ Ok state → text_value format bytes ≡ format.finish state
text_value-taken {S} {V} {E} format state bytes short is = rw (le-ltb format.most (length bytes) short, is) refl

-- a text that is not empty has a byte
pub some_bytes : (bytes : List ℕ) → bytes ≢ [] → 0 < length bytes
some_bytes [] some = absurd (some refl)
some_bytes (byte ∷ bytes) some = omega arith
