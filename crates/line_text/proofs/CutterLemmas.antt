-- What a cutter shows after one more part of a piece.
use Rattle.line_text.proofs.Common.{◌≡◌, ◌≢◌, ℕ, suc, ◌+◌, ◌-◌, ◌^◌, ◌<◌, ◌≤◌, min, nat_lt, Bool, true, false, not, cond, ◌==◌, ◌||◌, ◌&&◌, List, [], ◌∷◌, ◌++◌, length, take, refl, ap, sym, subst, subst₂, ◌∙◌, append_assoc, append-nil, length-append, length-take, arith, MatchBool, ltb-false, ltb-true, lt-ltb, le-ltb, ne_eqb, take_all, take-append-le, take_at, nil_from_length, length_push, take_min, take-append-add, list_any, ended_after, rest_after, ended_lines, rest_of, first_line, CutterState, Shows, ShowsRest, HasTaken, EndsLine, Continues, begun, kept, taken, taken_len}
use Rattle.std.proofs.Math.Bool.{and-true, and-false}
use Rattle.std.proofs.lemmas.Bool.Decides.{nat_tests}
use Rattle.line_text.proofs.LineLemmas.{HasNoEnd, line_end, first_line-no_end, take-first_line, ended_lines-part, rest_of-part, ended_after-append, rest_after-append}

take-nil : (n : ℕ) → ◌≡◌ {A = List ℕ} (take {A = ℕ} n []) []
take-nil n = nil_from_length (take {A = ℕ} n []) (rw (length-take {A = ℕ} n []) (omega arith))

none-lt : (n : ℕ) → nat_lt n 0 ≡ false
none-lt n = grind (arith, nat_tests)

-- a new cutter has taken nothing
pub HasTaken-nothing : (cutter : CutterState) → cutter.number ≡ 1 → cutter.shown ≡ [] → cutter.over ≡ false → cutter.ended ≡ false → HasTaken cutter []
unfolding ended_after rest_after
HasTaken-nothing cutter number shown over ended =
    subst (λ (v : Bool). MatchBool v ((before : List ℕ) × ([] ≡ before ++ 10 ∷ []) × ShowsRest cutter before) (ShowsRest cutter [])) (sym ended) (record {
      numbered = number;
      kept = shown ∙ sym (take-nil cutter.most);
      more = over ∙ sym (none-lt cutter.most);
    })

-- an LF ends the line after the last LF
ended_lines-end : (bytes : List ℕ) → ended_lines (bytes ++ 10 ∷ []) ≡ ended_lines bytes ++ rest_of bytes ∷ []
unfolding ended_after rest_after
ended_lines-end bytes = ended_after-append [] bytes (10 ∷ [])

rest_of-end : (bytes : List ℕ) → rest_of (bytes ++ 10 ∷ []) ≡ []
unfolding ended_after rest_after
rest_of-end bytes = rest_after-append [] bytes (10 ∷ [])

number-next : (number count next : ℕ) → number ≡ min (count + 1) (2 ^ 64 - 1) → next ≡ count + 1 → min (number + 1) (2 ^ 64 - 1) ≡ min (next + 1) (2 ^ 64 - 1)
number-next number count next is more = omega arith

-- before the next byte a cutter shows the bytes after the last LF
pub begun-shows : (cutter : CutterState) (bytes : List ℕ) → HasTaken cutter bytes → ShowsRest (begun cutter) bytes
begun-shows cutter bytes =
    elim (cutter.ended) as (λ v. MatchBool v ((before : List ℕ) × (bytes ≡ before ++ 10 ∷ []) × ShowsRest cutter before) (ShowsRest cutter bytes)
    → ShowsRest (cond v (record { most = cutter.most; number = min (cutter.number + 1) (2 ^ 64 - 1); shown = []; over = false; ended = false }) cutter) bytes) [
      | true ↦ λ has.
          let before = has.0 in
          let rest : rest_of bytes ≡ [] = ap rest_of has.1 ∙ rest_of-end before in
          let count : length (ended_lines bytes) ≡ length (ended_lines before) + 1 =
          ap (λ b. length (ended_lines b)) has.1 ∙ ap length (ended_lines-end before) ∙ length_push (ended_lines before) (rest_of before) in
          record {
            numbered = number-next cutter.number (length (ended_lines before)) (length (ended_lines bytes)) has.2.numbered count;
            kept = sym (ap (take cutter.most) rest ∙ take-nil cutter.most);
            more = sym (ap (λ r. nat_lt cutter.most (length r)) rest ∙ none-lt cutter.most);
          }
      | false ↦ λ has. has
    ]

-- the first bytes of a line whose bytes come in two parts
take-both : (most : ℕ) (line more : List ℕ) → take most (take most line ++ more) ≡ take most (line ++ more)
take-both most line more =
    elim (nat_lt (length line) most) as (λ v. nat_lt (length line) most ≡ v → take most (take most line ++ more) ≡ take most (line ++ more)) [
      | true ↦ λ is. let short : length line < most = ltb-true _ _ is in
          ap (λ l. take most (l ++ more)) (take_all most line (omega arith))
      | false ↦ λ is. let long : most ≤ length line = ltb-false _ _ is in
          let cut : length (take most line) ≡ most = rw length-take (omega arith) in
          take_at (take most line) more most cut ∙ sym (take-append-le most line more long)
    ] refl

over-both : (most : ℕ) (line more : List ℕ) → (nat_lt most (length line) || nat_lt most (length (take most line) + length more)) ≡ nat_lt most (length (line ++ more))
over-both most line more =
    let cut : length (take most line) ≡ min most (length line) = length-take most line in
    let both : length (line ++ more) ≡ length line + length more = length-append line more in
    elim (nat_lt most (length line)) as (λ v. nat_lt most (length line) ≡ v → (v || nat_lt most (length (take most line) + length more)) ≡ nat_lt most (length (line ++ more))) [
      | true ↦ λ is. let long : most < length line = ltb-true _ _ is in sym (lt-ltb _ _ (omega arith))
      | false ↦ λ is. let short : length line ≤ most = ltb-false _ _ is in
          ap (λ n. nat_lt most n) (omega arith)
    ] refl

-- a cutter with more bytes of its line shows the longer line
pub kept-shows : (cutter : CutterState) (number : ℕ) (line more : List ℕ) → Shows cutter number line → Shows (kept cutter more) number (line ++ more)
kept-shows cutter number line more shows = record {
  numbered = shows.numbered;
  kept = ap (λ l. take cutter.most (l ++ more)) shows.kept ∙ take-both cutter.most line more;
  more = ap (λ o. o || nat_lt cutter.most (length cutter.shown + length more)) shows.more
      ∙ ap (λ l. nat_lt cutter.most (length line) || nat_lt cutter.most (length l + length more)) shows.kept
      ∙ over-both cutter.most line more;
}

-- the line that it shows then
taken-shows : (cutter : CutterState) (bytes piece : List ℕ) → HasTaken cutter bytes →
    Shows (taken cutter piece) (length (ended_lines bytes) + 1) (rest_of bytes ++ first_line piece)
taken-shows cutter bytes piece has =
    let shows = kept-shows (begun cutter) _ (rest_of bytes) (first_line piece) (begun-shows cutter bytes has) in
    record { numbered = shows.numbered; kept = shows.kept; more = shows.more }

-- the part of the piece that it takes
taken_part : (piece : List ℕ) → take (taken_len piece) piece ≡ first_line piece ++ line_end (list_any (λ b. b == 10) piece)
taken_part piece = take-first_line piece

-- the part ends a line or goes on with it
lines-at : (cutter : CutterState) (bytes part : List ℕ) (whole : Bool) → HasNoEnd part → Shows cutter (length (ended_lines bytes) + 1) (rest_of bytes ++ part) →
    MatchBool whole (EndsLine cutter bytes (part ++ line_end whole)) (Continues bytes (part ++ line_end whole))
unfolding ended_after rest_after
lines-at cutter bytes part true none shows = record {
  line = rest_of bytes ++ part;
  ends = ended_lines-part bytes part true none;
  begins = rest_of-part bytes part true none;
  shows = shows;
}
lines-at cutter bytes part false none shows = record {
  ends = ended_lines-part bytes part false none ∙ append-nil (ended_lines bytes);
  goes_on = rest_of-part bytes part false none ∙ ap (λ p. rest_of bytes ++ p) (sym (append-nil part));
}

pub taken-lines : (cutter : CutterState) (bytes piece : List ℕ) → HasTaken cutter bytes →
    MatchBool (list_any (λ b. b == 10) piece)
    (EndsLine (taken cutter piece) bytes (take (taken_len piece) piece))
    (Continues bytes (take (taken_len piece) piece))
taken-lines cutter bytes piece has =
    subst (λ (part : List ℕ). MatchBool (list_any (λ b. b == 10) piece) (EndsLine (taken cutter piece) bytes part) (Continues bytes part))
    (sym (taken_part piece))
    (lines-at (taken cutter piece) bytes (first_line piece) (list_any (λ b. b == 10) piece) (first_line-no_end piece) (taken-shows cutter bytes piece has))

-- the line after the last LF of bytes with one more part of a line
shows-part : (cutter : CutterState) (bytes part : List ℕ) → HasNoEnd part → Shows cutter (length (ended_lines bytes) + 1) (rest_of bytes ++ part) →
    ShowsRest cutter (bytes ++ part)
unfolding ended_after rest_after
shows-part cutter bytes part none shows =
    let lines : ended_lines (bytes ++ (part ++ [])) ≡ ended_lines bytes = ended_lines-part bytes part false none ∙ append-nil (ended_lines bytes) in
    let rest : rest_of (bytes ++ (part ++ [])) ≡ rest_of bytes ++ part = rest_of-part bytes part false none in
    subst (λ (p : List ℕ). ShowsRest cutter (bytes ++ p)) (append-nil part)
    (subst₂ (λ (ls : List (List ℕ)) (r : List ℕ). Shows cutter (length ls + 1) r) (sym lines) (sym rest) shows)

-- the bytes that it has taken then
has_taken-at : (cutter : CutterState) (bytes part : List ℕ) (whole : Bool) → HasNoEnd part → Shows cutter (length (ended_lines bytes) + 1) (rest_of bytes ++ part) →
    MatchBool whole
    ((before : List ℕ) × (bytes ++ (part ++ line_end whole) ≡ before ++ 10 ∷ []) × ShowsRest cutter before)
    (ShowsRest cutter (bytes ++ (part ++ line_end whole)))
unfolding ended_after rest_after
has_taken-at cutter bytes part true none shows = (bytes ++ part, sym (append_assoc bytes part (10 ∷ [])), shows-part cutter bytes part none shows)
has_taken-at cutter bytes part false none shows =
    subst (λ (p : List ℕ). ShowsRest cutter (bytes ++ p)) (sym (append-nil part)) (shows-part cutter bytes part none shows)

pub taken-has_taken : (cutter : CutterState) (bytes piece : List ℕ) → HasTaken cutter bytes → HasTaken (taken cutter piece) (bytes ++ take (taken_len piece) piece)
taken-has_taken cutter bytes piece has =
    subst (λ (part : List ℕ). HasTaken (taken cutter piece) (bytes ++ part)) (sym (taken_part piece))
    (has_taken-at (taken cutter piece) bytes (first_line piece) (list_any (λ b. b == 10) piece) (first_line-no_end piece) (taken-shows cutter bytes piece has))

-- no more is taken than there is
pub taken_len-le : (piece : List ℕ) → taken_len piece ≤ length piece
unfolding first_line
taken_len-le [] = omega arith
taken_len-le (b ∷ bytes) =
    elim (b == 10) as (λ v. cond (v || list_any (λ b. b == 10) bytes) (length (cond v [] (b ∷ first_line bytes)) + 1) (suc (length bytes)) ≤ suc (length bytes)) [
      | true ↦ omega arith
      | false ↦ elim (list_any (λ b. b == 10) bytes) as (λ w. cond w (length (first_line bytes) + 1) (length bytes) ≤ length bytes →
          cond w (suc (length (first_line bytes)) + 1) (suc (length bytes)) ≤ suc (length bytes)) [
            | true ↦ λ rest. omega arith
            | false ↦ λ rest. omega arith
          ] (taken_len-le bytes)
    ]

-- what keeping the first bytes of a piece in a buffer is
pub keep-view : (most number len count : ℕ) (old new more : List ℕ) (over ended : Bool) → len ≤ most → length old ≡ most →
    count ≡ min (length more) (most - len) → take (len + count) new ≡ take len old ++ take count more →
    record { most = most; number = number; shown = take (len + count) new; over = over || nat_lt count (length more); ended = ended }
    ≡ kept (record { most = most; number = number; shown = take len old; over = over; ended = ended }) more
keep-view most number len count old new more over ended within long is written =
    let cut : length (take len old) ≡ len = rw length-take (omega arith) in
    let shown : take (len + count) new ≡ take most (take len old ++ more) =
    written
    ∙ ap (λ t. take len old ++ t) (ap (λ n. take n more) (omega arith) ∙ take_min (most - len) more)
    ∙ sym (take-append-add (take len old) more (most - len))
    ∙ ap (λ n. take n (take len old ++ more)) (omega arith) in
    let rest : nat_lt count (length more) ≡ nat_lt most (length (take len old) + length more) =
    elim (nat_lt count (length more)) as (λ v. nat_lt count (length more) ≡ v → v ≡ nat_lt most (length (take len old) + length more)) [
      | true ↦ λ less. let below : count < length more = ltb-true _ _ less in sym (lt-ltb most (length (take len old) + length more) (omega arith))
      | false ↦ λ not. let all : length more ≤ count = ltb-false _ _ not in sym (le-ltb most (length (take len old) + length more) (omega arith))
    ] refl in
    rw (shown, rest) refl

-- whether bytes stand after the last LF
pub finish-at : (cutter : CutterState) (bytes : List ℕ) → HasTaken cutter bytes →
    MatchBool ((cutter.over || not (length cutter.shown == 0)) && not cutter.ended) ((rest_of bytes ≢ []) × ShowsRest cutter bytes) (rest_of bytes ≡ [])
finish-at cutter bytes =
    elim (cutter.ended) as (λ v. MatchBool v ((before : List ℕ) × (bytes ≡ before ++ 10 ∷ []) × ShowsRest cutter before) (ShowsRest cutter bytes) →
    MatchBool ((cutter.over || not (length cutter.shown == 0)) && not v) ((rest_of bytes ≢ []) × ShowsRest cutter bytes) (rest_of bytes ≡ [])) [
      | true ↦ λ has. rw and-false (ap rest_of has.1 ∙ rest_of-end has.0)
      | false ↦ λ has. rw and-true (rest-at cutter (rest_of bytes) (ShowsRest cutter bytes) has has)
    ]
  where
    rest-at : {number : ℕ} (cutter : CutterState) (rest : List ℕ) (P : Type 0) → P → Shows cutter number rest →
        MatchBool (cutter.over || not (length cutter.shown == 0)) ((rest ≢ []) × P) (rest ≡ [])
    rest-at cutter [] P p shows =
        let over : cutter.over ≡ false = shows.more ∙ none-lt cutter.most in
        let none : cutter.shown ≡ [] = shows.kept ∙ take-nil cutter.most in
        rw (over, none) refl
    rest-at cutter (b ∷ rest) P p shows =
        let not_nil : b ∷ rest ≢ [] = λ nil. cc in
        elim (nat_lt cutter.most (suc (length rest))) as (λ v. nat_lt cutter.most (suc (length rest)) ≡ v → MatchBool (cutter.over || not (length cutter.shown == 0)) ((b ∷ rest ≢ []) × P) (b ∷ rest ≡ [])) [
          | true ↦ λ is. rw (shows.more, is) (not_nil, p)
          | false ↦ λ is.
              let some : (length cutter.shown == 0) ≡ false = rw (shows.kept ∙ take_all cutter.most (b ∷ rest) (ltb-false _ _ is)) (ne_eqb (suc (length rest)) 0 (omega arith)) in
              rw (shows.more, is, some) (not_nil, p)
        ] refl
