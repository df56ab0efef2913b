-- Lines of bytes that come in parts.
use Rattle.line_text.proofs.Common.{◌≡◌, ℕ, zero, ◌<◌, get_or, ◌+◌, ◌≤◌, suc, Bool, true, false, cond, ◌==◌, ◌||◌, List, [], ◌∷◌, ◌++◌, length, take, refl, ap, ◌∙◌, append_assoc, append-nil, length-append, arith, eqb-true, add-one, ◌≢◌, list_any, AllByRecursion, ended_after, rest_after, ended_lines, last_line, lines_of, rest_of, first_line}

-- no byte is an LF
abbrev pub HasNoEnd : List ℕ → Type 0
HasNoEnd bytes = AllByRecursion (λ b. (b == 10) ≡ false) bytes

-- the last line of bytes that no LF ends
pub last_line-some : (rest : List ℕ) → rest ≢ [] → last_line rest ≡ rest ∷ []
last_line-some [] some = absurd (some refl)
last_line-some (b ∷ rest) some = refl

-- lines of two parts
pub ended_after-append : (line xs ys : List ℕ) → ended_after line (xs ++ ys) ≡ ended_after line xs ++ ended_after (rest_after line xs) ys
unfolding ended_after rest_after
ended_after-append line [] ys = refl
ended_after-append line (b ∷ xs) ys =
    elim (b == 10) as (λ v. cond v (line ∷ ended_after [] (xs ++ ys)) (ended_after (line ++ b ∷ []) (xs ++ ys))
    ≡ cond v (line ∷ ended_after [] xs) (ended_after (line ++ b ∷ []) xs) ++ ended_after (cond v (rest_after [] xs) (rest_after (line ++ b ∷ []) xs)) ys) [
      | true ↦ ap (λ lines. line ∷ lines) (ended_after-append [] xs ys)
      | false ↦ ended_after-append (line ++ b ∷ []) xs ys
    ]

pub rest_after-append : (line xs ys : List ℕ) → rest_after line (xs ++ ys) ≡ rest_after (rest_after line xs) ys
unfolding rest_after
rest_after-append line [] ys = refl
rest_after-append line (b ∷ xs) ys =
    elim (b == 10) as (λ v. cond v (rest_after [] (xs ++ ys)) (rest_after (line ++ b ∷ []) (xs ++ ys))
    ≡ rest_after (cond v (rest_after [] xs) (rest_after (line ++ b ∷ []) xs)) ys) [
      | true ↦ rest_after-append [] xs ys
      | false ↦ rest_after-append (line ++ b ∷ []) xs ys
    ]

-- bytes with no LF go to the unfinished line
pub ended_after-no_end : (line part more : List ℕ) → HasNoEnd part → ended_after line (part ++ more) ≡ ended_after (line ++ part) more
unfolding ended_after
ended_after-no_end line [] more none = rw append-nil refl
ended_after-no_end line (b ∷ part) more none =
    rw (none.0) (ended_after-no_end (line ++ b ∷ []) part more none.1 ∙ ap (λ l. ended_after l more) (append_assoc line (b ∷ []) part))

pub rest_after-no_end : (line part more : List ℕ) → HasNoEnd part → rest_after line (part ++ more) ≡ rest_after (line ++ part) more
unfolding rest_after
rest_after-no_end line [] more none = rw append-nil refl
rest_after-no_end line (b ∷ part) more none =
    rw (none.0) (rest_after-no_end (line ++ b ∷ []) part more none.1 ∙ ap (λ l. rest_after l more) (append_assoc line (b ∷ []) part))

-- the first line has no LF
pub first_line-no_end : (piece : List ℕ) → HasNoEnd (first_line piece)
unfolding first_line
first_line-no_end [] = tt
first_line-no_end (b ∷ bytes) =
    elim (b == 10) as (λ v. b == 10 ≡ v → HasNoEnd (cond v [] (b ∷ first_line bytes))) [
      | true ↦ λ is. tt
      | false ↦ λ is. (is, first_line-no_end bytes)
    ] refl

-- what ends the first line of a piece
abbrev pub line_end : Bool → List ℕ
line_end true = 10 ∷ []
line_end false = []

-- a piece up to and with its first LF
pub take-first_line : (piece : List ℕ) →
    take (cond (list_any (λ b. b == 10) piece) (length (first_line piece) + 1) (length piece)) piece
    ≡ first_line piece ++ line_end (list_any (λ b. b == 10) piece)
unfolding first_line
take-first_line [] = refl
take-first_line (b ∷ bytes) =
    elim (b == 10) as (λ v. b == 10 ≡ v →
    take (cond (v || list_any (λ b. b == 10) bytes) (length (cond v [] (b ∷ first_line bytes)) + 1) (suc (length bytes))) (b ∷ bytes)
    ≡ cond v [] (b ∷ first_line bytes) ++ line_end (v || list_any (λ b. b == 10) bytes)) [
      | true ↦ λ is. ap (λ c. c ∷ []) (eqb-true b 10 is)
      | false ↦ λ is. elim (list_any (λ b. b == 10) bytes) as (λ w.
          take (cond w (length (first_line bytes) + 1) (length bytes)) bytes ≡ first_line bytes ++ line_end w →
          take (cond w (suc (length (first_line bytes)) + 1) (suc (length bytes))) (b ∷ bytes) ≡ b ∷ (first_line bytes ++ line_end w)) [
            | true ↦ λ rest. rw (add-one) (ap (λ l. b ∷ l) (rw add-one at rest))
            | false ↦ λ rest. ap (λ l. b ∷ l) rest
          ] (take-first_line bytes)
    ] refl

-- lines and rest after one more part of a line
pub ended_lines-part : (bytes part : List ℕ) (whole : Bool) → HasNoEnd part →
    ended_lines (bytes ++ (part ++ line_end whole)) ≡ ended_lines bytes ++ ended_after (rest_of bytes ++ part) (line_end whole)
ended_lines-part bytes part whole none =
    ended_after-append [] bytes (part ++ line_end whole) ∙ ap (λ lines. ended_lines bytes ++ lines) (ended_after-no_end (rest_of bytes) part (line_end whole) none)

pub rest_of-part : (bytes part : List ℕ) (whole : Bool) → HasNoEnd part →
    rest_of (bytes ++ (part ++ line_end whole)) ≡ rest_after (rest_of bytes ++ part) (line_end whole)
rest_of-part bytes part whole none =
    rest_after-append [] bytes (part ++ line_end whole) ∙ rest_after-no_end (rest_of bytes) part (line_end whole) none

-- the lines that more bytes end come after those that are ended
pub ended_lines-append : (xs ys : List ℕ) → ended_lines (xs ++ ys) ≡ ended_lines xs ++ ended_after (rest_of xs) ys
ended_lines-append xs ys = ended_after-append [] xs ys

-- a byte ends at most one line
pub length-ended_after-le : (line bytes : List ℕ) → length (ended_after line bytes) ≤ length bytes
unfolding ended_after
length-ended_after-le line [] = omega arith
length-ended_after-le line (b ∷ bytes) =
    elim (b == 10) as (λ v. length (cond v (line ∷ ended_after [] bytes) (ended_after (line ++ b ∷ []) bytes)) ≤ suc (length bytes)) [
      | true ↦ let rest : length (ended_after [] bytes) ≤ length bytes = length-ended_after-le [] bytes in omega arith
      | false ↦ let rest : length (ended_after (line ++ b ∷ []) bytes) ≤ length bytes = length-ended_after-le (line ++ b ∷ []) bytes in omega arith
    ]

-- the first line by the place of the first LF
pub first_line-found : (piece : List ℕ) (n : ℕ) → n < length piece → ((k : ℕ) → k < n → (get_or piece k 0 == 10) ≡ false) →
    (get_or piece n 0 == 10) ≡ true → first_line piece ≡ take n piece
unfolding first_line
first_line-found [] n within before at = absurd (omega arith)
first_line-found (b ∷ bytes) zero within before at = rw at refl
first_line-found (b ∷ bytes) (suc n) within before at =
    rw (before 0 (omega arith)) (ap (λ l. b ∷ l) (first_line-found bytes n (omega arith) (λ k below. before (suc k) (omega arith)) at))

pub first_line-none : (piece : List ℕ) → ((k : ℕ) → k < length piece → (get_or piece k 0 == 10) ≡ false) → first_line piece ≡ piece
unfolding first_line
first_line-none [] none = refl
first_line-none (b ∷ bytes) none =
    rw (none 0 (omega arith)) (ap (λ l. b ∷ l) (first_line-none bytes (λ k below. none (suc k) (omega arith))))

pub has_end-none : (piece : List ℕ) → ((k : ℕ) → k < length piece → (get_or piece k 0 == 10) ≡ false) → list_any (λ b. b == 10) piece ≡ false
has_end-none [] none = refl
has_end-none (b ∷ bytes) none = rw (none 0 (omega arith)) (has_end-none bytes (λ k below. none (suc k) (omega arith)))

-- bytes are of at least one line
pub some-line : (line bytes : List ℕ) → 0 < length line + length bytes → 1 ≤ length (ended_after line bytes) + length (last_line (rest_after line bytes))
unfolding ended_after rest_after
some-line [] [] some = absurd (omega arith)
some-line (a ∷ line) [] some = omega arith
some-line line (b ∷ bytes) some =
    elim (b == 10) as (λ v. 1 ≤ length (cond v (line ∷ ended_after [] bytes) (ended_after (line ++ b ∷ []) bytes))
    + length (last_line (cond v (rest_after [] bytes) (rest_after (line ++ b ∷ []) bytes)))) [
      | true ↦ omega arith
      | false ↦ some-line (line ++ b ∷ []) bytes (omega (arith, length-append line (b ∷ [])))
    ]

-- more bytes are of as many lines or more
pub lines-grow : (xs ys : List ℕ) → length (lines_of xs) ≤ length (lines_of (xs ++ ys))
lines-grow xs ys = by_rest (rest_of xs) refl
  where
    ended : length (ended_lines (xs ++ ys)) ≡ length (ended_lines xs) + length (ended_after (rest_of xs) ys)
    ended = ap length (ended_lines-append xs ys) ∙ length-append (ended_lines xs) (ended_after (rest_of xs) ys)

    all : length (lines_of (xs ++ ys)) ≡ length (ended_lines (xs ++ ys)) + length (last_line (rest_of (xs ++ ys)))
    all = length-append (ended_lines (xs ++ ys)) (last_line (rest_of (xs ++ ys)))

    first : length (lines_of xs) ≡ length (ended_lines xs) + length (last_line (rest_of xs))
    first = length-append (ended_lines xs) (last_line (rest_of xs))

    last : rest_of (xs ++ ys) ≡ rest_after (rest_of xs) ys
    last = rest_after-append [] xs ys

    by_rest : (rest : List ℕ) → rest_of xs ≡ rest → length (lines_of xs) ≤ length (lines_of (xs ++ ys))
    by_rest [] is = omega (arith, ended, all, first, ap (λ l. length (last_line l)) is)
    by_rest (b ∷ rest) is =
        omega (
          arith,
          ended,
          all,
          first,
          ap (λ l. length (last_line l)) is,
          ap (λ l. length (last_line l)) last,
          ap (λ l. length (ended_after l ys)) is,
          ap (λ l. length (last_line (rest_after l ys))) is,
          some-line (b ∷ rest) ys (omega arith),
        )
