-- Fields and numbers that were printed, read again.
use Rattle.line_text.proofs.Common.{◌≡◌, ◌≢◌, ℕ, ◌+◌, ◌*◌, ◌^◌, ◌<◌, ◌≤◌, ◌==◌, ◌||◌, ◌&&◌, nat_le, Bool, true, false, cond, List, [], ◌∷◌, ◌++◌, length, Option, Some, None, option_map, refl, ap, sym, subst, ◌∙◌, append_assoc, length-append, arith, true≢false, leb-true, decimal, map, option_and_then, join_with_byte, AllByRecursion, all_ascii_digits, digits_value, pow-le-pow_right, number_of, is_blank, is_dropped, before_end, without_end, begins_field, runs_of, fields_of, numbers_of}
use Rattle.std.specs.Int.{IsInRange}
use Rattle.std.proofs.lemmas.Fmt.{decimal_nonempty, digits_decimal, digits_value-decimal, length-decimal-le}
use Rattle.std.proofs.lemmas.Int.Digits.{digits_value-lt}
use Rattle.std.proofs.lemmas.Str.Parse.{IsNumeralModel, tells_all_ascii_digits, numerals_by_value}
use Rattle.line_text.proofs.FieldLemmas.{before_end-not_nil, runs_of-longer}
use Rattle.line_text.proofs.NumberLemmas.{number_of-some}

-- a field of bytes of which none is dropped at a line's end
abbrev pub IsPlain : List ℕ → Type 0
IsPlain [] = ⊥
IsPlain (b ∷ []) = is_dropped b ≡ false
IsPlain (b ∷ c ∷ bytes) = (is_dropped b ≡ false) × IsPlain (c ∷ bytes)

plain-not_blank : (b : ℕ) → is_dropped b ≡ false → is_blank b ≡ false
plain-not_blank b plain =
    elim (b == 13) as (λ v. (v || is_blank b) ≡ false → is_blank b ≡ false) [
      | true ↦ λ is. absurd (true≢false is)
      | false ↦ λ is. is
    ] plain

without_end-plain : (field : List ℕ) → IsPlain field → without_end field ≡ field
unfolding without_end
without_end-plain [] plain = absurd plain
without_end-plain (b ∷ []) plain = rw plain refl
without_end-plain (b ∷ c ∷ bytes) (first, rest) = ap (before_end b) (without_end-plain (c ∷ bytes) rest)

without_end-after : (field : List ℕ) (r : ℕ) (rest : List ℕ) → without_end (r ∷ rest) ≡ r ∷ rest
    → without_end (field ++ r ∷ rest) ≡ field ++ r ∷ rest
unfolding without_end
without_end-after [] r rest kept = kept
without_end-after (b ∷ []) r rest kept = ap (before_end b) kept
without_end-after (b ∷ c ∷ field) r rest kept = ap (before_end b) (without_end-after (c ∷ field) r rest kept)

-- a blank before what is kept
without_end-blank : (rest : List ℕ) → without_end rest ≡ rest → rest ≢ [] → without_end (32 ∷ rest) ≡ 32 ∷ rest
unfolding without_end
without_end-blank rest kept some = ap (before_end 32) kept ∙ before_end-not_nil 32 rest some

joined-some : (fields : List (List ℕ)) (field : List ℕ) → AllByRecursion IsPlain (field ∷ fields) → join_with_byte 32 (field ∷ fields) ≢ []
joined-some [] [] (plain, _) is = plain
joined-some [] (b ∷ field) plain is = cc
joined-some (next ∷ fields) [] (plain, _) is = plain
joined-some (next ∷ fields) (b ∷ field) plain is = cc

without_end-joined : (field : List ℕ) (fields : List (List ℕ)) → AllByRecursion IsPlain (field ∷ fields)
    → without_end (join_with_byte 32 (field ∷ fields)) ≡ join_with_byte 32 (field ∷ fields)
without_end-joined field [] (plain, _) = without_end-plain field plain
without_end-joined field (next ∷ fields) (plain, rest) =
    without_end-after field 32 (join_with_byte 32 (next ∷ fields))
    (without_end-blank (join_with_byte 32 (next ∷ fields)) (without_end-joined next fields rest) (joined-some fields next rest))

plain-first : (b : ℕ) (bytes : List ℕ) → IsPlain (b ∷ bytes) → is_blank b ≡ false
plain-first b [] plain = plain-not_blank b plain
plain-first b (c ∷ bytes) plain = plain-not_blank b plain.0

begins-plain : (b : ℕ) (bytes more : List ℕ) → IsPlain (b ∷ bytes) → begins_field (b ∷ more) ≡ true
begins-plain b bytes more plain = rw (plain-first b bytes plain) refl

runs_of-plain : (field : List ℕ) → IsPlain field → runs_of field ≡ field ∷ []
unfolding runs_of
runs_of-plain [] plain = absurd plain
runs_of-plain (b ∷ []) plain = rw (plain-not_blank b plain) refl
runs_of-plain (b ∷ c ∷ bytes) (first, rest) =
    runs_of-longer b (c ∷ bytes) (c ∷ bytes) [] (plain-not_blank b first) (begins-plain c bytes bytes rest) (runs_of-plain (c ∷ bytes) rest)

runs_of-then : (field rest : List ℕ) → IsPlain field → runs_of (field ++ 32 ∷ rest) ≡ field ∷ runs_of rest
unfolding runs_of
runs_of-then [] rest plain = absurd plain
runs_of-then (b ∷ []) rest plain = rw (plain-not_blank b plain) refl
runs_of-then (b ∷ c ∷ bytes) rest (first, more) =
    runs_of-longer b (c ∷ bytes ++ 32 ∷ rest) (c ∷ bytes) (runs_of rest) (plain-not_blank b first)
    (begins-plain c bytes (bytes ++ 32 ∷ rest) more) (runs_of-then (c ∷ bytes) rest more)

runs_of-joined : (field : List ℕ) (fields : List (List ℕ)) → AllByRecursion IsPlain (field ∷ fields)
    → runs_of (join_with_byte 32 (field ∷ fields)) ≡ field ∷ fields
runs_of-joined field [] (plain, _) = runs_of-plain field plain
runs_of-joined field (next ∷ fields) (plain, rest) =
    runs_of-then field (join_with_byte 32 (next ∷ fields)) plain ∙ ap (λ more. field ∷ more) (runs_of-joined next fields rest)

-- fields that are joined by blanks are the fields of the line
pub fields_of-joined : (field : List ℕ) (fields : List (List ℕ)) → AllByRecursion IsPlain (field ∷ fields)
    → fields_of (join_with_byte 32 (field ∷ fields)) ≡ field ∷ fields
fields_of-joined field fields plain =
    ap runs_of (without_end-joined field fields plain) ∙ runs_of-joined field fields plain

-- digits are plain
plain-digit : (b : ℕ) → IsInRange 48 57 b → is_dropped b ≡ false
plain-digit b digit = grind arith

plain-from_digits : (digits : List ℕ) → all_ascii_digits digits ≡ true → 0 < length digits → IsPlain digits
plain-from_digits [] digits some = absurd (omega arith)
plain-from_digits (b ∷ []) digits some =
    let (digit, _) = (tells_all_ascii_digits).parts b [] digits in plain-digit b digit
plain-from_digits (b ∷ c ∷ bytes) digits some =
    let (digit, rest) = (tells_all_ascii_digits).parts b (c ∷ bytes) digits in
    (plain-digit b digit, plain-from_digits (c ∷ bytes) rest (omega arith))

-- what texts of digits say
pub digit_texts : IsNumeralModel (λ ds. all_ascii_digits ds ≡ true) (digits_value 10)
digit_texts = numerals_by_value (λ ds. all_ascii_digits ds ≡ true) tells_all_ascii_digits

-- a printed number
pub plain-decimal : (n : ℕ) → n < 10 ^ 18 → IsPlain (decimal n)
plain-decimal n small = plain-from_digits (decimal n) (digits_decimal digit_texts n (omega arith)) (decimal_nonempty n (omega arith))

-- a printed number reads back
pub number_of-decimal : (n : ℕ) → n < 10 ^ 18 → number_of (decimal n) ≡ Some n
number_of-decimal n small =
    number_of-some (decimal n) (decimal_nonempty n (omega arith)) (length-decimal-le 18 n (omega arith) small (omega arith)) (digits_decimal digit_texts n (omega arith))
    ∙ ap Some (digits_value-decimal digit_texts n (omega arith))

-- printed numbers
pub plain-decimals : (ns : List ℕ) → AllByRecursion (λ n. n < 10 ^ 18) ns → AllByRecursion IsPlain (map decimal ns)
plain-decimals [] small = tt
plain-decimals (n ∷ ns) (first, rest) = (plain-decimal n first, plain-decimals ns rest)

pub numbers_of-decimals : (ns : List ℕ) → AllByRecursion (λ n. n < 10 ^ 18) ns → numbers_of (map decimal ns) ≡ Some ns
unfolding numbers_of
numbers_of-decimals [] small = refl
numbers_of-decimals (n ∷ ns) (first, rest) = rw (number_of-decimal n first, numbers_of-decimals ns rest) refl

-- a number that was read has at most 18 digits
pub number_of-small : (text : List ℕ) (n : ℕ) → number_of text ≡ Some n → n < 10 ^ 18
number_of-small text n is =
    let (short, digits, value) = parts (nat_le 1 (length text)) (nat_le (length text) 18) (all_ascii_digits text) is in
    let below : digits_value 10 text < 10 ^ length text = digits_value-lt 10 text (digit_texts.to text digits) in
    let most : 10 ^ length text ≤ 10 ^ 18 = pow-le-pow_right {n = 10} (omega arith) {i = length text} {j = 18} (leb-true (length text) 18 short) in
    omega (arith, below, most, value)
  where
    parts : (a b c : Bool) → cond (a && b && c) (Some (digits_value 10 text)) None ≡ Some n
        → (b ≡ true) × (c ≡ true) × (digits_value 10 text ≡ n)
    parts true true true h = (refl, refl, cc)
    parts true true false h = absurd (cc h)
    parts true false c h = absurd (cc h)
    parts false b c h = absurd (cc h)

-- numbers that were read have at most 18 digits
pub numbers_of-small : (fields : List (List ℕ)) (ns : List ℕ) → numbers_of fields ≡ Some ns → AllByRecursion (λ n. n < 10 ^ 18) ns
unfolding numbers_of
numbers_of-small [] [] is = tt
numbers_of-small [] (n ∷ ns) is = absurd (cc is)
numbers_of-small (field ∷ fields) ns is = each (number_of field) (numbers_of fields) refl (λ ms more. numbers_of-small fields ms more) is
  where
    each : (o : Option ℕ) (rest : Option (List ℕ)) → number_of field ≡ o
        → ((ms : List ℕ) → rest ≡ Some ms → AllByRecursion (λ n. n < 10 ^ 18) ms)
        → option_and_then (λ n. option_map (λ ms. n ∷ ms) rest) o ≡ Some ns → AllByRecursion (λ n. n < 10 ^ 18) ns
    each None rest first more h = absurd (cc h)
    each (Some m) None first more h = absurd (cc h)
    each (Some m) (Some ms) first more h =
        let same : m ∷ ms ≡ ns = cc in
        subst (AllByRecursion (λ n. n < 10 ^ 18)) same (number_of-small field m first, more ms refl)

-- one more number after a blank
pub joined-number : (word : List ℕ) (ns : List ℕ) (n : ℕ)
    → join_with_byte 32 (word ∷ map decimal (ns ++ n ∷ [])) ≡ join_with_byte 32 (word ∷ map decimal ns) ++ 32 ∷ decimal n
joined-number word [] n = refl
joined-number word (m ∷ ns) n =
    ap (λ rest. word ++ 32 ∷ rest) (joined-number (decimal m) ns n)
    ∙ sym (append_assoc word (32 ∷ join_with_byte 32 (decimal m ∷ map decimal ns)) (32 ∷ decimal n))

-- a word and printed numbers are so long at most
pub length-joined : (word : List ℕ) (ns : List ℕ) → AllByRecursion (λ n. n < 10 ^ 18) ns
    → length (join_with_byte 32 (word ∷ map decimal ns)) ≤ length word + 19 * length ns
length-joined word [] small = omega arith
length-joined word (n ∷ ns) (first, rest) =
    let more = length-joined (decimal n) ns rest in
    let digits : length (decimal n) ≤ 18 = length-decimal-le 18 n (omega arith) first (omega arith) in
    let both = length-append word (32 ∷ join_with_byte 32 (decimal n ∷ map decimal ns)) in
    omega (arith, more, digits, both)
