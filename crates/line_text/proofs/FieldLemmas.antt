-- Fields of texts that are read from the front, and ends of lines that are dropped from behind.
use Rattle.line_text.proofs.Common.{◌≡◌, ◌≢◌, ℕ, zero, suc, ◌+◌, ◌-◌, ◌<◌, ◌≤◌, Bool, true, false, cond, ◌==◌, List, [], ◌∷◌, ◌++◌, length, take, drop, get_or, Option, Some, None, IfSome, option_map, refl, ap, sym, subst, ◌∙◌, append_assoc, append-nil, length-append, arith, true≢false, ltb-false, inl, inr, ◌⊎◌, take_all, take_more, drop_all, not-true, number_of, is_blank, is_dropped, before_end, without_end, begins_field, onto_first, runs_of, numbers_of, begins_with, is_over_long, unless_comment, words_of, fields_of}

pub before_end-not_nil : (b : ℕ) (bytes : List ℕ) → bytes ≢ [] → before_end b bytes ≡ b ∷ bytes
before_end-not_nil b [] not_nil = absurd (not_nil refl)
before_end-not_nil b (c ∷ bytes) not_nil = refl

push-not_nil : (xs : List ℕ) (b : ℕ) → xs ++ b ∷ [] ≢ []
push-not_nil [] b is = cc
push-not_nil (x ∷ xs) b is = cc

-- a byte that is dropped at the end
pub without_end-dropped : (xs : List ℕ) (b : ℕ) → is_dropped b ≡ true → without_end (xs ++ b ∷ []) ≡ without_end xs
unfolding without_end
without_end-dropped [] b is = rw is refl
without_end-dropped (x ∷ xs) b is = ap (before_end x) (without_end-dropped xs b is)

-- a byte that is kept at the end
pub without_end-kept : (xs : List ℕ) (b : ℕ) → is_dropped b ≡ false → without_end (xs ++ b ∷ []) ≡ xs ++ b ∷ []
unfolding without_end
without_end-kept [] b is = rw is refl
without_end-kept (x ∷ xs) b is = ap (before_end x) (without_end-kept xs b is) ∙ before_end-not_nil x (xs ++ b ∷ []) (push-not_nil xs b)

pub without_end-nil : without_end [] ≡ []
unfolding without_end
without_end-nil = refl

pub runs_of-nil : runs_of [] ≡ []
unfolding runs_of
runs_of-nil = refl

-- a blank in front
pub runs_of-blank : (b : ℕ) (bytes : List ℕ) → is_blank b ≡ true → runs_of (b ∷ bytes) ≡ runs_of bytes
unfolding runs_of
runs_of-blank b bytes is = rw is refl

-- a byte more of the first field
pub runs_of-longer : (b : ℕ) (bytes field : List ℕ) (fields : List (List ℕ)) → is_blank b ≡ false → begins_field bytes ≡ true
    → runs_of bytes ≡ field ∷ fields → runs_of (b ∷ bytes) ≡ (b ∷ field) ∷ fields
unfolding runs_of
runs_of-longer b bytes field fields blank begins is = rw (blank, begins, is) refl

-- a run of bytes that are not blank, up to a blank or the end
pub runs_of-first : (text : List ℕ) (n : ℕ) → n ≤ length text → 0 < n → ((k : ℕ) → k < n → is_blank (get_or text k 0) ≡ false) →
    begins_field (drop n text) ≡ false → runs_of text ≡ take n text ∷ runs_of (drop n text)
unfolding runs_of
runs_of-first text zero within some none ends = absurd (omega arith)
runs_of-first [] (suc n) within some none ends = absurd (omega arith)
runs_of-first (b ∷ bytes) (suc zero) within some none ends =
    rw (none 0 (omega arith), ends) refl
runs_of-first (b ∷ []) (suc (suc n)) within some none ends = absurd (omega arith)
runs_of-first (b ∷ c ∷ bytes) (suc (suc n)) within some none ends =
    let rest = runs_of-first (c ∷ bytes) (suc n) (omega arith) (omega arith) (λ k below. none (suc k) (omega arith)) ends in
    let first : is_blank b ≡ false = none 0 (omega arith) in
    let second : is_blank c ≡ false = none 1 (omega arith) in
    runs_of-longer b (c ∷ bytes) (take (suc n) (c ∷ bytes)) (runs_of (drop (suc n) (c ∷ bytes))) first (rw second refl) rest

-- the first field of a text that is empty or begins with one
pub unless_comment-runs : (comment : ℕ) (text : List ℕ) → (text ≡ []) ⊎ (begins_field text ≡ true) →
    unless_comment comment (runs_of text) ≡ cond (begins_with comment text) [] (runs_of text)
unfolding runs_of
unless_comment-runs comment [] begins = refl
unless_comment-runs comment (b ∷ bytes) begins =
    let blank : is_blank b ≡ false = not_blank b bytes begins in
    rw blank (onto-first (begins_field bytes) (runs_of bytes))
  where
    not_blank : (b : ℕ) (bytes : List ℕ) → (b ∷ bytes ≡ []) ⊎ (begins_field (b ∷ bytes) ≡ true) → is_blank b ≡ false
    not_blank b bytes (inl is) = cc
    not_blank b bytes (inr is) = not-true (is_blank b) is

    onto-first : (v : Bool) (fields : List (List ℕ)) →
        unless_comment comment (cond v (onto_first b fields) ((b ∷ []) ∷ fields)) ≡ cond (b == comment) [] (cond v (onto_first b fields) ((b ∷ []) ∷ fields))
    onto-first true [] = refl
    onto-first true (field ∷ fields) = refl
    onto-first false fields = refl

-- the first byte of an over-long line
pub begins_with-take : (comment : ℕ) (line : List ℕ) → begins_with comment (take 200 line) ≡ begins_with comment line
begins_with-take comment [] = refl
begins_with-take comment (b ∷ line) = refl

pub words_of-comment : (comment : ℕ) (line whole : List ℕ) → line ≡ take 200 whole → is_over_long whole ≡ true → begins_with comment line ≡ true → words_of comment whole ≡ Some []
words_of-comment comment line whole is long begins =
    rw (long, sym (begins_with-take comment whole) ∙ ap (begins_with comment) (sym is) ∙ begins) refl

-- a line that is not over-long, from its text without blanks in front
pub words_of-short : (comment : ℕ) (line whole text : List ℕ) → line ≡ take 200 whole → is_over_long whole ≡ false →
    runs_of text ≡ fields_of line → (text ≡ []) ⊎ (begins_field text ≡ true) →
    words_of comment whole ≡ Some (cond (begins_with comment text) [] (runs_of text))
words_of-short comment line whole text is short runs begins =
    let within : length whole ≤ 200 = ltb-false _ _ short in
    let same : line ≡ whole = is ∙ take_all 200 whole within in
    rw (short) (ap Some (ap (unless_comment comment) (ap fields_of (sym same) ∙ sym runs) ∙ unless_comment-runs comment text begins))

-- the numbers so far and those of the fields that are left are the numbers of all fields
abbrev pub HasRead : List ℕ → List (List ℕ) → List (List ℕ) → Type 0
HasRead ns fields all = option_map (λ (rest : List ℕ). ns ++ rest) (numbers_of fields) ≡ numbers_of all

-- one more number
pub HasRead-next : (ns : List ℕ) (n : ℕ) (field : List ℕ) (rest fields all : List (List ℕ)) → fields ≡ field ∷ rest → number_of field ≡ Some n →
    HasRead ns fields all → HasRead (ns ++ n ∷ []) rest all
unfolding numbers_of
HasRead-next ns n field rest fields all first is read =
    sym (ap (λ fs. option_map (λ (rest : List ℕ). ns ++ rest) (numbers_of fs)) first ∙ rw is (shift (numbers_of rest))) ∙ read
  where
    shift : (o : Option (List ℕ)) → option_map (λ (rest : List ℕ). ns ++ rest) (option_map (λ (rest : List ℕ). n ∷ rest) o) ≡ option_map (λ (rest : List ℕ). (ns ++ n ∷ []) ++ rest) o
    shift None = refl
    shift (Some rest) = ap Some (sym (append_assoc ns (n ∷ []) rest))

-- a field that is no number
pub HasRead-no_number : (most : ℕ) (ns field : List ℕ) (rest fields all : List (List ℕ)) → fields ≡ field ∷ rest → number_of field ≡ None →
    HasRead ns fields all → IfSome (numbers_of all) (λ numbers. most < length numbers)
unfolding numbers_of
HasRead-no_number most ns field rest fields all first is read =
    let none : option_map (λ (rest : List ℕ). ns ++ rest) (numbers_of fields) ≡ None = ap (λ fs. option_map (λ (rest : List ℕ). ns ++ rest) (numbers_of fs)) first ∙ rw is refl in
    subst (λ (o : Option (List ℕ)). IfSome o (λ numbers. most < length numbers)) (sym none ∙ read) tt

-- more numbers than there is room for
pub HasRead-full : (most : ℕ) (ns : List ℕ) (n : ℕ) (field : List ℕ) (rest fields all : List (List ℕ)) → fields ≡ field ∷ rest → number_of field ≡ Some n → length ns ≡ most →
    HasRead ns fields all → IfSome (numbers_of all) (λ numbers. most < length numbers)
HasRead-full most ns n field rest fields all first is full read =
    too_many (numbers_of rest) (numbers_of all) (HasRead-next ns n field rest fields all first is read)
  where
    too_many : (o p : Option (List ℕ)) → option_map (λ (rest : List ℕ). (ns ++ n ∷ []) ++ rest) o ≡ p → IfSome p (λ numbers. most < length numbers)
    too_many None p is = subst (λ (q : Option (List ℕ)). IfSome q (λ numbers. most < length numbers)) is tt
    too_many (Some rest) p is =
        subst (λ (q : Option (List ℕ)). IfSome q (λ numbers. most < length numbers)) is (simp length-append (omega arith))

-- no field is left
pub HasRead-all : (ns : List ℕ) (fields all : List (List ℕ)) → fields ≡ [] → HasRead ns fields all → numbers_of all ≡ Some ns
unfolding numbers_of
HasRead-all ns fields all none read =
    sym read ∙ ap (λ fs. option_map (λ (rest : List ℕ). ns ++ rest) (numbers_of fs)) none ∙ ap Some (append-nil ns)

-- where a text begins with a field, and where not
pub begins_field-blank : (text : List ℕ) (n : ℕ) → is_blank (get_or text n 0) ≡ true → begins_field (drop n text) ≡ false
begins_field-blank [] zero is = refl
begins_field-blank [] (suc n) is = refl
begins_field-blank (b ∷ text) zero is = rw is refl
begins_field-blank (b ∷ text) (suc n) is = begins_field-blank text n is

pub begins_field-past : (text : List ℕ) (n : ℕ) → length text ≤ n → begins_field (drop n text) ≡ false
begins_field-past text n past = rw (drop_all n text past) refl

pub begins_field-first : (text : List ℕ) (n : ℕ) → begins_field text ≡ true → is_blank (get_or text n 0) ≡ true → 0 < n
begins_field-first [] zero begins is = absurd (true≢false (sym begins))
begins_field-first (b ∷ text) zero begins is = absurd (true≢false (sym is ∙ not-true (is_blank b) begins))
begins_field-first text (suc n) begins is = omega arith

pub begins_field-some : (text : List ℕ) → begins_field text ≡ true → 0 < length text
begins_field-some [] begins = absurd (true≢false (sym begins))
begins_field-some (b ∷ text) begins = omega arith

-- the bytes of a text up to its last
pub take-last : (xs : List ℕ) (n : ℕ) → 0 < n → n ≤ length xs → take n xs ≡ take (n - 1) xs ++ get_or xs (n - 1) 0 ∷ []
take-last xs n some within =
    let one : n ≡ (n - 1) + 1 = omega arith in
    ap (λ k. take k xs) one ∙ take_more xs (n - 1) 0 (omega arith)
