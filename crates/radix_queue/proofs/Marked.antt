-- the marks of the buckets that have a node
use Rattle.radix_queue.proofs.Common.{◌≡◌, ◌≢◌, ℕ, zero, suc, ◌+◌, ◌-◌, ◌<◌, ◌≤◌, List, [], ◌∷◌, length, refl, sym, ap, ◌∙◌, subst, arith, inl, inr, true, false, Option, Some, None, is_some, slice_get, Contains, bit_at, cases_eq, cases_lt, true≢false, get_or_past, bit_at-zero, Family, list_at, IsFamily, without, Contains-from_get, Contains-nil, without-absent, IsMarked, IsLowest}

pub nil-from_first : (xs : List ℕ) → slice_get xs 0 ≡ None → xs ≡ []
nil-from_first [] e = refl
nil-from_first (x ∷ xs) e = cc

pub first-nil : (xs : List ℕ) → xs ≡ [] → slice_get xs 0 ≡ None
first-nil xs e = ap (λ ys. slice_get ys 0) e

pub marked-none : (buckets : Family) → ((bucket : ℕ) → list_at buckets bucket ≡ []) → IsMarked buckets 0
marked-none buckets empty = record {
  none = λ p low bit. empty (suc p);
  some = λ p low bit nil. absurd (omega (arith, bit, bit_at-zero p));
}

-- the buckets without the node are as they were
others-kept : (old new : Family) (bucket x : ℕ) → IsFamily old → Contains (list_at old bucket) x → ((other : ℕ) → list_at new other ≡ without x (list_at old other)) → (other : ℕ) → other ≢ bucket → list_at new other ≡ list_at old other
others-kept old new bucket x family here taken other differs =
    taken other ∙ without-absent x (list_at old other) (λ c. differs (family.apart other bucket x c here))

pub marked-emptied : (old new : Family) (filled marks bucket x : ℕ) → IsFamily old → IsMarked old filled → Contains (list_at old bucket) x → ((other : ℕ) → list_at new other ≡ without x (list_at old other)) → slice_get (list_at new bucket) 0 ≡ None → (0 < bucket → bit_at marks (bucket - 1) ≡ 0) → ((place : ℕ) → place < 64 → place + 1 ≢ bucket → bit_at marks place ≡ bit_at filled place) → IsMarked new marks
marked-emptied old new filled marks bucket x family m here taken empty cleared kept =
    let others = others-kept old new bucket x family here taken in
    record {
      none = λ p low bit. elim (cases_eq (suc p) bucket) [
        | inl e ↦ ap (list_at new) e ∙ nil-from_first (list_at new bucket) empty
        | inr n ↦ others (suc p) n ∙ m.none p low (sym (kept p low (omega arith)) ∙ bit)
      ];
      some = λ p low bit nil. elim (cases_eq (suc p) bucket) [
        | inl e ↦ absurd (
            let at : bucket - 1 ≡ p = omega arith in
            let none : bit_at marks p ≡ 0 = subst (λ i. bit_at marks i ≡ 0) at (cleared (omega arith)) in
            omega (arith, none, bit))
        | inr n ↦ m.some p low (sym (kept p low (omega arith)) ∙ bit) (sym (others (suc p) n) ∙ nil)
      ];
    }

pub marked-left : (old new : Family) (filled bucket x : ℕ) → IsFamily old → IsMarked old filled → Contains (list_at old bucket) x → ((other : ℕ) → list_at new other ≡ without x (list_at old other)) → slice_get (list_at new bucket) 0 ≢ None → IsMarked new filled
marked-left old new filled bucket x family m here taken left =
    let others = others-kept old new bucket x family here taken in
    record {
      none = λ p low bit. elim (cases_eq (suc p) bucket) [
        | inl e ↦ absurd (Contains-nil x (subst (λ xs. Contains xs x) (ap (list_at old) (sym e) ∙ m.none p low bit) here))
        | inr n ↦ others (suc p) n ∙ m.none p low bit
      ];
      some = λ p low bit nil. elim (cases_eq (suc p) bucket) [
        | inl e ↦ left (first-nil (list_at new bucket) (ap (list_at new) (sym e) ∙ nil))
        | inr n ↦ m.some p low bit (sym (others (suc p) n) ∙ nil)
      ];
    }

-- with no mark and no node in the first bucket, there is no node
pub empty-from_marks : (buckets : Family) (filled : ℕ) → filled ≡ 0 → IsMarked buckets filled → length buckets.lists ≡ 65 → list_at buckets 0 ≡ [] → (bucket : ℕ) → list_at buckets bucket ≡ []
empty-from_marks buckets filled none m long first zero = first
empty-from_marks buckets filled none m long first (suc p) =
    elim (cases_lt p 64) [
      | inl lt ↦ m.none p lt (ap (λ n. bit_at n p) none ∙ bit_at-zero p)
      | inr ge ↦ get_or_past buckets.lists (suc p) [] (omega arith)
    ]

-- the lowest mark names the lowest bucket that has a node
pub lowest-from_marks : (buckets : Family) (filled bucket first : ℕ) → IsMarked buckets filled → list_at buckets 0 ≡ [] → 0 < bucket → bucket ≤ 64 → ((place : ℕ) → place + 1 < bucket → bit_at filled place ≡ 0) → slice_get (list_at buckets bucket) 0 ≡ Some first → IsLowest buckets bucket first
lowest-from_marks buckets filled bucket first m none pos high below found = record {
  within = omega arith;
  first_node = found;
  below = λ lower lt. lower-empty lower lt;
}
  where
    lower-empty : (lower : ℕ) → lower < bucket → list_at buckets lower ≡ []
    lower-empty zero lt = none
    lower-empty (suc p) lt = m.none p (omega arith) (below p (omega arith))

pub some-from_not_none : (o : Option ℕ) → o ≢ None → is_some o ≡ true
some-from_not_none None n = absurd (n refl)
some-from_not_none (Some x) n = refl

pub not_none-from_some : (o : Option ℕ) → is_some o ≡ true → o ≢ None
not_none-from_some o h e = true≢false (sym h ∙ ap is_some e)

pub none-from_not_some : (o : Option ℕ) → is_some o ≡ false → o ≡ None
none-from_not_some None h = refl
none-from_not_some (Some x) h = cc

pub marked-first : (buckets : Family) (filled bucket : ℕ) → IsMarked buckets filled → 0 < bucket → bucket ≤ 64 → bit_at filled (bucket - 1) ≡ 1 → slice_get (list_at buckets bucket) 0 ≢ None
marked-first buckets filled bucket m pos high bit none =
    let at : suc (bucket - 1) ≡ bucket = omega arith in
    m.some (bucket - 1) (omega arith) bit (ap (list_at buckets) at ∙ nil-from_first (list_at buckets bucket) none)

pub contains-first : (xs : List ℕ) (o : Option ℕ) (x : ℕ) → o ≡ slice_get xs 0 → o ≡ Some x → Contains xs x
contains-first xs o x read is = Contains-from_get xs 0 x (sym read ∙ is)
