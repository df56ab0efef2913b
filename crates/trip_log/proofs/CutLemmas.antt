-- Bytes that are cut at a byte.
use Rattle.trip_log.proofs.Common.{◌≡◌, ◌≢◌, ℕ, zero, suc, ◌+◌, ◌-◌, ◌<◌, ◌==◌, ◌&&◌, not, Bool, true, List, [], ◌∷◌, ◌++◌, length, get_or, take, drop, Option, Some, None, refl, ap, sym, ◌∙◌, arith, add-one, length-append, list_all, join_with_byte, AllByRecursion, take-append_seam, eq-eqb, ne_eqb, and_parts, and_from, not-true, list_all-append, cut_at, front_of}

-- where the byte first stands
pub cut_at-place : (byte : ℕ) (bytes : List ℕ) (i : ℕ) → i < length bytes → ((k : ℕ) → k < i → get_or bytes k 0 ≢ byte)
    → get_or bytes i 0 ≡ byte → cut_at byte bytes ≡ Some (take i bytes, drop (i + 1) bytes)
cut_at-place byte [] i within before here = absurd (omega arith)
cut_at-place byte (b ∷ bytes) zero within before here = rw (eq-eqb b byte here) refl
cut_at-place byte (b ∷ bytes) (suc i) within before here =
    rw (
      ne_eqb b byte (before 0 (omega arith)),
      add-one,
      cut_at-place byte bytes i (omega arith) (λ k below. before (suc k) (omega arith)) here,
      add-one,
    ) refl

-- where it does not stand
pub cut_at-none : (byte : ℕ) (bytes : List ℕ) → ((k : ℕ) → k < length bytes → get_or bytes k 0 ≢ byte) → cut_at byte bytes ≡ None
cut_at-none byte [] never = refl
cut_at-none byte (b ∷ bytes) never =
    rw (ne_eqb b byte (never 0 (omega arith)), cut_at-none byte bytes (λ k below. never (suc k) (omega arith))) refl

-- bytes of which none is this byte
abbrev pub Avoids : ℕ → List ℕ → Type 0
Avoids byte bytes = list_all (λ b. not (b == byte)) bytes ≡ true

-- the first such byte
pub cut_at-first : (byte : ℕ) (xs ys : List ℕ) → Avoids byte xs → cut_at byte (xs ++ byte ∷ ys) ≡ Some (xs, ys)
cut_at-first byte [] ys avoids = rw (eq-eqb byte byte refl) refl
cut_at-first byte (x ∷ xs) ys avoids =
    let (here, later) = and_parts (not (x == byte)) (list_all (λ b. not (b == byte)) xs) avoids in
    rw (not-true (x == byte) here, cut_at-first byte xs ys later) refl

-- two texts that are equal up to and with the first such byte and after it
pub first-same : (byte : ℕ) (xs ys more others : List ℕ) → Avoids byte xs → Avoids byte ys → xs ++ byte ∷ more ≡ ys ++ byte ∷ others
    → (xs ≡ ys) × (more ≡ others)
first-same byte xs ys more others one other same =
    let cut : ◌≡◌ {A = Option (List ℕ × List ℕ)} (Some (xs, more)) (Some (ys, others)) =
    sym (cut_at-first byte xs more one) ∙ ap (cut_at byte) same ∙ cut_at-first byte ys others other in
    let both : ◌≡◌ {A = List ℕ × List ℕ} (xs, more) (ys, others) = cc in
    (ap (λ (p : List ℕ × List ℕ). p.0) both, ap (λ (p : List ℕ × List ℕ). p.1) both)

pub front_of-push : (xs : List ℕ) (b : ℕ) → front_of (xs ++ b ∷ []) ≡ xs
front_of-push xs b =
    let count : length (xs ++ b ∷ []) - 1 ≡ length xs = simp length-append (omega arith) in
    rw count (take-append_seam xs (b ∷ []))

-- what a test says of joined fields
pub all-joined : (test : ℕ → Bool) (byte : ℕ) (fields : List (List ℕ)) → test byte ≡ true
    → AllByRecursion (λ (field : List ℕ). list_all test field ≡ true) fields → list_all test (join_with_byte byte fields) ≡ true
all-joined test byte [] sep each = refl
all-joined test byte (field ∷ []) sep (first, _) = first
all-joined test byte (field ∷ next ∷ fields) sep (first, rest) =
    list_all-append test field (byte ∷ join_with_byte byte (next ∷ fields))
    ∙ and_from (list_all test field) (test byte && list_all test (join_with_byte byte (next ∷ fields))) first
    (and_from (test byte) (list_all test (join_with_byte byte (next ∷ fields))) sep (all-joined test byte (next ∷ fields) sep rest))

-- a weaker test
pub all-weaken : (test weaker : ℕ → Bool) → ((b : ℕ) → test b ≡ true → weaker b ≡ true) → (bytes : List ℕ)
    → list_all test bytes ≡ true → list_all weaker bytes ≡ true
all-weaken test weaker each [] all = refl
all-weaken test weaker each (b ∷ bytes) all =
    let (here, later) = and_parts (test b) (list_all test bytes) all in
    and_from (weaker b) (list_all weaker bytes) (each b here) (all-weaken test weaker each bytes later)
