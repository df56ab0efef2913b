-- Lists, whatever their elements.
use Rattle.model_laws.proofs.Common.{◌≡◌, ℕ, suc, ◌<◌, ◌≤◌, List, [], ◌∷◌, length, get_or, eqb, refl, arith, ◌++◌, inl, inr, Option, Some, None, cons_option, filter, filter_map, IsDistinct, Bool, true, false, cond, IsDistinct-head, IsDistinct-tail, IsDistinct-cons, slice_get-get_or}
use Rattle.model_laws.proofs.plain.Each.{each-filter, each-append}
use Rattle.model_laws.proofs.plain.Among.{Among}

-- within a list the default is never read
pub any-default : {A : Type 0} (xs : List A) (i : ℕ) (c e : A) → i < length xs → get_or xs i c ≡ get_or xs i e
any-default xs i c e within = grind (arith, slice_get-get_or xs i c within, slice_get-get_or xs i e within)

-- equal lists have equal heads and tails
pub same-head : {X : Type 0} (a b : X) (xs ys : List X) → a ∷ xs ≡ b ∷ ys → a ≡ b
same-head a b xs ys e = cc e

pub same-tail : {X : Type 0} (a b : X) (xs ys : List X) → a ∷ xs ≡ b ∷ ys → xs ≡ ys
same-tail a b xs ys e = cc e

pub length-filter_map-le : {X Y : Type 0} (f : X → Option Y) (xs : List X) → length (filter_map f xs) ≤ length xs
length-filter_map-le f [] = omega arith
length-filter_map-le {X} {Y} f (x ∷ xs) = by_case (f x) (length-filter_map-le f xs)
  where
    by_case : (o : Option Y) → length (filter_map f xs) ≤ length xs → length (cons_option o (filter_map f xs)) ≤ suc (length xs)
    by_case None few = omega arith
    by_case (Some y) few = omega arith

-- different numbers and another one
pub distinct-push : (xs : List ℕ) (x : ℕ) → IsDistinct eqb xs → ((y : ℕ) → Among y xs → eqb y x ≡ false) → IsDistinct eqb (xs ++ x ∷ [])
distinct-push [] x distinct fresh = IsDistinct-cons eqb x [] tt distinct
distinct-push (y ∷ ys) x distinct fresh =
    IsDistinct-cons eqb y (ys ++ x ∷ []) (each-append (λ z. eqb y z ≡ false) ys (x ∷ []) (IsDistinct-head eqb y ys distinct) (fresh y (inl refl), tt))
    (distinct-push ys x (IsDistinct-tail eqb y ys distinct) (λ z there. fresh z (inr there)))

-- some of different numbers are different
pub distinct-filter : (p : ℕ → Bool) (xs : List ℕ) → IsDistinct eqb xs → IsDistinct eqb (filter p xs)
distinct-filter p [] distinct = distinct
distinct-filter p (x ∷ xs) distinct =
    elim (p x) as (λ b. IsDistinct eqb (cond b (x ∷ filter p xs) (filter p xs))) [
      | true ↦ IsDistinct-cons eqb x (filter p xs)
          (each-filter (λ y. eqb x y ≡ false) p xs (IsDistinct-head eqb x xs distinct))
          (distinct-filter p xs (IsDistinct-tail eqb x xs distinct))
      | false ↦ distinct-filter p xs (IsDistinct-tail eqb x xs distinct)
    ]
