-- what is read and written where a place belongs
use Rattle.wait_list.proofs.Common.{◌≡◌, ℕ, ◌+◌, ◌<◌, ◌≤◌, List, [], ◌∷◌, ◌++◌, length, nat_eq, sym, ap, ◌∙◌, subst, arith, append_assoc, Option, Some, None, Contains, slice_get, AllByRecursion, IsDistinct, Contains-append_right, with_behind, Contains-from_get, places_below, places_above, Rises, IsSplit}
use Rattle.wait_list.proofs.Rising.{each-weaker, each-append, below-split, above-split, strictly-above, rises-insert, with_behind-split, slice_get-behind, slice_get-next, split-at}

-- ---- a place that does not wait

-- the split is that into the places below and the places above
pub record IsParted (places : List ℕ) (place : ℕ) (front back : List ℕ) : Type 0 where
  pub front_is : places_below place places ≡ front
  pub back_is : places_above place places ≡ back
  pub above : AllByRecursion (λ other. place < other) back

absent-right : (front back : List ℕ) (places : List ℕ) (place : ℕ) → places ≡ front ++ back → (Contains places place → ⊥) → Contains back place → ⊥
absent-right front back places place whole out c =
    out (subst (λ xs. Contains xs place) (sym whole) (Contains-append_right front back place c))

pub parted : (places : List ℕ) (place : ℕ) (last : Option ℕ) → (s : IsSplit places place last) → (Contains places place → ⊥) → IsParted places place s.front s.back
parted places place last s out =
    let above = strictly-above place s.back (absent-right s.front s.back places place s.whole out) s.above in
    record {
      front_is = ap (places_below place) s.whole ∙ below-split s.front s.back place s.below above;
      back_is = ap (places_above place) s.whole ∙ above-split s.front s.back place (each-weaker (λ x. x < place) (λ x. x ≤ place) s.front (λ x lt. omega arith) s.below) above;
      above = above;
    }

-- the list with the place in it rises
pub rises-put : (places : List ℕ) (place : ℕ) (last : Option ℕ) → IsSplit places place last → (Contains places place → ⊥) → Rises places → Rises (places_below place places ++ place ∷ places_above place places)
rises-put places place last s out rises =
    let p = parted places place last s out in
    subst (λ xs. Rises (xs ++ place ∷ places_above place places)) (sym p.front_is)
    (subst (λ ys. Rises (s.front ++ place ∷ ys)) (sym p.back_is)
    (rises-insert s.front s.back place (subst Rises s.whole rises) s.below p.above))

put-parted : (places : List ℕ) (place : ℕ) (front back : List ℕ) → IsParted places place front back → front ++ place ∷ back ≡ places_below place places ++ place ∷ places_above place places
put-parted places place front back p =
    ap (λ xs. xs ++ place ∷ back) (sym p.front_is) ∙ ap (λ ys. places_below place places ++ place ∷ ys) (sym p.back_is)

-- where no place is below it goes to the front
pub put-first : (places : List ℕ) (place : ℕ) → IsSplit places place None → (Contains places place → ⊥) → place ∷ places ≡ places_below place places ++ place ∷ places_above place places
put-first places place s out =
    let whole : place ∷ places ≡ s.front ++ place ∷ s.back =
    ap (λ xs. place ∷ xs) (s.whole ∙ ap (λ xs. xs ++ s.back) s.ends) ∙ ap (λ xs. xs ++ place ∷ s.back) (sym s.ends) in
    whole ∙ put-parted places place s.front s.back (parted places place None s out)

-- the whole list round the last place below
whole-round : (places : List ℕ) (place last : ℕ) → (s : IsSplit places place (Some last)) → places ≡ s.ends.0 ++ last ∷ s.back
whole-round places place last s =
    s.whole ∙ ap (λ xs. xs ++ s.back) s.ends.1 ∙ append_assoc s.ends.0 (last ∷ []) s.back

pub put-behind : (places : List ℕ) (place last : ℕ) → IsSplit places place (Some last) → (Contains places place → ⊥) → IsDistinct nat_eq places → with_behind last place places ≡ places_below place places ++ place ∷ places_above place places
put-behind places place last s out distinct =
    let others : List ℕ = s.ends.0 in
    let whole = whole-round places place last s in
    let behind : with_behind last place places ≡ others ++ last ∷ place ∷ s.back =
    ap (with_behind last place) whole ∙ with_behind-split others s.back last place (subst (IsDistinct nat_eq) whole distinct) in
    let front : others ++ last ∷ place ∷ s.back ≡ s.front ++ place ∷ s.back =
    sym (append_assoc others (last ∷ []) (place ∷ s.back)) ∙ ap (λ xs. xs ++ place ∷ s.back) (sym s.ends.1) in
    behind ∙ front ∙ put-parted places place s.front s.back (parted places place (Some last) s out)

pub last-at : (places : List ℕ) (place last : ℕ) → (s : IsSplit places place (Some last)) → slice_get places (length s.ends.0) ≡ Some last
last-at places place last s =
    ap (λ xs. slice_get xs (length s.ends.0)) (whole-round places place last s) ∙ slice_get-behind s.ends.0 (last ∷ s.back)

pub last-waits : (places : List ℕ) (place last : ℕ) → IsSplit places place (Some last) → Contains places last
last-waits places place last s = Contains-from_get places (length s.ends.0) last (last-at places place last s)

-- ---- the lowest place above

pub after-first : (places : List ℕ) (place : ℕ) (result : Option ℕ) → IsSplit places place None → (Contains places place → ⊥) → result ≡ slice_get places 0 → result ≡ slice_get (places_above place places) 0
after-first places place result s out h =
    h ∙ ap (λ xs. slice_get xs 0) (s.whole ∙ ap (λ xs. xs ++ s.back) s.ends ∙ sym (parted places place None s out).back_is)

pub after-last : (places : List ℕ) (place last : ℕ) (result : Option ℕ) → IsSplit places place (Some last) → (Contains places place → ⊥) → ((k : ℕ) → slice_get places k ≡ Some last → result ≡ slice_get places (k + 1)) → result ≡ slice_get (places_above place places) 0
after-last places place last result s out next =
    next (length s.ends.0) (last-at places place last s)
    ∙ ap (λ xs. slice_get xs (length s.ends.0 + 1)) (whole-round places place last s)
    ∙ slice_get-next s.ends.0 s.back last
    ∙ ap (λ xs. slice_get xs 0) (sym (parted places place (Some last) s out).back_is)

pub after-here : (places : List ℕ) (place : ℕ) (result : Option ℕ) → Rises places → Contains places place → ((k : ℕ) → slice_get places k ≡ Some place → result ≡ slice_get places (k + 1)) → result ≡ slice_get (places_above place places) 0
after-here places place result rises here next =
    let s = split-at places place rises here in
    let up_to : AllByRecursion (λ x. x ≤ place) (s.front ++ place ∷ []) =
    each-append (λ x. x ≤ place) s.front (place ∷ []) (each-weaker (λ x. x < place) (λ x. x ≤ place) s.front (λ x lt. omega arith) s.below) (omega arith, tt) in
    let above : places_above place places ≡ s.back =
    ap (places_above place) (s.whole ∙ sym (append_assoc s.front (place ∷ []) s.back)) ∙ above-split (s.front ++ place ∷ []) s.back place up_to s.above in
    next (length s.front) (ap (λ xs. slice_get xs (length s.front)) s.whole ∙ slice_get-behind s.front (place ∷ s.back))
    ∙ ap (λ xs. slice_get xs (length s.front + 1)) s.whole
    ∙ slice_get-next s.front s.back place
    ∙ ap (λ xs. slice_get xs 0) (sym above)
