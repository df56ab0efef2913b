-- a walk from the front to where a place belongs
use Rattle.wait_list.proofs.Common.{◌≡◌, ℕ, suc, ◌+◌, ◌<◌, ◌≤◌, List, [], ◌∷◌, ◌++◌, length, nat_eq, refl, sym, ap, ◌∙◌, subst, arith, append_assoc, length-append, Option, Some, None, slice_get, AllByRecursion, IsDistinct, nodes_left, nodes_left-at, Rises, EndsWith, IsSplit}
use Rattle.wait_list.proofs.Rising.{each-append, each-weaker, rises-right, slice_get-behind, slice_get-next}

-- the places before the current one are below the place, and `last` is the last of them
pub record IsWalk (places : List ℕ) (place : ℕ) (last current : Option ℕ) : Type 0 where
  pub front : List ℕ
  pub back : List ℕ
  pub whole : places ≡ front ++ back
  pub below : AllByRecursion (λ other. other < place) front
  pub ends : EndsWith front last
  pub here : current ≡ slice_get back 0

-- the current place splits what is left
pub record IsNext (back : List ℕ) (other : ℕ) : Type 0 where
  pub rest : List ℕ
  pub starts : back ≡ other ∷ rest

pub next-from_first : (back : List ℕ) (other : ℕ) → slice_get back 0 ≡ Some other → IsNext back other
next-from_first [] other h = cc
next-from_first (x ∷ back) other h = let same : x ≡ other = cc in record { rest = back; starts = ap (λ y. y ∷ back) same }

pub walk-next : (places : List ℕ) (place : ℕ) (last current : Option ℕ) (other : ℕ) → (w : IsWalk places place last current) → current ≡ Some other → IsNext w.back other
walk-next places place last current other w now = next-from_first w.back other (sym w.here ∙ now)

-- the place in the whole list of the current one
pub walk-place : (places : List ℕ) (place : ℕ) (last current : Option ℕ) (other : ℕ) → (w : IsWalk places place last current) → current ≡ Some other → slice_get places (length w.front) ≡ Some other
walk-place places place last current other w now =
    ap (λ xs. slice_get xs (length w.front)) w.whole ∙ slice_get-behind w.front w.back ∙ sym w.here ∙ now

pub walk-more : (places : List ℕ) (place : ℕ) (last current next : Option ℕ) (other : ℕ) → (w : IsWalk places place last current) → current ≡ Some other → other < place → next ≡ slice_get places (length w.front + 1) → IsWalk places place current next
walk-more places place last current next other w now low then_next =
    let n = walk-next places place last current other w now in
    let whole : places ≡ w.front ++ other ∷ n.rest = w.whole ∙ ap (λ xs. w.front ++ xs) n.starts in
    let ends : EndsWith (w.front ++ other ∷ []) (Some other) = (w.front, refl) in
    record {
      front = w.front ++ other ∷ [];
      back = n.rest;
      whole = whole ∙ sym (append_assoc w.front (other ∷ []) n.rest);
      below = each-append (λ x. x < place) w.front (other ∷ []) w.below (low, tt);
      ends = subst (EndsWith (w.front ++ other ∷ [])) (sym now) ends;
      here = then_next ∙ ap (λ xs. slice_get xs (length w.front + 1)) whole ∙ slice_get-next w.front n.rest other;
    }

pub walk-falls : (places : List ℕ) (place : ℕ) (last current next : Option ℕ) (other : ℕ) → IsDistinct nat_eq places → (w : IsWalk places place last current) → current ≡ Some other → next ≡ slice_get places (length w.front + 1) → nodes_left next places < nodes_left current places
walk-falls places place last current next other distinct w now then_next =
    let at = walk-place places place last current other w now in
    let n = walk-next places place last current other w now in
    let long : length places ≡ length w.front + suc (length n.rest) =
    ap length (w.whole ∙ ap (λ xs. w.front ++ xs) n.starts) ∙ length-append w.front (other ∷ n.rest) in
    let left = nodes_left-at places (length w.front) distinct in
    let less = nodes_left-at places (length w.front + 1) distinct in
    let same : nodes_left current places ≡ nodes_left (slice_get places (length w.front)) places = ap (λ o. nodes_left o places) (now ∙ sym at) in
    let same_next : nodes_left next places ≡ nodes_left (slice_get places (length w.front + 1)) places = ap (λ o. nodes_left o places) then_next in
    omega (arith, long, left, less, same, same_next)

-- the walk ends where nothing is left, or at a place that is not below
pub walk-end : (places : List ℕ) (place : ℕ) (last current : Option ℕ) → IsWalk places place last current → current ≡ None → IsSplit places place last
walk-end places place last current w none = record {
  front = w.front;
  back = w.back;
  whole = w.whole;
  below = w.below;
  above = nothing w.back (sym w.here ∙ none);
  ends = w.ends;
}
  where
    nothing : (back : List ℕ) → slice_get back 0 ≡ None → AllByRecursion (λ other. place ≤ other) back
    nothing [] h = tt
    nothing (x ∷ back) h = cc

pub walk-stop : (places : List ℕ) (place : ℕ) (last current : Option ℕ) (other : ℕ) → Rises places → IsWalk places place last current → current ≡ Some other → place ≤ other → IsSplit places place last
walk-stop places place last current other rises w now high =
    let n = walk-next places place last current other w now in
    let tail : Rises (other ∷ n.rest) = subst Rises n.starts (rises-right w.front w.back (subst Rises w.whole rises)) in
    record {
      front = w.front;
      back = w.back;
      whole = w.whole;
      below = w.below;
      above = subst (AllByRecursion (λ x. place ≤ x)) (sym n.starts) (high, each-weaker (λ x. other < x) (λ x. place ≤ x) n.rest (λ x lt. omega arith) tail.0);
      ends = w.ends;
    }
