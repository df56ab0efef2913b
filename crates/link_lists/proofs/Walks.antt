-- a walk along a list by `first` and `next`, for the crates above
use Rattle.link_lists.proofs.Common.{◌≡◌, ◌≢◌, ℕ, zero, suc, ◌-◌, ◌<◌, List, [], ◌∷◌, length, nat_eq, refl, sym, ap, ◌∙◌, subst, arith, Option, Some, None, slice_get, if◌then◌else◌, ◌==◌, IsDistinct, eq-eqb, ne_eqb}
use Rattle.link_lists.proofs.Members.{IsDistinct-first, IsDistinct-rest}
use Rattle.link_lists.proofs.Kept.{Contains-from_get}

-- how many nodes of a list are left from one on: the measure of a walk
abbrev pub nodes_left : Option ℕ → List ℕ → ℕ
nodes_left None nodes = 0
nodes_left (Some node) [] = 0
nodes_left (Some node) (first ∷ nodes) =
    if first == node then suc (length nodes) else nodes_left (Some node) nodes

-- a node that is not the first is looked for behind it
nodes_left-behind : (o : Option ℕ) (x : ℕ) (xs : List ℕ) → ((y : ℕ) → o ≡ Some y → x ≢ y) → nodes_left o (x ∷ xs) ≡ nodes_left o xs
nodes_left-behind None x xs differs = refl
nodes_left-behind (Some y) x xs differs = rw (ne_eqb x y (differs y refl)) refl

pub nodes_left-at : (nodes : List ℕ) (place : ℕ) → IsDistinct nat_eq nodes → nodes_left (slice_get nodes place) nodes ≡ length nodes - place
nodes_left-at [] place distinct = omega arith
nodes_left-at (x ∷ xs) zero distinct = rw (eq-eqb x x refl) (omega arith)
nodes_left-at (x ∷ xs) (suc place) distinct =
    let rest = nodes_left-at xs place (IsDistinct-rest x xs distinct) in
    let behind = nodes_left-behind (slice_get xs place) x xs (λ y e same. IsDistinct-first x xs distinct (Contains-from_get xs place x (e ∙ ap Some (sym same)))) in
    omega (arith, rest, behind)
