-- Membership by recursion on the list.
use Rattle.model_laws.proofs.Common.{◌≡◌, zero, suc, ◌⊎◌, inl, inr, Bool, true, false, cond, List, [], ◌∷◌, refl, sym, ◌∙◌, ap, arith, ◌++◌, filter, map, Some, find, same_Some}
use Rattle.std.specs.List.{Contains}

-- x is one of the elements
abbrev pub Among : {X : Type 0} → X → List X → Type 0
Among x [] = ⊥
Among x (y ∷ ys) = (y ≡ x) ⊎ Among x ys

pub among_from_contains : {X : Type 0} (xs : List X) (x : X) → Contains xs x → Among x xs
among_from_contains [] x (k, below, is) = absurd (omega arith)
among_from_contains (y ∷ ys) x (zero, below, is) = inl is
among_from_contains (y ∷ ys) x (suc k, below, is) = inr (among_from_contains ys x (k, omega arith, is))

pub contains_from_among : {X : Type 0} (xs : List X) (x : X) → Among x xs → Contains xs x
contains_from_among [] x h = absurd h
contains_from_among (y ∷ ys) x (inl is) = (0, omega arith, is)
contains_from_among (y ∷ ys) x (inr later) =
    let (k, below, is) = contains_from_among ys x later in
    (suc k, omega arith, is)

-- what is among the images is the image of one of the elements
pub among_map_back : {X Y : Type 0} (f : X → Y) (xs : List X) (y : Y) → Among y (map f xs) → (x : X) × Among x xs × (f x ≡ y)
among_map_back f [] y h = absurd h
among_map_back f (x ∷ xs) y (inl is) = (x, inl refl, is)
among_map_back f (x ∷ xs) y (inr later) =
    let (z, among, is) = among_map_back f xs y later in
    (z, inr among, is)

pub among_map : {X Y : Type 0} (f : X → Y) (xs : List X) (x : X) → Among x xs → Among (f x) (map f xs)
among_map f [] x h = absurd h
among_map f (y ∷ ys) x (inl is) = inl (ap f is)
among_map f (y ∷ ys) x (inr later) = inr (among_map f ys x later)

-- an element of a list with one more is that one or one of the others
pub among_push_back : {X : Type 0} (xs : List X) (x y : X) → Among y (xs ++ x ∷ []) → Among y xs ⊎ (x ≡ y)
among_push_back [] x y (inl is) = inr is
among_push_back [] x y (inr none) = absurd none
among_push_back (z ∷ xs) x y (inl is) = inl (inl is)
among_push_back {X} (z ∷ xs) x y (inr there) = later (among_push_back xs x y there)
  where
    later : Among y xs ⊎ (x ≡ y) → Among y (z ∷ xs) ⊎ (x ≡ y)
    later (inl h) = inl (inr h)
    later (inr h) = inr h

-- a filter keeps the elements that pass
pub among_filter_back : {X : Type 0} (p : X → Bool) (xs : List X) (x : X) → Among x (filter p xs) → Among x xs × (p x ≡ true)
among_filter_back p [] x h = absurd h
among_filter_back {X} p (y ∷ ys) x h =
    elim (p y) as (λ b. p y ≡ b → Among x (cond b (y ∷ filter p ys) (filter p ys)) → Among x (y ∷ ys) × (p x ≡ true)) [
      | true ↦ λ passes in_front. elim in_front [
        | inl is ↦ (inl is, ap p (sym is) ∙ passes)
        | inr later ↦ let (among, p_is) = among_filter_back p ys x later in (inr among, p_is)
      ]
      | false ↦ λ _ later. let (among, p_is) = among_filter_back p ys x later in (inr among, p_is)
    ] refl h

pub among_filter : {X : Type 0} (p : X → Bool) (xs : List X) (x : X) → Among x xs → p x ≡ true → Among x (filter p xs)
among_filter p [] x h passes = absurd h
among_filter p (y ∷ ys) x (inl is) passes =
    elim (p y) as (λ b. p y ≡ b → Among x (cond b (y ∷ filter p ys) (filter p ys))) [
      | true ↦ λ _. inl is
      | false ↦ λ fails. cc (ap p is)
    ] refl
among_filter p (y ∷ ys) x (inr later) passes =
    elim (p y) as (λ b. Among x (cond b (y ∷ filter p ys) (filter p ys))) [
      | true ↦ inr (among_filter p ys x later passes)
      | false ↦ among_filter p ys x later passes
    ]

-- what is found passes, and is one of the elements
pub found_among : {X : Type 0} (p : X → Bool) (xs : List X) (x : X) → find p xs ≡ Some x → Among x xs × (p x ≡ true)
found_among p [] x h = absurd (cc h)
found_among p (y ∷ ys) x h =
    elim (p y) as (λ b. p y ≡ b → cond b (Some y) (find p ys) ≡ Some x → Among x (y ∷ ys) × (p x ≡ true)) [
      | true ↦ λ passes is. (inl (same_Some y x is), ap p (sym (same_Some y x is)) ∙ passes)
      | false ↦ λ _ is. let (among, passes) = found_among p ys x is in (inr among, passes)
    ] refl h
