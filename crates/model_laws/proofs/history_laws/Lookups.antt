-- Lists whose elements are found by an id of theirs, and maps that change no id.
use Rattle.model_laws.proofs.Common.{◌≡◌, ℕ, zero, suc, ◌+◌, Bool, true, false, cond, inl, inr, List, [], ◌∷◌, take, eqb, refl, sym, ◌∙◌, ap, subst, arith, map, Some, option_map, is_some, find, slice_set, ◌==◌, All, AllByRecursion, enumerate_from, filter, eqb-true, eq-eqb, ne_eqb, All-from_recursion, All-contains, IsDistinct-head, IsDistinct-tail, IsDistinct-cons, same_Some, Vehicle, find_vehicle, vehicle_ids}
use Rattle.std.specs.List.{IsDistinct}
use Rattle.model_laws.proofs.plain.Among.{Among, contains_from_among, among_map}
use Rattle.model_laws.proofs.plain.Each.{of_each, of_all, all_of}

-- what is found after a map that changes no id
pub find-map : {X : Type 0} (key : X → ℕ) (g : X → X) → ((x : X) → key (g x) ≡ key x) → (q : ℕ) (xs : List X)
    → find (λ (x : X). key x == q) (map g xs) ≡ option_map g (find (λ (x : X). key x == q) xs)
find-map key g same q [] = refl
find-map {X} key g same q (x ∷ xs) =
    ap (λ k. cond (eqb k q) (Some (g x)) (find (λ (y : X). key y == q) (map g xs))) (same x)
    ∙ by_test (find-map key g same q xs) (eqb (key x) q)
  where
    by_test : find (λ (y : X). key y == q) (map g xs) ≡ option_map g (find (λ (y : X). key y == q) xs) → (b : Bool)
        → cond b (Some (g x)) (find (λ (y : X). key y == q) (map g xs)) ≡ option_map g
        (cond b (Some x) (find (λ (y : X). key y == q) xs))
    by_test later true = refl
    by_test later false = later

-- the ids after a map that changes none
pub ids-map : {X : Type 0} (key : X → ℕ) (g : X → X) → ((x : X) → key (g x) ≡ key x) → (xs : List X)
    → map key (map g xs) ≡ map key xs
ids-map key g same [] = refl
ids-map key g same (x ∷ xs) = ap (λ k. k ∷ map key (map g xs)) (same x) ∙ ap (λ ks. key x ∷ ks) (ids-map key g same xs)

-- a map that changes no element
pub map-same : {X : Type 0} (g : X → X) (xs : List X) → ((x : X) → Among x xs → g x ≡ x) → map g xs ≡ xs
map-same g [] same = refl
map-same g (x ∷ xs) same = ap (λ y. y ∷ map g xs) (same x (inl refl))
    ∙ ap (λ ys. x ∷ ys) (map-same g xs (λ y there. same y (inr there)))

-- each element is found by its id, where the ids differ
pub found_by : {X : Type 0} (key : X → ℕ) (xs : List X) (x : X) → IsDistinct eqb (map key xs) → Among x xs
    → find (λ (y : X). key y == key x) xs ≡ Some x
found_by key [] x distinct there = absurd there
found_by {X} key (y ∷ ys) x distinct (inl is) = ap (λ b. cond b (Some y) (find (λ (z : X). key z == key x) ys))
    (eq-eqb (key y) (key x) (ap key is)) ∙ ap Some is
found_by {X} key (y ∷ ys) x distinct (inr there) =
    ap (λ b. cond b (Some y) (find (λ (z : X). key z == key x) ys))
    (of_each (λ k. eqb (key y) k ≡ false) (map key ys) (key x) (IsDistinct-head eqb (key y) (map key ys) distinct)
    (among_map key ys x there))
    ∙ found_by key ys x (IsDistinct-tail eqb (key y) (map key ys) distinct) there

-- the record in the place of the one of its id
abbrev pub put : Vehicle → Vehicle → Vehicle
put new v = cond (v.id == new.id) new v

-- putting a record changes no id
pub put-id : (new v : Vehicle) → (put new v).id ≡ v.id
put-id new v = by_test (eqb v.id new.id) refl
  where
    by_test : (b : Bool) → eqb v.id new.id ≡ b → (cond b new v).id ≡ v.id
    by_test true is = sym (eqb-true v.id new.id is)
    by_test false is = refl

-- the place of a vehicle: it is found by its id, and a record set at the place is put in the place of it
pub record Placed (vehicles : List Vehicle) (id place : ℕ) (v : Vehicle) : Type 0 where
  pub found : find_vehicle vehicles id ≡ Some v
  pub set_is : (new : Vehicle) → new.id ≡ id → slice_set vehicles place new ≡ map (put new) vehicles

-- the same with places counted from a number
placed_from : (n : ℕ) (vehicles : List Vehicle) (id place : ℕ) (v : Vehicle) → IsDistinct eqb (vehicle_ids vehicles)
    → find (λ (placed : ℕ × Vehicle). placed.1.id == id) (enumerate_from n vehicles) ≡ Some (place, v)
    → (k : ℕ) × (place ≡ n + k) × Placed vehicles id k v
placed_from n [] id place v distinct is = absurd (cc is)
placed_from n (w ∷ ws) id place v distinct is =
    by_test (λ some. placed_from (n + 1) ws id place v (IsDistinct-tail eqb w.id (vehicle_ids ws) distinct) some) (eqb w.id id) refl is
  where
    others : w.id ≡ id → (new : Vehicle) → new.id ≡ id → (u : Vehicle) → Among u ws → put new u ≡ u
    others here new new_is u there =
        ap (λ b. cond b new u) (ne_eqb u.id new.id (λ equal. absurd (cc (
          eq-eqb w.id u.id (here ∙ sym (equal ∙ new_is)),
          of_each (λ k. eqb w.id k ≡ false) (vehicle_ids ws) u.id (IsDistinct-head eqb w.id (vehicle_ids ws) distinct)
              (among_map (λ (x : Vehicle). x.id) ws u there),
        ))))

    by_test : (find (λ (placed : ℕ × Vehicle). placed.1.id == id) (enumerate_from (n + 1) ws) ≡ Some (place, v)
        → (k : ℕ) × (place ≡ n + 1 + k) × Placed ws id k v) → (b : Bool) → eqb w.id id ≡ b
        → cond b (Some (n, w)) (find (λ (placed : ℕ × Vehicle). placed.1.id == id) (enumerate_from (n + 1) ws)) ≡ Some (place, v)
        → (k : ℕ) × (place ≡ n + k) × Placed (w ∷ ws) id k v
    by_test later true here some =
        let pair = same_Some (n, w) (place, v) some in
        let at : n ≡ place = ap (λ (p : ℕ × Vehicle). p.0) pair in
        let vehicle_is : w ≡ v = ap (λ (p : ℕ × Vehicle). p.1) pair in (
          0,
          omega arith,
          record {
            found = ap (λ b. cond b (Some w) (find_vehicle ws id)) here ∙ ap Some vehicle_is;
            set_is = λ new new_is.
                sym (ap (λ b. cond b new w ∷ map (put new) ws) (eq-eqb w.id new.id (eqb-true w.id id here ∙ sym new_is))
                ∙ ap (λ rest. new ∷ rest) (map-same (put new) ws (others (eqb-true w.id id here) new new_is)));
          },
        )
    by_test later false other some =
        let (k, at, placed) = later some in (
          suc k,
          omega (arith, at),
          record {
            found = ap (λ b. cond b (Some w) (find_vehicle ws id)) other ∙ placed.found;
            set_is = λ new new_is.
                ap (λ rest. w ∷ rest) (placed.set_is new new_is)
                ∙ sym (ap (λ b. cond b new w ∷ map (put new) ws) (ap (eqb w.id) new_is ∙ other));
          },
        )

-- a vehicle with its place in the fleet
pub placed_is : (vehicles : List Vehicle) (id place : ℕ) (v : Vehicle) → IsDistinct eqb (vehicle_ids vehicles)
    → find (λ (placed : ℕ × Vehicle). placed.1.id == id) (enumerate_from 0 vehicles) ≡ Some (place, v)
    → Placed vehicles id place v
placed_is vehicles id place v distinct is =
    let (k, at, placed) = placed_from 0 vehicles id place v distinct is in
    subst (λ p. Placed vehicles id p v) (sym (same place k at)) placed
  where
    same : (a b : ℕ) → a ≡ 0 + b → a ≡ b
    same a b h = omega (arith, h)

-- no element has an id by which none is found
pub fresh_by : {X : Type 0} (key : X → ℕ) (xs : List X) (id : ℕ) → is_some (find (λ (x : X). key x == id) xs) ≡ false
    → (q : ℕ)
    → Among q (map key xs) → eqb q id ≡ false
fresh_by key [] id none q there = absurd there
fresh_by {X} key (x ∷ xs) id none q there = by_test (λ none there. fresh_by key xs id none q there) (eqb (key x) id) refl none there
  where
    by_test : (is_some (find (λ (y : X). key y == id) xs) ≡ false → Among q (map key xs) → eqb q id ≡ false) → (b : Bool)
        → eqb (key x) id ≡ b
        → is_some (cond b (Some x) (find (λ (y : X). key y == id) xs)) ≡ false → Among q (map key (x ∷ xs)) → eqb q id ≡ false
    by_test later true is none there = absurd (cc none)
    by_test later false is none (inl same) = ap (λ k. eqb k id) (sym same) ∙ is
    by_test later false is none (inr there) = later none there

-- no ids differ
pub distinct_nil : IsDistinct eqb []
unfolding IsDistinct
distinct_nil = tt

-- different ids stay so in a part of the list
pub distinct-filter_by : {X : Type 0} (key : X → ℕ) (p : X → Bool) (xs : List X) → IsDistinct eqb (map key xs)
    → IsDistinct eqb (map key (filter p xs))
distinct-filter_by key p [] distinct = distinct
distinct-filter_by {X} key p (x ∷ xs) distinct =
    let rest = distinct-filter_by key p xs (IsDistinct-tail eqb (key x) (map key xs) distinct) in
    elim (p x) as (λ b. IsDistinct eqb (map key (cond b (x ∷ filter p xs) (filter p xs)))) [
      | true ↦ IsDistinct-cons eqb (key x) (map key (filter p xs)) (kept xs (IsDistinct-head eqb (key x) (map key xs) distinct)) rest
      | false ↦ rest
    ]
  where
    kept : (ys : List X) → AllByRecursion (λ k. eqb (key x) k ≡ false) (map key ys)
        → AllByRecursion (λ k. eqb (key x) k ≡ false) (map key (filter p ys))
    kept [] h = tt
    kept (y ∷ ys) (first, rest) =
        elim (p y) as (λ b. AllByRecursion (λ k. eqb (key x) k ≡ false) (map key (cond b (y ∷ filter p ys) (filter p ys)))) [
          | true ↦ (first, kept ys rest)
          | false ↦ kept ys rest
        ]

-- the ids of the first elements differ
pub distinct-take_by : {X : Type 0} (key : X → ℕ) (n : ℕ) (xs : List X) → IsDistinct eqb (map key xs)
    → IsDistinct eqb (map key (take n xs))
distinct-take_by key zero xs distinct = distinct_nil
distinct-take_by key (suc n) [] distinct = distinct
distinct-take_by {X} key (suc n) (x ∷ xs) distinct =
    IsDistinct-cons eqb (key x) (map key (take n xs)) (kept n xs (IsDistinct-head eqb (key x) (map key xs) distinct))
    (distinct-take_by key n xs (IsDistinct-tail eqb (key x) (map key xs) distinct))
  where
    kept : (m : ℕ) (ys : List X) → AllByRecursion (λ k. eqb (key x) k ≡ false) (map key ys)
        → AllByRecursion (λ k. eqb (key x) k ≡ false) (map key (take m ys))
    kept zero ys h = tt
    kept (suc m) [] h = tt
    kept (suc m) (y ∷ ys) (first, rest) = (first, kept m ys rest)

-- the first elements are among all
pub among_take : {X : Type 0} (n : ℕ) (xs : List X) (x : X) → Among x (take n xs) → Among x xs
among_take zero xs x there = absurd there
among_take (suc n) [] x there = there
among_take (suc n) (y ∷ xs) x (inl is) = inl is
among_take (suc n) (y ∷ xs) x (inr there) = inr (among_take n xs x there)
