-- The place of a vehicle in its fleet.
use Rattle.board_core.proofs.Common.{◌≡◌, ℕ, zero, suc, ◌+◌, ◌<◌, ◌≤◌, Bool, true, false, ◌||◌, cond, if◌then◌else◌, List, [], ◌∷◌, ◌++◌, refl, length, map, take, get_or, slice_get, eqb, ltb, sym, ◌∙◌, ap, subst, arith, Some, None, MatchOption, find, option_map, position, slice_set, not, ◌==◌, IsDistinct, enumerate_from, list_any, position_or_len, ltb-true, ltb-false, length-map, map-append, take-map, take_more, All-from_recursion, find_at, length-enumerate_from, get_or-enumerate_from, IsDistinct-head, IsDistinct-tail, slice_get-get_or, slice_get_past, eqb-comm, any-default, insert_key, Vehicle, find_vehicle, vehicle_ids, placed_in}
use Rattle.std.proofs.Math.ListN.{get_or-map}

-- the first element with a key stands where the key stands first
first-by : {X : Type 0} (key : X → ℕ) (xs : List X) (id : ℕ) → position_or_len (λ x. key x == id) xs ≡ position_or_len (eqb id) (map key xs)
first-by key [] id = refl
first-by key (x ∷ xs) id =
    ap (λ b. cond (not b) (1 + position_or_len (λ x. key x == id) xs) 0) (eqb-comm (key x) id)
    ∙ ap (λ k. cond (not (eqb id (key x))) (1 + k) 0) (first-by key xs id)

-- vehicles with their places have the same ids
ids-placed : (n : ℕ) (vehicles : List Vehicle) → map (λ (placed : ℕ × Vehicle). placed.1.id) (enumerate_from n vehicles) ≡ vehicle_ids vehicles
ids-placed n [] = refl
ids-placed n (v ∷ vehicles) = ap (λ ids. v.id ∷ ids) (ids-placed (n + 1) vehicles)

-- the vehicle of an id, where the ids have a place for it
module _ (vehicles : List Vehicle) (id : ℕ) where
  abbrev first : ℕ
  first = position_or_len (eqb id) (vehicle_ids vehicles)

  many : length (vehicle_ids vehicles) ≡ length vehicles
  many = length-map vehicles (λ (v : Vehicle). v.id)

  placed : placed_in vehicles id ≡ slice_get (enumerate_from 0 vehicles) first
  placed =
      find_at (λ (placed : ℕ × Vehicle). placed.1.id == id) (enumerate_from 0 vehicles)
      ∙ ap (slice_get (enumerate_from 0 vehicles))
      (first-by (λ (placed : ℕ × Vehicle). placed.1.id) (enumerate_from 0 vehicles) id ∙ ap (position_or_len (eqb id)) (ids-placed 0 vehicles))

  inside : ltb first (length (vehicle_ids vehicles)) ≡ true → first < length vehicles
  inside is = omega (arith, ltb-true first (length (vehicle_ids vehicles)) is, many)

  outside : ltb first (length (vehicle_ids vehicles)) ≡ false → length vehicles ≤ first
  outside is = omega (arith, ltb-false first (length (vehicle_ids vehicles)) is, many)

  nowhere : length vehicles ≤ first → placed_in vehicles id ≡ None
  nowhere past = placed ∙ slice_get_past (enumerate_from 0 vehicles) first (omega (arith, past, length-enumerate_from 0 vehicles))

  -- the place is within the fleet
  pub placed-within : MatchOption (position (eqb id) (vehicle_ids vehicles)) (placed_in vehicles id ≡ None) (λ place. place < length vehicles)
  placed-within = by (ltb first (length (vehicle_ids vehicles))) refl
    where
      by : (b : Bool) → ltb first (length (vehicle_ids vehicles)) ≡ b
          → MatchOption (cond b (Some first) None) (placed_in vehicles id ≡ None) (λ place. place < length vehicles)
      by true is = inside is
      by false is = nowhere (outside is)

  -- it is that of the vehicle
  pub placed-there : MatchOption (position (eqb id) (vehicle_ids vehicles)) (placed_in vehicles id ≡ None)
      (λ place. (v : Vehicle) → placed_in vehicles id ≡ Some (place, get_or vehicles place v))
  placed-there = by (ltb first (length (vehicle_ids vehicles))) refl
    where
      zero_plus : (n : ℕ) → 0 + n ≡ n
      zero_plus n = omega arith

      by : (b : Bool) → ltb first (length (vehicle_ids vehicles)) ≡ b → MatchOption (cond b (Some first) None) (placed_in vehicles id ≡ None)
          (λ place. (v : Vehicle) → placed_in vehicles id ≡ Some (place, get_or vehicles place v))
      by true is = λ v.
          placed
          ∙ slice_get-get_or (enumerate_from 0 vehicles) first (0, v) (omega (arith, inside is, length-enumerate_from 0 vehicles))
          ∙ ap Some (get_or-enumerate_from 0 vehicles first (0, v) (inside is) ∙ ap (λ n. (n, get_or vehicles first v)) (zero_plus first))
      by false is = nowhere (outside is)

-- a vehicle is found with its place or without
pub found-placed : (n : ℕ) (vehicles : List Vehicle) (id : ℕ)
    → find_vehicle vehicles id ≡ option_map (λ (placed : ℕ × Vehicle). placed.1) (find (λ (placed : ℕ × Vehicle). placed.1.id == id) (enumerate_from n vehicles))
found-placed n [] id = refl
found-placed n (v ∷ vehicles) id = by (v.id == id) (found-placed (n + 1) vehicles id)
  where
    by : (b : Bool) → let later = find (λ (placed : ℕ × Vehicle). placed.1.id == id) (enumerate_from (n + 1) vehicles) in
        find_vehicle vehicles id ≡ option_map (λ (placed : ℕ × Vehicle). placed.1) later
        → cond b (Some v) (find_vehicle vehicles id) ≡ option_map (λ (placed : ℕ × Vehicle). placed.1) (cond b (Some (n, v)) later)
    by true rest = refl
    by false rest = rest

-- an element of distinct numbers is none of those before it
new-id : (ids : List ℕ) (i d : ℕ) → IsDistinct eqb ids → i < length ids → list_any (eqb (get_or ids i d)) (take i ids) ≡ false
new-id [] i d distinct low = absurd (omega (arith, low))
new-id (x ∷ ids) zero d distinct low = refl
new-id (x ∷ ids) (suc i) d distinct low =
    let later : i < length ids = omega (arith, low) in
    let y = get_or ids i d in
    ap (λ b. b || list_any (eqb y) (take i ids))
    (eqb-comm y x ∙ All-from_recursion (λ k. eqb x k ≡ false) ids (IsDistinct-head eqb x ids distinct) i d later)
    ∙ new-id ids i d (IsDistinct-tail eqb x ids distinct) later

-- the ids so far and the next
pub ids-pushed : (vehicles : List Vehicle) (i : ℕ) (v : Vehicle) → IsDistinct eqb (vehicle_ids vehicles) → i < length vehicles
    → v ≡ get_or vehicles i v
    → insert_key eqb (map (λ (w : Vehicle). w.id) (take i vehicles)) v.id ≡ map (λ (w : Vehicle). w.id) (take (i + 1) vehicles)
ids-pushed vehicles i v distinct low is =
    let id_of : Vehicle → ℕ = λ w. w.id in
    let so_far = map id_of (take i vehicles) in
    let ids_low : i < length (vehicle_ids vehicles) = omega (arith, low, length-map vehicles id_of) in
    let at : get_or (vehicle_ids vehicles) i v.id ≡ v.id = get_or-map id_of vehicles i v ∙ ap id_of (sym is) in
    let fresh : list_any (eqb v.id) so_far ≡ false
    = subst (λ ids. list_any (eqb v.id) ids ≡ false) (take-map id_of i vehicles)
    (subst (λ k. list_any (eqb k) (take i (vehicle_ids vehicles)) ≡ false) at (new-id (vehicle_ids vehicles) i v.id distinct ids_low)) in
    ap (λ b. if b then so_far else so_far ++ v.id ∷ []) fresh
    ∙ ap (λ w. so_far ++ id_of w ∷ []) is
    ∙ sym (ap (map id_of) (take_more vehicles i v low) ∙ map-append id_of (take i vehicles) (get_or vehicles i v ∷ []))

-- the vehicle that was read at its place
pub placed-at : (vehicles : List Vehicle) (id place : ℕ) (v : Vehicle) → ((d : Vehicle) → placed_in vehicles id ≡ Some (place, get_or vehicles place d))
    → v ≡ get_or vehicles place v → placed_in vehicles id ≡ Some (place, v)
placed-at vehicles id place v placed is = placed v ∙ ap (λ w. Some (place, w)) (sym is)

-- two reads of one element
pub same-read : {X : Type 0} (xs : List X) (place : ℕ) (x y : X) → place < length xs → x ≡ get_or xs place x → y ≡ get_or xs place y → x ≡ y
same-read xs place x y low x_is y_is = x_is ∙ any-default xs place x y low ∙ sym y_is

-- an element put where it stands
pub set-same : {X : Type 0} (xs : List X) (place : ℕ) (x : X) → place < length xs → x ≡ get_or xs place x → slice_set xs place x ≡ xs
set-same [] place x low is = absurd (omega arith)
set-same (y ∷ xs) zero x low is = ap (λ z. z ∷ xs) is
set-same (y ∷ xs) (suc place) x low is = ap (λ ys. y ∷ ys) (set-same xs place x (omega arith) is)
