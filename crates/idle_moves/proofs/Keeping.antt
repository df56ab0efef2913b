-- Versions that a map keeps by the ids of their vehicles.
use Rattle.idle_moves.proofs.Common.{◌≡◌, ℕ, zero, suc, ◌+◌, ◌<◌, ◌^◌, Bool, true, false, cond, List, [], ◌∷◌, Some, None, slice_get, get_or, length, take, eqb, refl, sym, ap, subst, ◌∙◌, arith, add-one, slice_index_or, unwrap_or, AllByRecursion, lookup, keys_of, values_of, eqb-true, get_or-map, length-map, All-from_recursion, recursion_from_All, IsDistinct-head, IsDistinct-tail, same_Some, insert_entry, set_value_at, Vehicle, versions_of, amount_of, vehicle_ids, HasRoom, raised}
use Rattle.std.specs.List.{IsDistinct}
use Rattle.model_laws.proofs.plain.Numbers.{eqb-comm}

-- nothing rises under an id that is no key
pub raised-absent : (id : ℕ) (entries : List (ℕ × ℕ)) → lookup (eqb id) entries ≡ None → entries ≡ raised id entries
raised-absent id [] none = refl
raised-absent id (e ∷ entries) none = by (raised-absent id entries) (eqb id e.0) refl none
  where
    by : (lookup (eqb id) entries ≡ None → entries ≡ raised id entries) → (b : Bool) → eqb id e.0 ≡ b
        → cond b (Some e.1) (lookup (eqb id) entries) ≡ None → e ∷ entries ≡ raised id (e ∷ entries)
    by later true is found = absurd (cc found)
    by later false is absent = rw (eqb-comm e.0 id ∙ is) (ap (λ rest. e ∷ rest) (later absent))

-- entries of other keys stay
others-stay : (id : ℕ) (entries : List (ℕ × ℕ)) → AllByRecursion (λ other. eqb id other ≡ false) (keys_of entries)
    → entries ≡ raised id entries
others-stay id [] others = refl
others-stay id (e ∷ entries) (other, others) =
    rw (eqb-comm e.0 id ∙ other) (ap (λ rest. e ∷ rest) (others-stay id entries others))

-- the first key is not the one that stands behind it
unlike : (first id i : ℕ) (entries : List (ℕ × ℕ)) (old : ℕ) → slice_get (values_of entries) i ≡ Some old
    → eqb id (slice_index_or (keys_of entries) i 0) ≡ true
    → AllByRecursion (λ other. eqb first other ≡ false) (keys_of entries) → eqb first id ≡ false
unlike first id i [] old found passes others = absurd (cc found)
unlike first id zero (e ∷ entries) old found passes (other, others) = ap (eqb first) (eqb-true id e.0 passes) ∙ other
unlike first id (suc i) (e ∷ entries) old found passes (other, others) = unlike first id i entries old found passes others

-- the value of the key at a place rises where one more is written there
pub raised-at : (i id : ℕ) (entries : List (ℕ × ℕ)) (old : ℕ) → slice_get (values_of entries) i ≡ Some old
    → eqb id (slice_index_or (keys_of entries) i 0) ≡ true → IsDistinct eqb (keys_of entries)
    → set_value_at entries i (old + 1) ≡ raised id entries
unfolding IsDistinct
raised-at i id [] old found key distinct = absurd (cc found)
raised-at zero id (e ∷ entries) old found key (apart, distinct) =
    let same : e.1 ≡ old = cc found in
    let here : eqb e.0 id ≡ true = eqb-comm e.0 id ∙ key in
    rw here (ap (λ n. (e.0, n + 1) ∷ entries) (sym same)
    ∙ ap (λ rest. (e.0, e.1 + 1) ∷ rest) (others-stay id entries (apart_from (eqb-true e.0 id here) apart)))
  where
    apart_from : e.0 ≡ id → AllByRecursion (λ other. eqb e.0 other ≡ false) (keys_of entries)
        → AllByRecursion (λ other. eqb id other ≡ false) (keys_of entries)
    apart_from is h = subst (λ x. AllByRecursion (λ other. eqb x other ≡ false) (keys_of entries)) is h
raised-at (suc i) id (e ∷ entries) old found key (apart, distinct) =
    rw (unlike e.0 id i entries old found key apart) (ap (λ rest. e ∷ rest) (raised-at i id entries old found key distinct))

-- what holds of each entry holds of the value at a place
room-each : (i : ℕ) (entries : List (ℕ × ℕ)) (old : ℕ) → slice_get (values_of entries) i ≡ Some old
    → AllByRecursion (λ (item : ℕ × ℕ). item.1 + 1 < 2 ^ 64) entries → old + 1 < 2 ^ 64
room-each i [] old found room = absurd (cc found)
room-each zero (e ∷ entries) old found (here, room) = subst (λ n. n + 1 < 2 ^ 64) (same_Some e.1 old found) here
room-each (suc i) (e ∷ entries) old found (here, room) = room-each i entries old found room

pub room-at : (i : ℕ) (entries : List (ℕ × ℕ)) (old : ℕ) → slice_get (values_of entries) i ≡ Some old → HasRoom 1 entries
    → old + 1 < 2 ^ 64
room-at i entries old found room =
    room-each i entries old found (recursion_from_All (λ (item : ℕ × ℕ). item.1 + 1 < 2 ^ 64) entries room)

-- the versions so far and the next
pushed : (vehicles : List Vehicle) (i : ℕ) (v : Vehicle) → IsDistinct eqb (vehicle_ids vehicles) → i < length vehicles
    → v ≡ get_or vehicles i v
    → insert_entry eqb (versions_of (take i vehicles)) v.id v.version ≡ versions_of (take (suc i) vehicles)
pushed [] i v distinct low is = absurd (omega (arith, low))
pushed (w ∷ vehicles) zero v distinct low is = ap (λ (u : Vehicle). (u.id, u.version) ∷ []) is
pushed (w ∷ vehicles) (suc i) v distinct low is =
    let later : i < length vehicles = omega (arith, low) in
    let ids_low : i < length (vehicle_ids vehicles) = omega (arith, later, length-map vehicles (λ (u : Vehicle). u.id)) in
    let apart : eqb w.id (get_or (vehicle_ids vehicles) i 0) ≡ false
    = All-from_recursion (λ k. eqb w.id k ≡ false) (vehicle_ids vehicles)
    (IsDistinct-head eqb w.id (vehicle_ids vehicles) distinct) i 0 ids_low in
    let here : get_or (vehicle_ids vehicles) i 0 ≡ v.id
    = get_or-map (λ (u : Vehicle). u.id) vehicles i v 0 later ∙ ap (λ (u : Vehicle). u.id) (sym is) in
    ap
    (λ b. cond b ((w.id, v.version) ∷ versions_of (take i vehicles))
    ((w.id, w.version) ∷ insert_entry eqb (versions_of (take i vehicles)) v.id v.version))
    (eqb-comm v.id w.id ∙ ap (eqb w.id) (sym here) ∙ apart)
    ∙ ap (λ rest. (w.id, w.version) ∷ rest)
    (pushed vehicles i v (IsDistinct-tail eqb w.id (vehicle_ids vehicles) distinct) later is)

pub versions-pushed : (vehicles : List Vehicle) (i : ℕ) (v : Vehicle) → IsDistinct eqb (vehicle_ids vehicles) → i < length vehicles
    → v ≡ get_or vehicles i v
    → insert_entry eqb (versions_of (take i vehicles)) v.id v.version ≡ versions_of (take (i + 1) vehicles)
versions-pushed vehicles i v distinct low is =
    pushed vehicles i v distinct low is ∙ ap (λ n. versions_of (take n vehicles)) (sym (add-one i))

-- the value of a key is the amount of an id
pub looked-up : (id : ℕ) (entries : List (ℕ × ℕ)) → unwrap_or (lookup (eqb id) entries) 0 ≡ amount_of entries id
looked-up id [] = refl
looked-up id (e ∷ entries) = by (looked-up id entries) (eqb id e.0) refl
  where
    by : unwrap_or (lookup (eqb id) entries) 0 ≡ amount_of entries id → (b : Bool) → eqb id e.0 ≡ b
        → unwrap_or (lookup (eqb id) (e ∷ entries)) 0 ≡ amount_of (e ∷ entries) id
    by later true is = rw (eqb-comm e.0 id ∙ is, is) refl
    by later false is = rw (eqb-comm e.0 id ∙ is, is) later
