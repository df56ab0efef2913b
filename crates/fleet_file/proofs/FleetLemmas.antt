-- Fleets of the vehicles so far.
use Rattle.fleet_file.proofs.Common.{◌≡◌, ℕ, zero, suc, ◌+◌, ◌<◌, ◌^◌, ◌==◌, ◌||◌, nat_eq, true, false, List, [], ◌∷◌, ◌++◌, length, map, Option, Some, None, IfSome, refl, ap, sym, subst, ◌∙◌, arith, true≢false, nat_eq_equiv, All, list_any, AllByRecursion, eqb-true, eq-eqb, false_from_ne_true, length_push, map_push, All-append, IsDistinct-push, numbers_of, Vehicle, IsFleet, NewVehicle, vehicle_from}
use Rattle.std.specs.List.{IsDistinct}
use Rattle.line_text.proofs.PrintedLemmas.{numbers_of-small}

pub IsFleet-nil : (vehicles : List Vehicle) → vehicles ≡ [] → IsFleet vehicles
unfolding IsDistinct
IsFleet-nil vehicles none = subst IsFleet (sym none) (record { few = omega arith; ids_differ = tt; ids_fit = λ k d below. absurd (omega arith) })

-- the numbers that fields are have at most 18 digits
abbrev AreSmall : Option (List ℕ) → Type 0
AreSmall o = IfSome o (λ ns. AllByRecursion (λ n. n < 10 ^ 18) ns)

numbers-small : (fields : List (List ℕ)) → AreSmall (numbers_of fields)
numbers-small fields = each (numbers_of fields) (numbers_of-small fields)
  where
    each : (o : Option (List ℕ)) → ((ns : List ℕ) → o ≡ Some ns → AllByRecursion (λ n. n < 10 ^ 18) ns) → AreSmall o
    each None small = tt
    each (Some ns) small = small ns refl

vehicle-small : (o : Option (List ℕ)) → AreSmall o → IfSome (vehicle_from o) (λ new. new.id < 10 ^ 18)
vehicle-small None small = tt
vehicle-small (Some []) small = tt
vehicle-small (Some (id ∷ [])) small = tt
vehicle-small (Some (id ∷ seats ∷ [])) small = tt
vehicle-small (Some (id ∷ seats ∷ node ∷ [])) small = tt
vehicle-small (Some (id ∷ seats ∷ node ∷ ready ∷ [])) small = small.0
vehicle-small (Some (id ∷ seats ∷ node ∷ ready ∷ chairs ∷ [])) small = small.0
vehicle-small (Some (id ∷ seats ∷ node ∷ ready ∷ chairs ∷ n ∷ ns)) small = tt

-- no vehicle of an id
no-id : (id : ℕ) (vehicles : List Vehicle) → list_any (λ (v : Vehicle). v.id == id) vehicles ≡ false → list_any (nat_eq id) (map (λ (v : Vehicle). v.id) vehicles) ≡ false
no-id id [] none = refl
no-id id (v ∷ vehicles) none =
    elim (v.id == id) as (λ b. v.id == id ≡ b → (b || list_any (λ (v : Vehicle). v.id == id) vehicles) ≡ false → list_any (nat_eq id) (map (λ (v : Vehicle). v.id) (v ∷ vehicles)) ≡ false) [
      | true ↦ λ is none. absurd (true≢false none)
      | false ↦ λ is none.
          let other : nat_eq id v.id ≡ false = false_from_ne_true _ (λ same. true≢false (sym (eq-eqb v.id id (sym (eqb-true id v.id same))) ∙ is)) in
          rw other (no-id id vehicles none)
    ] refl none

pub IsFleet-push : (vehicles : List Vehicle) (v : Vehicle) (fields : List (List ℕ)) (new : NewVehicle) → IsFleet vehicles → Some new ≡ vehicle_from (numbers_of fields) → v.id ≡ new.id →
    list_any (λ (w : Vehicle). w.id == new.id) vehicles ≡ false → length vehicles < 1000 → IsFleet (vehicles ++ v ∷ [])
IsFleet-push vehicles v fields new fleet is id none few =
    let small : new.id < 10 ^ 18 = subst (λ (o : Option NewVehicle). IfSome o (λ new. new.id < 10 ^ 18)) (sym is) (vehicle-small (numbers_of fields) (numbers-small fields)) in
    let more : length (vehicles ++ v ∷ []) ≡ length vehicles + 1 = length_push vehicles v in
    record {
      few = omega arith;
      ids_differ = subst (IsDistinct nat_eq) (sym (map_push (λ (w : Vehicle). w.id) vehicles v))
          (IsDistinct-push nat_eq_equiv (map (λ (w : Vehicle). w.id) vehicles) v.id fleet.ids_differ (ap (λ n. list_any (nat_eq n) (map (λ (w : Vehicle). w.id) vehicles)) id ∙ no-id new.id vehicles none));
      ids_fit = All-append (λ (w : Vehicle). w.id < 10 ^ 18) vehicles (v ∷ []) fleet.ids_fit (one (subst (λ (n : ℕ). n < 10 ^ 18) (sym id) small));
    }
  where
    one : v.id < 10 ^ 18 → All (λ (w : Vehicle). w.id < 10 ^ 18) (v ∷ [])
    one small zero d below = small
    one small (suc k) d below = absurd (omega arith)
