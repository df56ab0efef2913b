-- Earlier and later records of the vehicles of a fleet.
use Rattle.model_laws.proofs.Common.{◌≡◌, ℕ, ◌+◌, Bool, true, false, cond, inl, inr, List, [], ◌∷◌, eqb, refl, sym, ◌∙◌, ap, subst, arith, map, Some, same_Some, Vehicle, find_vehicle, IsEarlier, AreEarlier}
use Rattle.model_laws.proofs.plain.Among.{Among}

-- a record is an earlier one of itself
pub earlier-same : (v : Vehicle) → IsEarlier v v
earlier-same v = record { id_is = refl; no_newer = omega arith; same = λ _. refl }

-- a record of the id of another, with a version one higher
pub earlier-raised : (v new : Vehicle) → new.id ≡ v.id → new.version ≡ v.version + 1 → IsEarlier v new
earlier-raised v new id_is version_is = record {
  id_is = sym id_is;
  no_newer = omega arith;
  same = λ equal. absurd (omega arith);
}

-- earlier records in turn
pub earlier-then : (a b c : Vehicle) → IsEarlier a b → IsEarlier b c → IsEarlier a c
earlier-then a b c first second = record {
  id_is = first.id_is ∙ second.id_is;
  no_newer = omega (arith, first.no_newer, second.no_newer);
  same = λ equal.
      let b_is : a ≡ b = first.same (omega (arith, equal, first.no_newer, second.no_newer)) in
      b_is ∙ second.same (ap (λ (v : Vehicle). v.version) (sym b_is) ∙ equal);
}

-- a fleet goes on by a map whose records go on
pub earlier-map : (g : Vehicle → Vehicle) (vehicles : List Vehicle) → ((v : Vehicle) → Among v vehicles → IsEarlier v (g v))
    → AreEarlier vehicles (map g vehicles)
earlier-map g [] each = tt
earlier-map g (v ∷ vehicles) each = (each v (inl refl), earlier-map g vehicles (λ w there. each w (inr there)))

-- a fleet is an earlier one of itself
pub all_earlier-same : (vehicles : List Vehicle) → AreEarlier vehicles vehicles
all_earlier-same [] = tt
all_earlier-same (v ∷ vehicles) = (earlier-same v, all_earlier-same vehicles)

-- earlier fleets in turn
pub all_earlier-then : (a b c : List Vehicle) → AreEarlier a b → AreEarlier b c → AreEarlier a c
all_earlier-then [] [] [] first second = tt
all_earlier-then [] [] (w ∷ c) first second = absurd second
all_earlier-then [] (v ∷ b) c first second = absurd first
all_earlier-then (u ∷ a) [] c first second = absurd first
all_earlier-then (u ∷ a) (v ∷ b) [] first second = absurd second
all_earlier-then (u ∷ a) (v ∷ b) (w ∷ c) (first, firsts) (second, seconds) =
    (earlier-then u v w first second, all_earlier-then a b c firsts seconds)

-- the later record of a vehicle that is found
pub later_of : (earliers laters : List Vehicle) (id : ℕ) (v : Vehicle) → AreEarlier earliers laters
    → find_vehicle earliers id ≡ Some v
    → (w : Vehicle) × (find_vehicle laters id ≡ Some w) × IsEarlier v w
later_of [] laters id v h is = absurd (cc is)
later_of (e ∷ earliers) [] id v h is = absurd h
later_of (e ∷ earliers) (l ∷ laters) id v (first, rest) is = by_test (λ some. later_of earliers laters id v rest some)
    (eqb e.id id) refl is
  where
    by_test : (find_vehicle earliers id ≡ Some v → (w : Vehicle) × (find_vehicle laters id ≡ Some w) × IsEarlier v w)
        → (b : Bool) → eqb e.id id ≡ b → cond b (Some e) (find_vehicle earliers id) ≡ Some v
        → (w : Vehicle) × (find_vehicle (l ∷ laters) id ≡ Some w) × IsEarlier v w
    by_test later true here some = (
      l,
      ap (λ b. cond b (Some l) (find_vehicle laters id)) (ap (λ k. eqb k id) (sym first.id_is)
          ∙ here),
      subst (λ u. IsEarlier u l) (same_Some e v some) first,
    )
    by_test later false other some =
        let (w, found, goes_on) = later some in
        (w, ap (λ b. cond b (Some l) (find_vehicle laters id)) (ap (λ k. eqb k id) (sym first.id_is) ∙ other) ∙ found, goes_on)
