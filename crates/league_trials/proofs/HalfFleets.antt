-- Some vehicles of a fleet are a fleet.
use Rattle.std.proofs.Common.{◌≡◌, ◌≢◌, ℕ, ◌+◌, ◌<◌, ◌≤◌, ◌^◌, Bool, true, false, cond, List, [], ◌∷◌, ◌++◌, length, get_or, take, refl, sym, ap, subst, ◌∙◌, arith}
use Rattle.std.specs.Prelude.{◌%◌, filter, All, nat_eq}
use Rattle.std.specs.List.{IsDistinct}
use Rattle.std.proofs.lemmas.Bool.{eq-eqb, ne_eqb}
use Rattle.std.proofs.lemmas.List.{append-nil}
use Rattle.std.proofs.lemmas.List.Elements.{filter_more}
use Rattle.ride_model.specs.declared.settings.Settings.{Settings}
use Rattle.ride_model.specs.declared.vehicle.Vehicle.{Vehicle}
use Rattle.ride_model.specs.Fleet.{IsFleet, MayStart}
use Rattle.ride_model.specs.Road.{RoadMap}
use Rattle.ride_model.specs.Seating.{vehicle_ids}
use Rattle.ride_model.specs.Vehicle.{IsLawful}
use Rattle.model_laws.proofs.plain.Among.{among_filter_back}
use Rattle.model_laws.proofs.plain.Each.{of_all, all_of}
use Rattle.model_laws.proofs.plain.Lists.{distinct-filter}
use Rattle.league_trials.specs.Sides.{has_rest, half_of}

-- what holds of each vehicle holds of the half
half-each : (P : Vehicle → Type 0) (rest : ℕ) (vehicles : List Vehicle) → All P vehicles → All P (half_of rest vehicles)
half-each P rest vehicles each = all_of P (half_of rest vehicles) (λ v there.
    of_all P vehicles v each (among_filter_back (λ (w : Vehicle). has_rest rest w.id) vehicles v there).0)

half-ids : (rest : ℕ) (vehicles : List Vehicle) → vehicle_ids (half_of rest vehicles) ≡ filter (has_rest rest) (vehicle_ids vehicles)
half-ids rest [] = refl
half-ids rest (v ∷ vehicles) = by_test (has_rest rest v.id) (half-ids rest vehicles)
  where
    by_test : (b : Bool) → vehicle_ids (half_of rest vehicles) ≡ filter (has_rest rest) (vehicle_ids vehicles)
        → vehicle_ids (cond b (v ∷ half_of rest vehicles) (half_of rest vehicles))
        ≡ cond b (v.id ∷ filter (has_rest rest) (vehicle_ids vehicles)) (filter (has_rest rest) (vehicle_ids vehicles))
    by_test true later = ap (λ ids. v.id ∷ ids) later
    by_test false later = later

half-few : (rest : ℕ) (vehicles : List Vehicle) → length (half_of rest vehicles) ≤ length vehicles
half-few rest [] = omega arith
half-few rest (v ∷ vehicles) = by_test (has_rest rest v.id) (half-few rest vehicles)
  where
    by_test : (b : Bool) → length (half_of rest vehicles) ≤ length vehicles
        → length (cond b (v ∷ half_of rest vehicles) (half_of rest vehicles)) ≤ length (v ∷ vehicles)
    by_test true later = omega (arith, later)
    by_test false later = omega (arith, later)

pub half-fleet : (rest : ℕ) (vehicles : List Vehicle) → IsFleet vehicles → IsFleet (half_of rest vehicles)
half-fleet rest vehicles is = record {
  few = omega (arith, is.few, half-few rest vehicles);
  ids_differ = subst (IsDistinct nat_eq) (sym (half-ids rest vehicles)) (distinct-filter (has_rest rest) (vehicle_ids vehicles) is.ids_differ);
  ids_fit = half-each (λ (v : Vehicle). v.id < 10 ^ 18) rest vehicles is.ids_fit;
}

pub half-start : (roads : RoadMap) (settings : Settings) (rest : ℕ) (vehicles : List Vehicle) → MayStart roads settings vehicles
    → MayStart roads settings (half_of rest vehicles)
half-start roads settings rest vehicles is = record {
  settings_fit = is.settings_fit;
  lawful = half-each (IsLawful roads) rest vehicles is.lawful;
  idle = half-each (λ (v : Vehicle). v.stops.items ≡ []) rest vehicles is.idle;
  first_versions = half-each (λ (v : Vehicle). v.version ≡ 0) rest vehicles is.first_versions;
}

-- with one vehicle more
module _ (rest : ℕ) (vehicles : List Vehicle) (i : ℕ) (v : Vehicle) (low : i < length vehicles) (is : v ≡ get_or vehicles i v) where
  by-test : (b : Bool) → has_rest rest v.id ≡ b
      → half_of rest (take (i + 1) vehicles) ≡ half_of rest (take i vehicles) ++ cond b (v ∷ []) []
  by-test b test =
      filter_more (λ (w : Vehicle). has_rest rest w.id) vehicles i v low
      ∙ ap (λ (w : Vehicle). half_of rest (take i vehicles) ++ cond (has_rest rest w.id) (w ∷ []) []) (sym is)
      ∙ ap (λ (t : Bool). half_of rest (take i vehicles) ++ cond t (v ∷ []) []) test

  pub half-keeps : v.id % 2 ≡ rest → half_of rest (take (i + 1) vehicles) ≡ half_of rest (take i vehicles) ++ v ∷ []
  half-keeps same = by-test true (eq-eqb (v.id % 2) rest same)

  pub half-leaves : v.id % 2 ≢ rest → half_of rest (take (i + 1) vehicles) ≡ half_of rest (take i vehicles)
  half-leaves differs = by-test false (ne_eqb (v.id % 2) rest differs) ∙ append-nil (half_of rest (take i vehicles))
