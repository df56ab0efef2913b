-- Two requests and two vehicles of different ids, put into lists one after the other.
use Rattle.std.proofs.Common.{◌≡◌, ℕ, ◌+◌, ◌<◌, ◌^◌, List, [], ◌∷◌, ◌++◌, eqb, sym, ◌∙◌, ap, subst, arith}
use Rattle.std.specs.List.{IsDistinct}
use Rattle.std.proofs.lemmas.Bool.{ne_eqb}
use Rattle.std.proofs.lemmas.List.Elements.{All-from_recursion}
use Rattle.ride_model.specs.declared.vehicle.Ride.{Ride}
use Rattle.ride_model.specs.declared.vehicle.Vehicle.{Vehicle}
use Rattle.ride_model.specs.Fleet.{IsFleet}
use Rattle.ride_model.specs.Vehicle.{ride_ids}

-- two requests differ
pub two_requests : (none first both : List Ride) (one two : Ride) (n : ℕ) → none ≡ [] → first ≡ none ++ one ∷ []
    → both ≡ first ++ two ∷ []
    → one.id ≡ n → two.id ≡ n + 1 → IsDistinct eqb (ride_ids both)
unfolding IsDistinct
two_requests none first both one two n empty first_is both_is one_is two_is =
    subst (λ rides. IsDistinct eqb (ride_ids rides))
    (sym (both_is ∙ ap (λ rides. rides ++ two ∷ []) (first_is ∙ ap (λ rides. rides ++ one ∷ []) empty)))
    ((ne_eqb one.id two.id (λ same. omega (arith, same, one_is, two_is)), tt), (tt, tt))

-- two vehicles are a fleet
pub two_vehicles : (none first both : List Vehicle) (one two : Vehicle) → none ≡ [] → first ≡ none ++ one ∷ []
    → both ≡ first ++ two ∷ []
    → one.id ≡ 1 → two.id ≡ 2 → IsFleet both
unfolding IsDistinct
two_vehicles none first both one two empty first_is both_is one_is two_is =
    subst IsFleet (sym (both_is ∙ ap (λ vehicles. vehicles ++ two ∷ [])
    (first_is ∙ ap (λ vehicles. vehicles ++ one ∷ []) empty))) (record {
      few = omega arith;
      ids_differ = ((ne_eqb one.id two.id (λ same. omega (arith, same, one_is, two_is)), tt), (tt, tt));
      ids_fit = All-from_recursion (λ (v : Vehicle). v.id < 10 ^ 18) (one ∷ two ∷ [])
          (omega (arith, one_is), (omega (arith, two_is), tt));
    })
