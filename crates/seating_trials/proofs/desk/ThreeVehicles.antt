-- A fleet of three vehicles.
use Rattle.std.proofs.Common.{◌≡◌, ◌<◌, ◌^◌, List, [], ◌∷◌, sym, subst, arith}
use Rattle.std.specs.List.{IsDistinct}
use Rattle.std.proofs.lemmas.Bool.{ne_eqb}
use Rattle.std.proofs.lemmas.List.Elements.{All-from_recursion}
use Rattle.ride_model.specs.declared.vehicle.Vehicle.{Vehicle}
use Rattle.ride_model.specs.Fleet.{IsFleet}

-- three vehicles are a fleet
pub three-fleet : (vehicles : List Vehicle) (one two three : Vehicle) → vehicles ≡ one ∷ two ∷ three ∷ []
    → one.id ≡ 1 → two.id ≡ 2 → three.id ≡ 3 → IsFleet vehicles
unfolding IsDistinct
three-fleet vehicles one two three is one_is two_is three_is = subst IsFleet (sym is) (record {
  few = omega arith;
  ids_differ = (
    (
      ne_eqb one.id two.id (λ same. omega (arith, same, one_is, two_is)),
      (ne_eqb one.id three.id (λ same. omega (arith, same, one_is, three_is)), tt),
    ),
    ((ne_eqb two.id three.id (λ same. omega (arith, same, two_is, three_is)), tt), (tt, tt)),
  );
  ids_fit = All-from_recursion (λ (v : Vehicle). v.id < 10 ^ 18) (one ∷ two ∷ three ∷ [])
      (omega (arith, one_is), (omega (arith, two_is), (omega (arith, three_is), tt)));
})
