use Rattle.road_times.proofs.Common.{ℕ, ◌<◌, List, length, get_or, ap, arith, Neighbor, place_of}
use Rattle.road_times.proofs.Unpacking.{stored-tail, stored-place, stored-few}
use Rattle.road_times.proofs.Roads.network.Goals as goal

pub unpack-requires-clause-few : goal.unpack-requires-clause-few
unpack-requires-clause-few c =
    let inside = c.self.inside in
    omega (arith, stored-few inside.nodes inside.tails.items inside.forward c.self.invariant.fits, ap (λ (xs : List ℕ). length xs) c.as_slice.ensures.value)

pub unpack-requires-clause-inside : goal.unpack-requires-clause-inside
unpack-requires-clause-inside c = λ k low.
    let inside = c.self.inside in
    let low_tails : k < length inside.tails.items = omega (arith, low, ap (λ (xs : List ℕ). length xs) c.as_slice.ensures.value) in
    omega (
      arith,
      stored-tail inside.nodes inside.tails.items inside.forward c.self.invariant.fits k low_tails,
      ap (λ (xs : List ℕ). get_or xs k 0) c.as_slice.ensures.value,
      ap (λ (xs : List ℕ). length xs) c.as_slice-2.ensures.value,
      c.self.invariant.forward.sized,
    )

pub unpack-requires-clause-placed : goal.unpack-requires-clause-placed
unpack-requires-clause-placed c = λ k low.
    let inside = c.self.inside in
    let low_tails : k < length inside.tails.items = omega (arith, low, ap (λ (xs : List ℕ). length xs) c.as_slice.ensures.value) in
    omega (
      arith,
      stored-place inside.nodes inside.tails.items inside.forward c.self.invariant.fits k low_tails,
      ap (λ (xs : List ℕ). place_of xs c.as_slice.result.now k) c.as_slice-2.ensures.value,
      ap (λ (xs : List ℕ). place_of inside.forward.starts.items xs k) c.as_slice.ensures.value,
      ap (λ (xs : List Neighbor). length xs) c.as_slice-3.ensures.value,
    )
