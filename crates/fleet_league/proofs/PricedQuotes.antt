-- The prices that a company quotes are within the limits of a grid.
use Rattle.fleet_league.proofs.Common.{◌≡◌, ℕ, ◌<◌, ◌^◌, ◌⊎◌, inl, inr, List, [], ◌∷◌, ◌++◌, length, get_or, Option, Some, None, refl, sym, subst, arith, map, IfSome, MatchOption, flat_map, length-map, Offer, Ride, Vehicle, IsFleet, price, RoadMap, IsRoadMap, BatchCopy, IsBatchOver, Table, cell_at, IsLeastOffer, IsTableOf, Among, among_map_back, contains_from_among, all_of, IsSmall, prices_by, IsPriced}
use Rattle.pricing_workers.proofs.SmallCosts.{small-costs}
use Rattle.fleet_league.proofs.CertifiedWins.{flat-length}

-- what is in one of two lists' pieces
pub among_append_back : {X : Type 0} (xs ys : List X) (x : X) → Among x (xs ++ ys) → Among x xs ⊎ Among x ys
among_append_back [] ys x there = inr there
among_append_back (y ∷ xs) ys x (inl is) = inl (inl is)
among_append_back (y ∷ xs) ys x (inr there) = elim (among_append_back xs ys x there) [
  | inl left ↦ inl (inr left)
  | inr right ↦ inr right
]

among_flat_map_back : {X Y : Type 0} (f : X → List Y) (xs : List X) (y : Y) → Among y (flat_map f xs) → (x : X) × Among x xs × Among y (f x)
among_flat_map_back f [] y there = absurd there
among_flat_map_back f (x ∷ xs) y there = elim (among_append_back (f x) (flat_map f xs) y there) [
  | inl here ↦ (x, inl refl, here)
  | inr later ↦ let (z, z_there, in_z) = among_flat_map_back f xs y later in (z, inr z_there, in_z)
]

-- the price of a pair of a batch is small
small-price : (roads : RoadMap) (batch : BatchCopy) (table : Table) → IsRoadMap roads → IsBatchOver roads batch → IsTableOf roads batch table
    → (ride : Ride) (v : Vehicle) → Among ride batch.requests → Among v batch.vehicles → IsSmall (price roads batch.settings v ride batch.time)
small-price roads batch table map over is ride v ride_there v_there =
    let (r, r_low, r_at) = contains_from_among batch.requests ride ride_there in
    let (c, c_low, c_at) = contains_from_among batch.vehicles v v_there in
    by_cell (cell_at table r c)
    (subst (λ (w : Vehicle). MatchOption (cell_at table r c) (price roads batch.settings w ride batch.time ≡ None) (IsLeastOffer roads batch ride w)) c_at
    (subst (λ (q : Ride). MatchOption (cell_at table r c) (price roads batch.settings (get_or batch.vehicles c v) q batch.time ≡ None)
    (IsLeastOffer roads batch q (get_or batch.vehicles c v))) r_at (is.cells_are r c ride v r_low c_low)))
    (small-costs roads batch table map over is r c (omega (arith, r_low, is.fits.rows_are)) (omega (arith, c_low, is.fits.columns_are)))
  where
    by_cell : (cell : Option Offer) → MatchOption cell (price roads batch.settings v ride batch.time ≡ None) (IsLeastOffer roads batch ride v)
        → IfSome cell (λ (offer : Offer). offer.cost < 2 ^ 42) → IsSmall (price roads batch.settings v ride batch.time)
    by_cell None none small = subst IsSmall (sym none) tt
    by_cell (Some offer) offered small = subst IsSmall (sym offered.least) small

-- the prices of a batch's vehicles are within the limits of a grid
pub batch-priced : (roads : RoadMap) (batch : BatchCopy) (table : Table) → IsRoadMap roads → IsBatchOver roads batch → IsTableOf roads batch table
    → IsFleet batch.vehicles → IsPriced (prices_by roads batch.settings batch.time batch.vehicles batch.requests)
batch-priced roads batch table map_fits over is fleet =
    let row : Ride → List (Option ℕ) = λ (ride : Ride). map (λ (v : Vehicle). price roads batch.settings v ride batch.time) batch.vehicles in
    record {
      grid = record {
        rows_limit = over.few;
        columns_limit = omega (arith, fleet.few);
        one_each = flat-length row (length batch.vehicles)
            (λ (ride : Ride). length-map batch.vehicles (λ (v : Vehicle). price roads batch.settings v ride batch.time)) batch.requests;
        amounts_limit = all_of IsSmall (flat_map row batch.requests) (λ cell there.
            let (ride, ride_there, in_row) = among_flat_map_back row batch.requests cell there in
            let (v, v_there, price_is) = among_map_back (λ (w : Vehicle). price roads batch.settings w ride batch.time) batch.vehicles cell in_row in
            subst IsSmall price_is (small-price roads batch table map_fits over is ride v ride_there v_there));
      };
      few_vehicles = fleet.few;
    }
