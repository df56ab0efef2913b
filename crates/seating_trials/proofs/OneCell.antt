-- A batch of one request and one vehicle: prices that certify its seating.
use Rattle.std.proofs.Common.{◌≡◌, ℕ, zero, suc, ◌+◌, ◌<◌, ◌≤◌, true, List, [], ◌∷◌, get_or, eqb, refl, sym, ◌∙◌, subst, arith}
use Rattle.std.specs.Prelude.{Option, Some, None, IfSome}
use Rattle.std.specs.List.{IsDistinct}
use Rattle.std.proofs.lemmas.Bool.{eq-eqb}
use Rattle.std.proofs.lemmas.List.Elements.{All-nil, All-from_recursion}
use Rattle.ride_model.specs.declared.offer.Offer.{Offer}
use Rattle.ride_model.specs.declared.offer.Seat.{Seat}
use Rattle.ride_model.specs.declared.vehicle.Ride.{Ride}
use Rattle.ride_model.specs.declared.vehicle.Vehicle.{Vehicle}
use Rattle.ride_model.specs.Seating.{BatchCopy, amount_of}
use Rattle.batch_commit.specs.inner.Table.{Table, cell_at}
use Rattle.batch_commit.specs.inner.Answer.{IsSeatAt, CertifiesOverCells}
use Rattle.seating_trials.specs.OneRequest.{batch_of_one, IsBatchOfOne}

-- a table of one cell
abbrev pub table_of_one : Option Offer → Table
table_of_one cell = record { rows = 1; columns = 1; cells = cell ∷ [] }

-- the seat at the cell
abbrev pub seat_of_one : Ride → Vehicle → Offer → Seat
seat_of_one ride v offer = record { request = ride.id; vehicle = v.id; i = offer.i; j = offer.j }

-- what the one request's price covers
one_covered : (ride : Ride) (v : Vehicle) (cell : Option Offer) (amount : ℕ)
    → IfSome cell (λ (offer : Offer). amount ≤ offer.cost)
    → (r c : ℕ) (q : Ride) (w : Vehicle) → r < 1 → c < 1
    → IfSome (cell_at (table_of_one cell) r c) (λ (offer : Offer).
    amount_of ((ride.id, amount) ∷ []) (get_or (ride ∷ []) r q).id ≤ offer.cost + amount_of [] (get_or (v ∷ []) c w).id)
one_covered ride v None amount below zero zero q w _ _ = tt
one_covered ride v (Some offer) amount below zero zero q w _ _ =
    let is : eqb ride.id ride.id ≡ true = eq-eqb ride.id ride.id refl in
    rw is (omega (arith, below))
one_covered ride v cell amount below zero (suc c) q w _ low = absurd (omega (arith, low))
one_covered ride v cell amount below (suc r) c q w low _ = absurd (omega (arith, low))

-- a price at the seat's cost certifies it
pub one_seat_certified : (lead : ℕ) (ride : Ride) (v : Vehicle) (offer : Offer) → offer.cost ≤ 3600
    → CertifiesOverCells (batch_of_one lead ride v) (table_of_one (Some offer)) (seat_of_one ride v offer ∷ [])
    ((ride.id, offer.cost) ∷ []) []
unfolding IsDistinct
one_seat_certified lead ride v offer low =
    let ride_is : eqb ride.id ride.id ≡ true = eq-eqb ride.id ride.id refl in
    let v_is : eqb v.id v.id ≡ true = eq-eqb v.id v.id refl in
    record {
      seating = record {
        in_order = rw ride_is refl;
        vehicles_differ = (tt, tt);
        in_cells = All-from_recursion
            (λ seat. (r : ℕ) × (c : ℕ) × IsSeatAt (batch_of_one lead ride v) (table_of_one (Some offer)) seat r c)
            (seat_of_one ride v offer ∷ []) (
              (
                0,
                0,
                record {
                  request_in = omega arith;
                  vehicle_in = omega arith;
                  request_is = λ _. refl;
                  vehicle_is = λ _. refl;
                  places_are = (refl, refl);
                },
              ),
              tt,
            );
      };
      each_priced = refl;
      capped = All-from_recursion (λ (item : ℕ × ℕ). item.1 ≤ 3600) ((ride.id, offer.cost) ∷ []) (low, tt);
      paying = refl;
      paid = All-nil (λ (item : ℕ × ℕ). 1 ≤ item.1);
      covered = one_covered ride v (Some offer) offer.cost (omega arith);
      balanced = rw (ride_is, v_is) (omega arith);
    }

-- a price at the penalty certifies that the request has no seat where there is no offer
pub no_seat_certified : (lead : ℕ) (ride : Ride) (v : Vehicle)
    → CertifiesOverCells (batch_of_one lead ride v) (table_of_one None) [] ((ride.id, 3600) ∷ []) []
unfolding IsDistinct
no_seat_certified lead ride v = record {
  seating = record {
    in_order = refl;
    vehicles_differ = tt;
    in_cells = All-nil (λ seat. (r : ℕ) × (c : ℕ) × IsSeatAt (batch_of_one lead ride v) (table_of_one None) seat r c);
  };
  each_priced = refl;
  capped = All-from_recursion (λ (item : ℕ × ℕ). item.1 ≤ 3600) ((ride.id, 3600) ∷ []) (omega arith, tt);
  paying = refl;
  paid = All-nil (λ (item : ℕ × ℕ). 1 ≤ item.1);
  covered = one_covered ride v None 3600 tt;
  balanced = omega arith;
}

-- what certifies still does where all is the same
same_certified : (batch other : BatchCopy) (table other_table : Table) (seats other_seats : List Seat)
    (prices other_prices pays other_pays : List (ℕ × ℕ)) → batch ≡ other → table ≡ other_table → seats ≡ other_seats
    → prices ≡ other_prices
    → pays ≡ other_pays → CertifiesOverCells other other_table other_seats other_prices other_pays
    → CertifiesOverCells batch table seats prices pays
same_certified batch other table other_table seats other_seats prices other_prices pays other_pays b t s p q certified =
    subst (λ (T : Type 0). T) (sym (λ i. CertifiesOverCells (b i) (t i) (s i) (p i) (q i))) certified

-- request 7 in the seat of vehicle 1, at the cost 180
pub seated_certified : (lead : ℕ) (batch : BatchCopy) (table : Table) (offer : Offer) (cells : List (Option Offer))
    (seats : List Seat) (prices pays : List (ℕ × ℕ)) → IsBatchOfOne lead batch
    → table ≡ record { rows = 1; columns = 1; cells = cells } → cells ≡ Some offer ∷ []
    → offer.i ≡ 0 → offer.j ≡ 0 → offer.cost ≡ 180
    → seats ≡ record { request = 7; vehicle = 1; i = 0; j = 0 } ∷ [] → prices ≡ (7, 180) ∷ [] → pays ≡ []
    → CertifiesOverCells batch table seats prices pays
seated_certified lead batch table offer cells seats prices pays one table_is cells_are i_is j_is cost_is seats_are prices_are
    pays_are =
    let ride = one.ride in
    let v = one.vehicle in
    same_certified batch (batch_of_one lead ride v) table (table_of_one (Some offer)) seats (seat_of_one ride v offer ∷ [])
    prices ((ride.id, offer.cost) ∷ []) pays [] one.batch_is
    (table_is ∙ (λ k. record { rows = 1; columns = 1; cells = cells_are k }))
    (seats_are ∙ (λ k. record { request = sym one.ride_id k; vehicle = sym one.vehicle_id k; i = sym i_is k; j = sym j_is k } ∷
    []))
    (prices_are ∙ (λ k. (sym one.ride_id k, sym cost_is k) ∷ [])) pays_are
    (one_seat_certified lead ride v offer (omega (arith, cost_is)))

-- request 7 left out, at the penalty
pub left_out_certified : (batch : BatchCopy) (table : Table) (cells : List (Option Offer)) (seats : List Seat)
    (prices pays : List (ℕ × ℕ))
    → IsBatchOfOne 0 batch → table ≡ record { rows = 1; columns = 1; cells = cells } → cells ≡ None ∷ []
    → seats ≡ [] → prices ≡ (7, 3600) ∷ [] → pays ≡ []
    → CertifiesOverCells batch table seats prices pays
left_out_certified batch table cells seats prices pays one table_is cells_are seats_are prices_are pays_are =
    let ride = one.ride in
    let v = one.vehicle in
    same_certified batch (batch_of_one 0 ride v) table (table_of_one None) seats [] prices ((ride.id, 3600) ∷ []) pays []
    one.batch_is
    (table_is ∙ (λ k. record { rows = 1; columns = 1; cells = cells_are k })) seats_are
    (prices_are ∙ (λ k. (sym one.ride_id k, 3600) ∷ [])) pays_are (no_seat_certified 0 ride v)
