-- The outcomes of a batch that is committed directly after its opening.
use Rattle.session_run.proofs.Common.{◌≡◌, ℕ, inl, inr, Bool, true, false, ◌||◌, List, [], ◌∷◌, Option, Some, None, refl, ap, ◌∙◌, map, nat_eq, ◌==◌, All, IsSome, list_all, IsDistinct, and_from, Outcome, Seat, Ride, was_cancelled, seat_of, seated_outcome, outcome_by, outcome_of, BatchCopy, vehicle_ids, seat_offer, State, ride_ids}
use Rattle.ride_model.specs.History.{is_away, is_confirmed}
use Rattle.model_laws.proofs.plain.Among.{Among, found_among}
use Rattle.model_laws.proofs.history_laws.StandingSeats.{seated-confirmed}

abbrev is_settled : Outcome → Bool
is_settled outcome = is_confirmed outcome || is_away outcome

module _ (s : State) (batch : BatchCopy) (seats : List Seat) (vehicles_stand : batch.vehicles ≡ s.vehicles) (time_is : batch.time ≡ s.clock)
    (differ : IsDistinct nat_eq (vehicle_ids batch.vehicles)) (offered : All (λ seat. IsSome (seat_offer s.roads batch seat)) seats) where
  -- a seated request is confirmed
  seated-settled : (seat : Seat) → Among seat seats → is_settled (seated_outcome batch s seat) ≡ true
  seated-settled seat there =
      ap is_settled (seated-confirmed s batch seats vehicles_stand time_is differ offered seat there)

  -- a request that was not cancelled is confirmed or away
  outcome-settled : (id : ℕ) → was_cancelled s id ≡ false → is_settled (outcome_of batch seats s id) ≡ true
  outcome-settled id not_cancelled =
      ap (λ b. is_settled (outcome_by batch s b (seat_of seats id))) not_cancelled ∙ by_seat (seat_of seats id) refl
    where
      by_seat : (seat : Option Seat) → seat_of seats id ≡ seat → is_settled (outcome_by batch s false seat) ≡ true
      by_seat None is = refl
      by_seat (Some seat) is = seated-settled seat (found_among (λ (x : Seat). x.request == id) seats seat is).0

  -- so is each of them
  pub outcomes-settled : (rides : List Ride) → ((ride : Ride) → Among ride rides → was_cancelled s ride.id ≡ false)
      → list_all (λ (item : ℕ × Outcome). is_settled item.1) (map (λ id. (id, outcome_of batch seats s id)) (ride_ids rides)) ≡ true
  outcomes-settled [] none = refl
  outcomes-settled (ride ∷ rides) none =
      and_from (is_settled (outcome_of batch seats s ride.id))
      (list_all (λ (item : ℕ × Outcome). is_settled item.1) (map (λ id. (id, outcome_of batch seats s id)) (ride_ids rides)))
      (outcome-settled ride.id (none ride (inl refl))) (outcomes-settled rides (λ r there. none r (inr there)))
