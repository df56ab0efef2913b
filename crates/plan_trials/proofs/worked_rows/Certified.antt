-- The certificates of the worked seatings.
use Rattle.std.proofs.Common.{◌≡◌, ℕ, ◌+◌, ◌≤◌, List, [], ◌∷◌, refl, arith}
use Rattle.std.specs.Prelude.{All, IsSome, IfSome, nat_eq}
use Rattle.std.specs.List.{IsDistinct, AllByRecursion}
use Rattle.std.proofs.lemmas.List.Elements.{All-from_recursion}
use Rattle.model_laws.proofs.plain.Each.{all_of_one, all_of_two, all_of_none}
use Rattle.ride_model.specs.declared.offer.Seat.{Seat}
use Rattle.ride_model.specs.declared.vehicle.Ride.{Ride}
use Rattle.ride_model.specs.declared.vehicle.Vehicle.{Vehicle}
use Rattle.ride_model.specs.Road.{travel, travel_within}
use Rattle.ride_model.specs.Vehicle.{ride_ids}
use Rattle.ride_model.specs.Offers.{offer_of}
use Rattle.ride_model.specs.Seating.{BatchCopy, IsSeating, IsLeastSeating, IsCovered, Certifies, seat_offer}
use Rattle.model_laws.proofs.Certificates.{certified_is_least}
use Rattle.plan_trials.specs.worked_rows.Roads.{four_nodes}
use Rattle.plan_trials.specs.worked_rows.Runs.{seat}
use Rattle.plan_trials.specs.worked_rows.Vehicles.{idle_vehicle, ride_7, ride_of_one}
use Rattle.plan_trials.specs.worked_rows.Greedy.{two_requests, greedy_seats, least_seats}
use Rattle.plan_trials.specs.worked_rows.PlainPath.{batch}

pub greedy_is_seating : IsSeating four_nodes two_requests greedy_seats
unfolding travel travel_within offer_of IsDistinct
greedy_is_seating = record {
  in_order = refl;
  vehicles_differ = ((refl, tt), (tt, tt));
  offered = all_of_two (λ s. IsSome (seat_offer four_nodes two_requests s)) (seat 5 1 0 0) (seat 6 2 0 0) refl refl;
}

least_is_seating : IsSeating four_nodes two_requests least_seats
unfolding travel travel_within offer_of IsDistinct
least_is_seating = record {
  in_order = refl;
  vehicles_differ = ((refl, tt), (tt, tt));
  offered = all_of_two (λ s. IsSome (seat_offer four_nodes two_requests s)) (seat 5 2 0 0) (seat 6 1 0 0) refl refl;
}

-- each vehicle's price and payment cover a ride's price
covers : Ride → Type 0
covers ride = All (IsCovered four_nodes two_requests ((5, 180) ∷ (6, 120) ∷ []) ((1, 60) ∷ []) ride) two_requests.vehicles

covers_5 : covers (ride_of_one 5 2 1 600 300)
unfolding travel travel_within offer_of covers
covers_5 = all_of_two (IsCovered four_nodes two_requests ((5, 180) ∷ (6, 120) ∷ []) ((1, 60) ∷ []) (ride_of_one 5 2 1 600 300))
    (idle_vehicle 1 2 1) (idle_vehicle 2 2 4) (omega arith) (omega arith)

covers_6 : covers (ride_of_one 6 1 2 600 300)
unfolding travel travel_within offer_of covers
covers_6 = all_of_two (IsCovered four_nodes two_requests ((5, 180) ∷ (6, 120) ∷ []) ((1, 60) ∷ []) (ride_of_one 6 1 2 600 300))
    (idle_vehicle 1 2 1) (idle_vehicle 2 2 4) (omega arith) (omega arith)

pub least_is_certified : Certifies four_nodes two_requests least_seats ((5, 180) ∷ (6, 120) ∷ []) ((1, 60) ∷ [])
unfolding travel travel_within offer_of covers
least_is_certified = record {
  seating = least_is_seating;
  each_priced = refl;
  capped = all_of_two (λ (item : ℕ × ℕ). item.1 ≤ 3600) (5, 180) (6, 120) (omega arith) (omega arith);
  paying = refl;
  paid = all_of_one (λ (item : ℕ × ℕ). 1 ≤ item.1) (1, 60) (omega arith);
  covered = all_of_two covers (ride_of_one 5 2 1 600 300) (ride_of_one 6 1 2 600 300) covers_5 covers_6;
  balanced = refl;
}

pub least_is_least : IsLeastSeating four_nodes two_requests least_seats
unfolding IsDistinct
least_is_least = certified_is_least four_nodes two_requests least_seats ((5, 180) ∷ (6, 120) ∷ []) ((1, 60) ∷ [])
    ((refl, tt), (tt, tt)) least_is_certified

pub plain_is_certified : Certifies four_nodes batch (seat 7 1 0 0 ∷ []) ((7, 180) ∷ []) []
unfolding travel travel_within offer_of IsDistinct
plain_is_certified = record {
  seating = record {
    in_order = refl;
    vehicles_differ = (tt, tt);
    offered = all_of_one (λ s. IsSome (seat_offer four_nodes batch s)) (seat 7 1 0 0) refl;
  };
  each_priced = refl;
  capped = all_of_one (λ (item : ℕ × ℕ). item.1 ≤ 3600) (7, 180) (omega arith);
  paying = refl;
  paid = all_of_none (λ (item : ℕ × ℕ). 1 ≤ item.1);
  covered = all_of_one (λ ride. All (IsCovered four_nodes batch ((7, 180) ∷ []) [] ride) batch.vehicles) ride_7
      (all_of_one (IsCovered four_nodes batch ((7, 180) ∷ []) [] ride_7) (idle_vehicle 1 2 1) (omega arith));
  balanced = refl;
}

pub plain_is_least : IsLeastSeating four_nodes batch (seat 7 1 0 0 ∷ [])
unfolding IsDistinct
plain_is_least = certified_is_least four_nodes batch (seat 7 1 0 0 ∷ []) ((7, 180) ∷ []) [] (tt, tt) plain_is_certified

-- 181 is not the seating's cost
pub one_more_does_not_certify : Certifies four_nodes batch (seat 7 1 0 0 ∷ []) ((7, 181) ∷ []) [] → ⊥
unfolding travel travel_within offer_of
one_more_does_not_certify certified = let balance : 181 ≡ 180 = certified.balanced in omega (arith, balance)
