-- The plain path's history is legal.
use Rattle.std.proofs.Common.{◌≡◌, ℕ, ◌+◌, ◌≤◌, List, [], ◌∷◌, refl, arith}
use Rattle.ride_model.specs.Road.{travel, travel_within}
use Rattle.ride_model.specs.Offers.{offer_of}
use Rattle.ride_model.specs.Step.{request_step, ask_step}
use Rattle.ride_model.specs.Legal.{IsLegal, replay}
use Rattle.plan_trials.specs.worked_rows.PlainPath.{plain_path, start}
use Rattle.plan_trials.proofs.worked_rows.Certified.{plain_is_certified, plain_is_least}

pub plain_path_is_legal : IsLegal 1 1 start plain_path
unfolding IsLegal travel travel_within offer_of request_step ask_step
plain_path_is_legal = (
  ((omega arith, omega arith), refl, refl),
  (
    ((omega arith, omega arith), refl, refl),
    (
      ((omega arith, omega arith), refl, record { number_is = refl; time_is = refl; requests_are = refl; plans_are = refl }),
      (
        record { least = plain_is_least; cost_is = refl; certified = plain_is_certified; outcomes_are = refl },
        (
          ((omega arith, omega arith), refl),
          (
            ((omega arith, omega arith), refl, record { none_open = refl; whole = λ _. (refl, refl) }),
            tt,
          ),
        ),
      ),
    ),
  ),
)
