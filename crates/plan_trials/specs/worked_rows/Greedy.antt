-- Two vehicles at the ends of the road and two requests, of which each vehicle is nearest to the same one.
use Rattle.std.specs.Prelude.{ℕ, List, [], ◌∷◌}
use Rattle.ride_model.specs.declared.offer.Seat.{Seat}
use Rattle.ride_model.specs.Seating.{BatchCopy}
use Rattle.plan_trials.specs.worked_rows.Roads.{default_settings}
use Rattle.plan_trials.specs.worked_rows.Runs.{seat}
use Rattle.plan_trials.specs.worked_rows.Vehicles.{ride_of_one, idle_vehicle}

abbrev pub two_requests : BatchCopy
two_requests = record {
  number = 1;
  desk = 1;
  time = 0;
  settings = default_settings;
  requests = ride_of_one 5 2 1 600 300 ∷ ride_of_one 6 1 2 600 300 ∷ [];
  vehicles = idle_vehicle 1 2 1 ∷ idle_vehicle 2 2 4 ∷ [];
}

-- request 5 first takes the vehicle that is cheapest for it
abbrev pub greedy_seats : List Seat
greedy_seats = seat 5 1 0 0 ∷ seat 6 2 0 0 ∷ []

abbrev pub least_seats : List Seat
least_seats = seat 5 2 0 0 ∷ seat 6 1 0 0 ∷ []
