-- The vehicles of a city.
use Rattle.city_maker.proofs.Common.{◌≡◌, ℕ, ◌+◌, true, List, [], ap, ◌∙◌, Ride, Stop, Vehicle, CityPlan, draw_at, nodes_of, road_draws, vehicle_of}

-- a vehicle as it is made
abbrev made : ℕ → ℕ → List Ride → List Stop → Vehicle
made before drawn rides stops = record {
  id = before + 1;
  seats = 4;
  chairs = 0;
  at = 1 + drawn;
  ready = 0;
  duty = true;
  version = 0;
  rides = record { items = rides };
  stops = record { items = stops };
}

pub made-is : (plan : CityPlan) (before number drawn : ℕ) (rides : List Ride) (stops : List Stop) → number ≡ before
    → drawn ≡ draw_at plan.seed (road_draws plan + before) (nodes_of plan) → rides ≡ [] → stops ≡ []
    → made number drawn rides stops ≡ vehicle_of plan before
unfolding vehicle_of
made-is plan before number drawn rides stops number_is drawn_is no_rides no_stops =
    let at : ℕ = draw_at plan.seed (road_draws plan + before) (nodes_of plan) in
    ap (λ n. made n drawn rides stops) number_is
    ∙ ap (λ d. made before d rides stops) drawn_is
    ∙ ap (λ r. made before at r stops) no_rides
    ∙ ap (λ s. made before at [] s) no_stops
