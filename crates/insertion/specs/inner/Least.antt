-- The least cost over places.
use Rattle.std.specs.Prelude.{ℕ, ◌+◌, ◌-◌, length, map, Option, option_map}
use Rattle.std.specs.List.{range_with_len}
use Rattle.ride_model.specs.declared.offer.Offer.{Offer}
use Rattle.ride_model.specs.declared.settings.Settings.{Settings}
use Rattle.ride_model.specs.declared.vehicle.Ride.{Ride}
use Rattle.ride_model.specs.declared.vehicle.Vehicle.{Vehicle}
use Rattle.ride_model.specs.Road.{RoadMap, least_of}
use Rattle.ride_model.specs.Offers.{offer_of}

-- what an offer costs, where there is one
abbrev pub cost_if_any : Option Offer → Option ℕ
cost_if_any offer = option_map (λ (o : Offer). o.cost) offer

-- the least cost of the offers with the pickup at place i and the drop-off at a place from j on
abbrev pub least_with_pickup : RoadMap → Settings → Vehicle → Ride → ℕ → ℕ → ℕ → Option ℕ
least_with_pickup roads settings v ride time i j =
    least_of (map (λ k. cost_if_any (offer_of roads settings v ride time i k)) (range_with_len j (length v.stops.items + 1 - j)))

-- the least cost of the offers with the pickup at a place from i on
abbrev pub least_from : RoadMap → Settings → Vehicle → Ride → ℕ → ℕ → Option ℕ
least_from roads settings v ride time i =
    least_of (map (λ k. least_with_pickup roads settings v ride time k k) (range_with_len i (length v.stops.items + 1 - i)))
