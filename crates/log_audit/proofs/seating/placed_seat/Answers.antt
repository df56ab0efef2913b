use Rattle.log_audit.proofs.Common.{sym, ◌∙◌, subst, nat_eq, IsDistinct, vehicle_ids}
use Rattle.log_audit.proofs.Placing.{AtPlaces, no-ride, no-vehicle, at-places, seat-offer-at}
use Rattle.log_audit.proofs.seating.placed_seat.Goals as goal

pub returns-in_default-clause-placed : goal.returns-in_default-clause-placed
returns-in_default-clause-placed c =
    no-ride c.args.pricing.now c.args.batch.now c.args.seat.now c.requests.result.now c.requests.ensures.requests
    (sym c.place_of_request.ensures ∙ c.in_default.is)

pub returns-in_default-place_of_vehicle-clause-placed : goal.returns-in_default-place_of_vehicle-clause-placed
returns-in_default-place_of_vehicle-clause-placed c =
    no-vehicle c.args.pricing.now c.args.batch.now c.args.seat.now c.vehicles-2.result.now (c.vehicles-2.ensures.items ∙ c.vehicles.ensures)
    (sym c.place_of_vehicle.ensures ∙ c.in_default-place_of_vehicle.is)

pub returns-in-None-clause-placed : goal.returns-in-None-clause-placed
returns-in-None-clause-placed c =
    let at : AtPlaces c.args.batch.now c.args.seat.now c.in-Some.request c.in-Some-place_of_vehicle.vehicle
    = at-places c.args.batch.now c.args.seat.now c.requests.result.now c.vehicles-2.result.now c.in-Some.request c.in-Some-place_of_vehicle.vehicle
    c.requests.ensures.requests (c.vehicles-2.ensures.items ∙ c.vehicles.ensures) (sym c.place_of_request.ensures ∙ c.in-Some.is)
    (sym c.place_of_vehicle.ensures ∙ c.in-Some-place_of_vehicle.is) in
    seat-offer-at c.args.pricing.now c.args.batch.now c.args.seat.now c.in-Some.request c.in-Some-place_of_vehicle.vehicle c.in_ok-offer.field-0
    c.requests.ensures.ids_differ
    (subst (λ vehicles. IsDistinct nat_eq (vehicle_ids vehicles)) c.vehicles.ensures c.vehicles-2.ensures.is_fleet.ids_differ)
    at (λ d e. c.in_ok-offer.ensures.offer d e)
    ∙ c.in-None.is

pub returns-in-Some-2-clause-placed : goal.returns-in-Some-2-clause-placed
returns-in-Some-2-clause-placed c =
    let at : AtPlaces c.args.batch.now c.args.seat.now c.in-Some.request c.in-Some-place_of_vehicle.vehicle
    = at-places c.args.batch.now c.args.seat.now c.requests.result.now c.vehicles-2.result.now c.in-Some.request c.in-Some-place_of_vehicle.vehicle
    c.requests.ensures.requests (c.vehicles-2.ensures.items ∙ c.vehicles.ensures) (sym c.place_of_request.ensures ∙ c.in-Some.is)
    (sym c.place_of_vehicle.ensures ∙ c.in-Some-place_of_vehicle.is) in
    record {
      request_in = at.request_in;
      vehicle_in = at.vehicle_in;
      request_is = at.request_is;
      vehicle_is = at.vehicle_is;
      offered = λ d e. sym (c.in_ok-offer.ensures.offer d e) ∙ c.in-Some-2.is;
    }
