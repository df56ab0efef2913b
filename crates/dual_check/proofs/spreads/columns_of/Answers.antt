use Rattle.dual_check.proofs.Common.{map, ap, ◌∙◌, Seat, item_of, seat_place}
use Rattle.dual_check.proofs.ItemOrders.{map-map}
use Rattle.dual_check.proofs.spreads.columns_of.Goals as goal

pub returns : goal.returns
returns c =
    let fleet = c.args.fleet.now in (
      c.in_ok-seats.ensures.0,
      c.places_of.ensures
          ∙ ap (map (seat_place fleet)) (c.as_slice.ensures.value ∙ c.in_ok-seats.ensures.1)
          ∙ map-map (seat_place fleet) (item_of (λ (seat : Seat). seat.request) c.args.seats.now) c.args.requests.now,
    )
