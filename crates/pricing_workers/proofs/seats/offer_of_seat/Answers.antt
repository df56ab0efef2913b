use Rattle.pricing_workers.proofs.Common.{◌≡◌, ◌<◌, ℕ, List, None, length, get_or, ap, ◌∙◌, get_or_default, IsAsked, Ride, offer_of}
use Rattle.pricing_workers.proofs.SeatOffers.{seat-asked}
use Rattle.pricing_workers.proofs.seats.offer_of_seat.Goals as goal

-- what a read of no request gives
abbrev none : Ride
none = record { id = 0; from = 0; to = 0; seats = 0; chairs = 0; latest = 0; longest = 0; picked = None }

same-ride : (rides shown : List Ride) (k : ℕ) → shown ≡ rides → k < length rides → get_or shown k none ≡ get_or rides k (get_or shown k none)
same-ride rides shown k is low = ap (λ rs. get_or rs k none) is ∙ get_or_default rides k none (get_or shown k none) low

pub offer_at-requires : goal.offer_at-requires
offer_at-requires c =
    let batch = c.args.batch.now in
    let seat = c.args.seat in
    let v = c.index-vehicles-seat.result in
    let ride = get_or c.requests.result.now seat.request none in
    let v_is : v ≡ get_or batch.vehicles seat.vehicle v
    = c.index-vehicles-seat.is ∙ ap (λ vs. get_or vs seat.vehicle v) (c.vehicles-2.ensures.items ∙ c.vehicles.ensures) in
    let ride_is = same-ride batch.requests c.requests.result.now seat.request c.requests.ensures.requests c.requires.seat.request_in in (
      c.args.pricer.now,
      rw (c.time-time.ensures, c.settings-settings.ensures.settings)
          (seat-asked c.args.pricer.now batch ride v seat.request seat.vehicle c.in_ok-near.near c.in_ok-near.ensures.map_fits
          c.requires.priceable.in_time c.requires.priceable.over_map c.requires.priceable.lawful c.requires.seat.request_in c.requires.seat.vehicle_in v_is ride_is
          c.in_ok-near.ensures.times),
    )

pub returns-clause-offer : goal.returns-clause-offer
returns-clause-offer c = λ d e.
    let roads = c.args.pricer.now in
    let batch = c.args.batch.now in
    let seat = c.args.seat in
    let v = c.index-vehicles-seat.result in
    let ride = get_or c.requests.result.now seat.request none in
    let v_is : v ≡ get_or batch.vehicles seat.vehicle v
    = c.index-vehicles-seat.is ∙ ap (λ vs. get_or vs seat.vehicle v) (c.vehicles-2.ensures.items ∙ c.vehicles.ensures) in
    let ride_is = same-ride batch.requests c.requests.result.now seat.request c.requests.ensures.requests c.requires.seat.request_in in
    let asked : IsAsked roads v ride c.time-time.result c.settings-settings.result.now c.in_ok-near.near
    = rw (c.time-time.ensures, c.settings-settings.ensures.settings)
    (seat-asked roads batch ride v seat.request seat.vehicle c.in_ok-near.near c.in_ok-near.ensures.map_fits c.requires.priceable.in_time
    c.requires.priceable.over_map c.requires.priceable.lawful c.requires.seat.request_in c.requires.seat.vehicle_in v_is ride_is c.in_ok-near.ensures.times) in
    c.offer_at.ensures roads asked
    ∙ (λ k. offer_of roads (c.settings-settings.ensures.settings k) v ride (c.time-time.ensures k) seat.i seat.j)
    ∙ ap (λ u. offer_of roads batch.settings u ride batch.time seat.i seat.j) (v_is ∙ get_or_default batch.vehicles seat.vehicle v e c.requires.seat.vehicle_in)
    ∙ ap (λ r. offer_of roads batch.settings (get_or batch.vehicles seat.vehicle e) r batch.time seat.i seat.j)
    (ride_is ∙ get_or_default batch.requests seat.request ride d c.requires.seat.request_in)
