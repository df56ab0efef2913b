use Rattle.insertion.proofs.Common.{◌≡◌, ◌≤◌, ◌+◌, ◌-◌, ◌*◌, length, sym, ◌∙◌, ap, subst, arith, All, Offer, start_of, cost_of, length-times, times-soon, Plan, leave_at, drives_more}
use Rattle.insertion.proofs.OfferLaws.{are-places, no-places, no-room, no-legs, inserts}
use Rattle.insertion.proofs.PlanTimes.{start-le}
use Rattle.insertion.proofs.LongerDrives.{are_short, cost-drawn, is_drawn}
use Rattle.insertion.proofs.offer.drawn_at.Goals as goal

pub returns-then-not-may_offer : goal.returns-then-not-may_offer
returns-then-not-may_offer c = λ roads ride asked.
    no-places roads c.args.settings.now c.args.vehicle.now ride c.args.plan.now.time c.args.i c.args.j
    (sym c.may_offer.ensures ∙ c.if-not-may_offer.true)

pub returns-then-number_of_stops-gt14 : goal.returns-then-number_of_stops-gt14
returns-then-number_of_stops-gt14 c = λ roads ride asked.
    no-room roads c.args.settings.now c.args.vehicle.now ride c.args.plan.now.time c.args.i c.args.j
    (sym c.may_offer.ensures ∙ c.if-not-may_offer.false) (omega (arith, c.number_of_stops.ensures.number))

pub priced-requires-clause-short : goal.priced-requires-clause-short
priced-requires-clause-short c =
    let (roads, ride, asked) = c.requires.asked in
    let offer : Offer = record { i = c.args.i; j = c.args.j; cost = 0; start = c.args.plan.now.start; joins = c.in-Some.joins } in
    let (new, h) = inserts roads c.args.settings.now c.args.vehicle.now ride c.args.near.now c.args.plan.now.time offer asked
    (sym c.may_offer.ensures ∙ c.if-not-may_offer.false) (omega (arith, c.number_of_stops.ensures.number))
    (sym c.joins_at.ensures ∙ c.in-Some.is) in
    are_short roads c.args.vehicle.now ride offer new h

pub priced-requires-clause-within : goal.priced-requires-clause-within
priced-requires-clause-within c =
    let v = c.args.vehicle.now in
    let places = are-places v c.args.plan.now.time c.args.i c.args.j (sym c.may_offer.ensures ∙ c.if-not-may_offer.false) in
    omega (
      arith,
      places.in_order,
      places.in_range,
      ap (λ (p : Plan). length p.times.items) c.requires.plan,
      length-times c.args.settings.now.dwell (start_of v c.args.settings.now.lead c.args.plan.now.time) v.stops.items,
    )

pub priced-requires-clause-soon : goal.priced-requires-clause-soon
priced-requires-clause-soon c =
    let (roads, ride, asked) = c.requires.asked in
    let v = c.args.vehicle.now in
    let begins = start-le v c.args.settings.now.lead c.args.plan.now.time asked.lawful.routed.ready_limit asked.settings_fit.lead_limit asked.time_limit in
    subst (λ (p : Plan). All (λ time. time ≤ 10000000000000000) p.times.items) (sym c.requires.plan)
    (times-soon v _ c.args.settings.now.dwell (roads, asked.map_fits, asked.lawful.routed) begins asked.settings_fit.dwell_limit
    (omega (arith, c.number_of_stops.ensures.number)))

pub returns-in-None : goal.returns-in-None
returns-in-None c = λ roads ride asked.
    no-legs roads c.args.settings.now c.args.vehicle.now ride c.args.near.now c.args.plan.now.time c.args.i c.args.j asked
    (sym c.may_offer.ensures ∙ c.if-not-may_offer.false) (sym c.joins_at.ensures ∙ c.in-None.is)

pub returns-in-Some : goal.returns-in-Some
returns-in-Some c = λ roads ride asked.
    let settings = c.args.settings.now in
    let v = c.args.vehicle.now in
    let time = c.args.plan.now.time in
    let offer : Offer = record { i = c.args.i; j = c.args.j; cost = 0; start = c.args.plan.now.start; joins = c.in-Some.joins } in
    let may = sym c.may_offer.ensures ∙ c.if-not-may_offer.false in
    let (new, h) = inserts roads settings v ride c.args.near.now time offer asked may (omega (arith, c.number_of_stops.ensures.number))
    (sym c.joins_at.ensures ∙ c.in-Some.is) in
    let starts : offer.start ≡ start_of v settings.lead time = ap (λ (p : Plan). p.start) c.requires.plan in
    let costs =
    ap (λ (p : Plan). settings.drive * drives_more settings.dwell v.stops.items offer.i offer.j offer.joins
    + settings.wait * (leave_at p.start settings.dwell p.times.items offer.i + offer.joins.to_pickup - time)) c.requires.plan
    ∙ cost-drawn roads settings v ride offer new (start_of v settings.lead time) time h
    ∙ ap (λ s. cost_of settings v new offer.i s time) (sym starts) in
    is_drawn roads settings v ride time offer c.priced.result new h may starts
    (omega (arith, starts, start-le v settings.lead time asked.lawful.routed.ready_limit asked.settings_fit.lead_limit asked.time_limit))
    (c.priced.ensures ∙ ap (λ n. record offer { cost = n }) costs)
