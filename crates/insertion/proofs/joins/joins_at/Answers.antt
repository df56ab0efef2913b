use Rattle.insertion.proofs.Common.{cond, sym, ◌∙◌, ap, eq-eqb, NearStop, leg_before, leg_after, four_legs, to_pickup_of, after_dropoff_of}
use Rattle.insertion.proofs.joins.joins_at.Goals as goal

pub returns-then-i-j : goal.returns-then-i-j
returns-then-i-j c =
    let near = c.args.near.now in
    c.joined.ensures
    ∙ ap (λ o. four_legs o near.direct near.direct c.after_dropoff-after_dropoff.result)
    (c.to_pickup-to_pickup.ensures ∙ ap (λ stops. leg_before near.at_from (λ (stop : NearStop). stop.to_from) stops c.args.i) c.as_slice-stops.ensures.value)
    ∙ ap (λ o. four_legs (to_pickup_of near c.args.i) near.direct near.direct o)
    (c.after_dropoff-after_dropoff.ensures ∙ ap (λ stops. leg_after (λ (stop : NearStop). stop.to_here) stops c.args.j) c.as_slice-stops.ensures.value)
    ∙ ap (λ b. four_legs (to_pickup_of near c.args.i)
    (cond b near.direct (leg_after (λ (stop : NearStop). stop.from_here) near.stops.items c.args.i))
    (cond b near.direct (leg_before near.at_to (λ (stop : NearStop). stop.to_to) near.stops.items c.args.j))
    (after_dropoff_of near c.args.j))
    (sym (eq-eqb c.args.i c.args.j c.if-i-j.true))
