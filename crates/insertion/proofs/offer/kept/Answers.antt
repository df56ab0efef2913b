use Rattle.insertion.proofs.Common.{◌≡◌, sym, ◌∙◌, ap, subst, cond, Some, None, Offer, Ride, Vehicle, RoadMap, IsRouted, keeps, InsertsInto}
use Rattle.insertion.proofs.OfferLaws.{new-routed}
use Rattle.insertion.proofs.offer.kept.Goals as goal

-- the plan that was made is the vehicle with the ride
planned : (roads : RoadMap) (copy made v : Vehicle) (ride : Ride) (offer : Offer) (new : Vehicle) → copy ≡ v
    → ((r : RoadMap) (n : Vehicle) → InsertsInto r copy ride offer n → made ≡ n) → InsertsInto roads v ride offer new → made ≡ new
planned roads copy made v ride offer new same is h = is roads new (subst (λ w. InsertsInto roads w ride offer new) (sym same) h)

pub insert_ride-requires : goal.insert_ride-requires
insert_ride-requires c =
    let (roads, offer, d) = c.requires.drawn in
    (roads, d.new, subst (λ w. InsertsInto roads w c.args.ride.now c.args.drawn d.new) (sym c.copy-new.ensures) d.inserts)

pub keeps-requires-clause-routed : goal.keeps-requires-clause-routed
keeps-requires-clause-routed c =
    let (roads, offer, d) = c.requires.drawn in (
      roads,
      d.inserts.map_fits,
      subst (IsRouted roads) (sym (planned roads _ _ _ _ _ d.new c.copy-new.ensures c.insert_ride.ensures d.inserts))
          (new-routed roads _ _ _ d.new d.inserts),
    )

pub keeps-requires-clause-start_limit : goal.keeps-requires-clause-start_limit
keeps-requires-clause-start_limit c =
    let (roads, offer, d) = c.requires.drawn in d.start_limit

pub returns-then-keeps : goal.returns-then-keeps
returns-then-keeps c = λ roads offer d.
    sym (d.offer_is ∙ ap (λ b. cond b (Some c.args.drawn) None)
    (sym (ap (λ w. keeps w c.args.drawn.start c.args.dwell) (planned roads _ _ _ _ _ d.new c.copy-new.ensures c.insert_ride.ensures d.inserts))
    ∙ sym c.keeps.ensures ∙ c.if-keeps.true))

pub returns-else-keeps : goal.returns-else-keeps
returns-else-keeps c = λ roads offer d.
    sym (d.offer_is ∙ ap (λ b. cond b (Some c.args.drawn) None)
    (sym (ap (λ w. keeps w c.args.drawn.start c.args.dwell) (planned roads _ _ _ _ _ d.new c.copy-new.ensures c.insert_ride.ensures d.inserts))
    ∙ sym c.keeps.ensures ∙ c.if-keeps.false))
