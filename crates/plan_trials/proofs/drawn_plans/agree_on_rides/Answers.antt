use Rattle.std.proofs.Common.{◌≡◌, ◌<◌, ◌+◌, Some, sym, ap, subst, ◌∙◌, arith}
use Rattle.std.specs.Prelude.{All, IfSome}
use Rattle.ride_model.specs.declared.offer.Offer.{Offer}
use Rattle.ride_model.specs.declared.vehicle.Ride.{Ride}
use Rattle.ride_model.specs.declared.vehicle.Vehicle.{Vehicle}
use Rattle.ride_model.specs.Offers.{offer_of}
use Rattle.ride_model.specs.Vehicle.{IsLawful}
use Rattle.plan_trials.specs.SmallPlans.{four_nodes}
use Rattle.plan_trials.specs.NearInLine.{near_in_line}
use Rattle.plan_trials.proofs.DrawnPlans.{takes-ride, asked-next, earlier-next, earlier-more}
use Rattle.plan_trials.proofs.drawn_plans.agree_on_rides.Goals as goal
use Rattle.plan_trials.proofs.drawn_plans.agree_on_rides.Goals.{in-Some, in_default}

pub fast-offer-requires : goal.fast-offer-requires
fast-offer-requires c =
    asked-next c.loop-number.vehicle c.drawn_ride-ride.result c.args.settings.now (100 + c.loop-number.number) c.loop-number.invariant.0
    c.drawn_ride-ride.ensures.ride c.drawn_ride-ride.ensures.id c.drawn_ride-ride.ensures.waits c.loop-number.invariant.1 c.requires.settings

pub agrees-requires : goal.agrees-requires
agrees-requires c =
    asked-next c.loop-number.vehicle c.drawn_ride-ride.result c.args.settings.now (100 + c.loop-number.number) c.loop-number.invariant.0
    c.drawn_ride-ride.ensures.ride c.drawn_ride-ride.ensures.id c.drawn_ride-ride.ensures.waits c.loop-number.invariant.1 c.requires.settings

pub insert_ride-requires : goal.insert_ride-requires
insert_ride-requires c =
    let v = c.loop-number.vehicle in
    let ride = c.drawn_ride-ride.result in
    let asked = asked-next v ride c.args.settings.now (100 + c.loop-number.number) c.loop-number.invariant.0
    c.drawn_ride-ride.ensures.ride c.drawn_ride-ride.ensures.id c.drawn_ride-ride.ensures.waits c.loop-number.invariant.1 c.requires.settings in
    let offered : offer_of four_nodes c.args.settings.now v ride 0 c.in-Some.offer.i c.in-Some.offer.j ≡ Some c.in-Some.offer =
    subst (λ o. IfSome o (λ (offer : Offer). offer_of four_nodes c.args.settings.now v ride 0 offer.i offer.j ≡ Some offer)) c.in-Some.is c.fast-offer.ensures in
    let taken = takes-ride four_nodes c.args.settings.now v ride (near_in_line v ride) 0 c.in-Some.offer asked offered in
    (four_nodes, taken.new, taken.inserts)

pub loop-number-preserved : goal.loop-number-preserved
loop-number-preserved c =
    let v = c.loop-number.vehicle in
    let ride = c.drawn_ride-ride.result in
    let next = 100 + c.loop-number.number in
    let later : next + 1 ≡ 100 + (c.loop-number.number + 1) = omega arith in
    let asked = asked-next v ride c.args.settings.now next c.loop-number.invariant.0
    c.drawn_ride-ride.ensures.ride c.drawn_ride-ride.ensures.id c.drawn_ride-ride.ensures.waits c.loop-number.invariant.1 c.requires.settings in
    elim c.match-offer.branch [
      | in-Some w ↦
          let offered : offer_of four_nodes c.args.settings.now v ride 0 w.in-Some.offer.i w.in-Some.offer.j ≡ Some w.in-Some.offer =
          subst (λ o. IfSome o (λ (offer : Offer). offer_of four_nodes c.args.settings.now v ride 0 offer.i offer.j ≡ Some offer)) w.in-Some.is c.fast-offer.ensures in
          let taken = takes-ride four_nodes c.args.settings.now v ride (near_in_line v ride) 0 w.in-Some.offer asked offered in
          let is : c.match-offer.vehicle ≡ taken.new = w.vehicle-is ∙ w.insert_ride.ensures four_nodes taken.new taken.inserts in (
            subst (IsLawful four_nodes) (sym is) taken.lawful,
            subst (λ n. All (λ (r : Ride). r.id < n) c.match-offer.vehicle.rides.items) later
                (subst (All (λ (r : Ride). r.id < next + 1)) (sym (ap (λ (u : Vehicle). u.rides.items) is ∙ taken.rides_are))
                (earlier-next v.rides.items ride next c.loop-number.invariant.1 c.drawn_ride-ride.ensures.id)),
          )
      | in_default w ↦ (
        subst (IsLawful four_nodes) (sym w.vehicle-is) c.loop-number.invariant.0,
        subst (λ n. All (λ (r : Ride). r.id < n) c.match-offer.vehicle.rides.items) later
            (subst (λ (u : Vehicle). All (λ (r : Ride). r.id < next + 1) u.rides.items) (sym w.vehicle-is) (earlier-more v.rides.items next c.loop-number.invariant.1)),
      )
    ]
