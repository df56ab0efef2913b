use Rattle.std.proofs.Common.{sym, subst}
use Rattle.ride_model.specs.declared.vehicle.Vehicle.{Vehicle}
use Rattle.plan_trials.specs.LineRoad.{vehicle_with}
use Rattle.plan_trials.specs.SmallPlans.{four_nodes}
use Rattle.insertion.specs.inner.Asked.{IsAsked}
use Rattle.plan_trials.specs.NearInLine.{near_in_line}
use Rattle.plan_trials.proofs.NearInLine.{asked}
use Rattle.plan_trials.proofs.slack.cost.Goals as goal

pub fast-fast-requires : goal.fast-fast-requires
fast-fast-requires c =
    let v = vehicle_with c.args.car.at c.args.car.ready c.args.car.seats c.args.car.chairs c.args.rides.now c.args.stops.now in
    subst (λ (w : Vehicle). IsAsked four_nodes w c.args.ride 0 c.args.settings (near_in_line w c.args.ride)) (sym c.vehicle-vehicle.ensures)
    (asked v c.args.ride c.args.settings c.requires.asked)

pub agrees-requires : goal.agrees-requires
agrees-requires c =
    let v = vehicle_with c.args.car.at c.args.car.ready c.args.car.seats c.args.car.chairs c.args.rides.now c.args.stops.now in
    subst (λ (w : Vehicle). IsAsked four_nodes w c.args.ride 0 c.args.settings (near_in_line w c.args.ride)) (sym c.vehicle-vehicle.ensures)
    (asked v c.args.ride c.args.settings c.requires.asked)
