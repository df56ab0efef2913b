use Rattle.std.proofs.Common.{◌≡◌, ◌<◌, ◌≤◌, List, get_or, length, sym, ap, subst, ◌∙◌, arith}
use Rattle.std.proofs.lemmas.List.{take_all}
use Rattle.ride_model.specs.declared.vehicle.Vehicle.{Vehicle}
use Rattle.ride_model.specs.Fleet.{IsFleet}
use Rattle.league_trials.specs.Sides.{half_of}
use Rattle.league_trials.proofs.HalfFleets.{half-fleet, half-keeps, half-leaves}
use Rattle.league_trials.proofs.outset.half_of.Goals as goal

pub loop-vehicle-preserved : goal.loop-vehicle-preserved
loop-vehicle-preserved c =
    let rest = c.args.rest in
    let fleet : List Vehicle = c.args.fleet.now in
    let i = c.loop-vehicle.vehicle-index in
    let v : Vehicle = c.vehicle-item.result in
    let items : c.vehicles-vehicle-items.result.now ≡ fleet = c.vehicles-vehicle-items.ensures.items in
    let low : i < length fleet = omega (arith, ap (λ (vs : List Vehicle). length vs) items) in
    let is : v ≡ get_or fleet i v = subst (λ (vs : List Vehicle). v ≡ get_or vs i v) items c.vehicle-item.is in
    grind (arith, half-keeps rest fleet i v low is, half-leaves rest fleet i v low is)

pub new-requires : goal.new-requires
new-requires c =
    let fleet : List Vehicle = c.args.fleet.now in
    let items : c.vehicles-vehicle-items.result.now ≡ fleet = c.vehicles-vehicle-items.ensures.items in
    let all : length fleet ≤ c.loop-vehicle.vehicle-index = omega (arith, ap (λ (vs : List Vehicle). length vs) items) in
    let half : c.loop-vehicle.vehicles.items ≡ half_of c.args.rest fleet
    = c.loop-vehicle.invariant ∙ ap (half_of c.args.rest) (take_all c.loop-vehicle.vehicle-index fleet all) in
    subst IsFleet (sym half) (half-fleet c.args.rest fleet c.vehicles-vehicle-items.ensures.is_fleet)

pub returns : goal.returns
returns c =
    let fleet : List Vehicle = c.args.fleet.now in
    let items : c.vehicles-vehicle-items.result.now ≡ fleet = c.vehicles-vehicle-items.ensures.items in
    let all : length fleet ≤ c.loop-vehicle.vehicle-index = omega (arith, ap (λ (vs : List Vehicle). length vs) items) in
    c.new.ensures ∙ c.loop-vehicle.invariant ∙ ap (half_of c.args.rest) (take_all c.loop-vehicle.vehicle-index fleet all)
