use Rattle.board_core.proofs.Common.{◌≡◌, ◌-◌, sym, ◌∙◌, ap, subst, arith, All, Vehicle, Pickup, Dropoff, RoadMap, IsNode, raised, RemovesFrom, IsFirst, is_visit, Given, nodes_without, leg_along}
use Rattle.board_core.proofs.LegLaws.{plan_nodes}
use Rattle.board_core.proofs.Freed.{Frees, frees}
use Rattle.board_core.proofs.plans.free.Goals as goal
use Rattle.board_core.proofs.plans.free.Goals.{After-place_of-dropoff, After-leg_along-second}

-- where the stops of the ride stand
where_it_stands : (c : After-place_of-dropoff)
    → Frees c.args.setup.now.roads c.args.vehicle.now c.args.id c.place_of-pickup.result c.place_of-dropoff.result
where_it_stands c =
    frees c.args.setup.now.roads c.args.vehicle.now c.args.id c.place_of-pickup.result c.place_of-dropoff.result c.requires.map c.requires.lawful
    c.requires.waits
    (subst (λ stops. IsFirst (is_visit c.args.id Pickup) stops c.place_of-pickup.result) c.as_slice.ensures.value c.place_of-pickup.ensures)
    (subst (λ stops. IsFirst (is_visit c.args.id Dropoff) stops c.place_of-dropoff.result) c.as_slice-2.ensures.value c.place_of-dropoff.ensures)

-- the ride can be removed
removes : (c : After-leg_along-second)
    → Frees c.args.setup.now.roads c.args.vehicle.now c.args.id c.place_of-pickup.result c.place_of-dropoff.result
    → RemovesFrom c.args.setup.now.roads c.args.vehicle.now c.args.id c.leg_along-first.result c.leg_along-second.result
removes c stands =
    let v : Vehicle = c.args.vehicle.now in
    let roads : RoadMap = c.args.setup.now.roads in
    let first : c.leg_along-first.result ≡ leg_along roads (nodes_without v c.args.id) c.place_of-pickup.result
    = c.leg_along-first.ensures.leg
    ∙ ap (λ nodes. leg_along roads nodes c.place_of-pickup.result) (c.as_slice-3.ensures.value ∙ c.nodes_without-nodes.ensures) in
    let second : c.leg_along-second.result ≡ leg_along roads (nodes_without v c.args.id) (c.place_of-dropoff.result - 1)
    = c.leg_along-second.ensures.leg
    ∙ ap (λ (setup : Given). leg_along setup.roads c.as_slice-4.result.now (c.place_of-dropoff.result - 1)) c.leg_along-first.ensures.setup
    ∙ ap (λ nodes. leg_along roads nodes (c.place_of-dropoff.result - 1)) (c.as_slice-4.ensures.value ∙ c.nodes_without-nodes.ensures) in
    subst (λ n. RemovesFrom roads v c.args.id n c.leg_along-second.result) (sym first)
    (subst (RemovesFrom roads v c.args.id (leg_along roads (nodes_without v c.args.id) c.place_of-pickup.result)) (sym second) stands.removes)

pub remove_ride-requires : goal.remove_ride-requires
remove_ride-requires c = (
  c.args.setup.now.roads,
  removes (goal.at-remove_ride-requires c).After-leg_along-second (where_it_stands (goal.at-remove_ride-requires c).After-place_of-dropoff),
)

pub returns-clause-vehicle : goal.returns-clause-vehicle
returns-clause-vehicle c = ap raised (c.remove_ride.ensures c.args.setup.now.roads (removes (goal.at-returns-clause-vehicle c).After-leg_along-second (where_it_stands (goal.at-returns-clause-vehicle c).After-place_of-dropoff)))

pub overflow_sub-dropoff : goal.overflow_sub-dropoff
overflow_sub-dropoff c = (where_it_stands (goal.at-overflow_sub-dropoff c).After-place_of-dropoff).behind_pickup

pub overflow_add-vehicle : goal.overflow_add-vehicle
overflow_add-vehicle c =
    let is = ap (λ (v : Vehicle). v.version) (c.remove_ride.ensures c.args.setup.now.roads
    (removes (goal.at-overflow_add-vehicle c).After-leg_along-second (where_it_stands (goal.at-overflow_add-vehicle c).After-place_of-dropoff))) in
    omega (arith, is, c.requires.version)

pub leg_along-first-requires-clause-nodes : goal.leg_along-first-requires-clause-nodes
leg_along-first-requires-clause-nodes c =
    subst (All (IsNode c.args.setup.now.roads)) (sym (c.as_slice-3.ensures.value ∙ c.nodes_without-nodes.ensures))
    (plan_nodes c.args.setup.now.roads c.args.vehicle.now c.args.id c.requires.lawful)

pub leg_along-second-requires-clause-nodes : goal.leg_along-second-requires-clause-nodes
leg_along-second-requires-clause-nodes c =
    subst (λ (setup : Given). All (IsNode setup.roads) c.as_slice-4.result.now) (sym c.leg_along-first.ensures.setup)
    (subst (All (IsNode c.args.setup.now.roads)) (sym (c.as_slice-4.ensures.value ∙ c.nodes_without-nodes.ensures))
    (plan_nodes c.args.setup.now.roads c.args.vehicle.now c.args.id c.requires.lawful))
