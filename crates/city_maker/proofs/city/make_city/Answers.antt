use Rattle.city_maker.proofs.Common.{◌≡◌, [], refl, sym, subst, ◌∙◌, ap, ◌+◌, arith, rules, All-same, All, IsFleet, RoadMap, IsRoadMap, IsSpelledCommand, IsLawful, Vehicle, state_after, draws_before, fleet_of, road_draws, IsOnMap, nodes_of, network_of}
use Rattle.city_maker.proofs.NetworkLimits.{network-fits, network-is}
use Rattle.city_maker.proofs.FleetLimits.{fleet-fits, fleet-lawful, fleet-idle, fleet-first_versions}
use Rattle.city_maker.proofs.CommandLimits.{commands-spelled, commands-on_map}
use Rattle.city_maker.proofs.city.make_city.Goals as goal

pub vehicles-requires-clause-drawn : goal.vehicles-requires-clause-drawn
unfolding road_draws
vehicles-requires-clause-drawn c = c.in_ok-roads.ensures.draws

pub commands-requires-clause-drawn : goal.commands-requires-clause-drawn
unfolding draws_before
commands-requires-clause-drawn c =
    let plan = c.args.plan.now in
    let same : road_draws plan + plan.vehicles ≡ draws_before plan 0 = omega arith in
    c.in_ok-vehicles.ensures.drawn ∙ ap (state_after plan.seed) same

pub new-requires : goal.new-requires
new-requires c =
    subst IsRoadMap (sym (network-is c.args.plan.now (record { nodes = nodes_of c.args.plan.now; arcs = c.in_ok-roads.roads.arcs.items }) refl c.in_ok-roads.ensures.arcs))
    (network-fits c.args.plan.now c.requires)

pub new-requires-2 : goal.new-requires-2
new-requires-2 c = subst IsFleet (sym c.in_ok-vehicles.ensures.vehicles) (fleet-fits c.args.plan.now c.requires)

pub returns-clause-start : goal.returns-clause-start
returns-clause-start c =
    let plan = c.args.plan.now in
    let network : c.new.result ≡ network_of plan = network-is plan c.new.result c.new.ensures.nodes (c.new.ensures.arcs ∙ c.in_ok-roads.ensures.arcs) in
    let fleet : c.new-2.result ≡ fleet_of plan = c.new-2.ensures ∙ c.in_ok-vehicles.ensures.vehicles in
    record {
      settings_fit = search rules;
      lawful = subst (λ (roads : RoadMap). All (IsLawful roads) c.new-2.result) (sym network)
          (All-same (IsLawful (network_of plan)) c.new-2.result _ fleet (fleet-lawful plan c.requires));
      idle = All-same (λ (v : Vehicle). v.stops.items ≡ []) c.new-2.result _ fleet (fleet-idle plan);
      first_versions = All-same (λ (v : Vehicle). v.version ≡ 0) c.new-2.result _ fleet (fleet-first_versions plan);
    }

pub returns-clause-spelled : goal.returns-clause-spelled
returns-clause-spelled c = All-same (IsSpelledCommand 1) c.of.result _ (c.of.ensures ∙ c.in_ok-commands.ensures) (commands-spelled c.args.plan.now c.requires)

pub returns-clause-on_map : goal.returns-clause-on_map
returns-clause-on_map c =
    let plan = c.args.plan.now in
    let network : c.new.result ≡ network_of plan = network-is plan c.new.result c.new.ensures.nodes (c.new.ensures.arcs ∙ c.in_ok-roads.ensures.arcs) in
    subst (λ (roads : RoadMap). All (IsOnMap roads) c.of.result) (sym network) (All-same (IsOnMap (network_of plan)) c.of.result _ (c.of.ensures ∙ c.in_ok-commands.ensures) (commands-on_map plan c.requires))
