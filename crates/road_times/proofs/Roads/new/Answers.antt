use Rattle.road_times.proofs.Common.{sym, ap, ◌∙◌, subst, RoadMap, Out, tails_of, AreRoads}
use Rattle.road_times.proofs.Places.{stored-is_map}
use Rattle.road_times.proofs.Roads.new.Goals as goal

pub invariant_of-result : goal.invariant_of-result
invariant_of-result c =
    let tails = c.in_ok-tails.ensures ∙ ap (tails_of Out) c.arcs.ensures.arcs in
    let same = stored-is_map c.args.map.now c.nodes.result c.in_ok-tails.tails.items c.in_ok-forward.forward c.nodes.ensures.nodes tails c.in_ok-forward.ensures.placed in
    subst (λ (roads : RoadMap). AreRoads roads c.in_ok-forward.forward c.in_ok-backward.backward) (sym same)
    (record { fits = c.arcs.ensures.fits; forward = c.in_ok-forward.ensures.packed; backward = c.in_ok-backward.ensures.packed })

pub returns : goal.returns
returns c =
    let tails = c.in_ok-tails.ensures ∙ ap (tails_of Out) c.arcs.ensures.arcs in
    stored-is_map c.args.map.now c.nodes.result c.in_ok-tails.tails.items c.in_ok-forward.forward c.nodes.ensures.nodes tails c.in_ok-forward.ensures.placed
