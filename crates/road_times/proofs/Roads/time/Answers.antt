use Rattle.road_times.proofs.Common.{ap, ◌∙◌, arith, RoadMap, travel, Out, turned_map, stored_map, Room}
use Rattle.road_times.proofs.Turning.{turned-fits, travel-turned}
use Rattle.road_times.proofs.Roads.time.Goals as goal

pub time_to-requires-clause-over : goal.time_to-requires-clause-over
time_to-requires-clause-over c =
    let inside = c.self.inside in
    let roads = stored_map inside.nodes inside.tails.items inside.forward in
    let nodes = ap (λ (m : RoadMap). m.nodes) c.self.view_is in
    let room = ap (λ (r : Room). r.nodes) c.scratch.view_is in (
      turned_map Out roads,
      c.args.x,
      c.begin.ensures.begun (turned_map Out roads) inside.forward (turned-fits Out roads c.self.invariant.fits) c.self.invariant.forward
          (omega (arith, room, nodes, c.requires.scratch, c.self.invariant.fits.some_node)),
      omega (arith, nodes, c.requires.to.1),
    )

pub returns-clause-time : goal.returns-clause-time
returns-clause-time c =
    let inside = c.self.inside in
    let roads = stored_map inside.nodes inside.tails.items inside.forward in
    let nodes = ap (λ (m : RoadMap). m.nodes) c.self.view_is in
    let room = ap (λ (r : Room). r.nodes) c.scratch.view_is in
    let over = c.begin.ensures.begun (turned_map Out roads) inside.forward (turned-fits Out roads c.self.invariant.fits) c.self.invariant.forward
    (omega (arith, room, nodes, c.requires.scratch, c.self.invariant.fits.some_node)) in
    c.time_to.ensures.time (turned_map Out roads) c.args.x over
    ∙ travel-turned Out roads c.args.x c.args.y c.self.invariant.fits
    ∙ ap (λ (m : RoadMap). travel m c.args.x c.args.y) c.self.view_is
