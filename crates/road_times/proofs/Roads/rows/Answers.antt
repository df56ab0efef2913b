use Rattle.road_times.proofs.Common.{◌≡◌, Bor, ◌+◌, length, sym, ap, ◌∙◌, subst, arith, RoadMap, travel, Adjacency, Side, Out, Back, turned_map, travel_by, IsAdjacency, stored_map, Room}
use Rattle.road_times.proofs.Turning.{turned-fits, travel-turned, map-same}
use Rattle.road_times.proofs.Roads.rows.Goals as goal
use Rattle.road_times.proofs.Roads.rows.Goals.{in-Out, in-Back}

pub row-requires-clause-over : goal.row-requires-clause-over
row-requires-clause-over c =
    let inside = c.self.inside in
    let roads = stored_map inside.nodes inside.tails.items inside.forward in
    let side = c.args.side in
    let nodes = ap (λ (m : RoadMap). m.nodes) c.self.view_is in
    let room = ap (λ (r : Room). r.nodes) c.scratch.view_is in
    let packed : IsAdjacency (turned_map side roads) c.match-side.adjacency.now =
    elim c.match-side.branch [
      | in-Out w ↦ subst (λ (s : Side). IsAdjacency (turned_map s roads) c.match-side.adjacency.now) (sym w.in-Out.is)
          (subst (λ (b : Bor Adjacency). IsAdjacency (turned_map Out roads) b.now) (sym w.adjacency-is) c.self.invariant.forward)
      | in-Back w ↦ subst (λ (s : Side). IsAdjacency (turned_map s roads) c.match-side.adjacency.now) (sym w.in-Back.is)
          (subst (λ (b : Bor Adjacency). IsAdjacency (turned_map Back roads) b.now) (sym w.adjacency-is) c.self.invariant.backward)
    ] in
    let fits = turned-fits side roads c.self.invariant.fits in
    let sized : length c.scratch.inside.search.labels.items ≡ inside.nodes + 1
    = omega (arith, room, nodes, c.requires.scratch, c.self.invariant.fits.some_node) in (
      turned_map side roads,
      fits,
      packed,
      sized,
      (c.requires.node.0, omega (arith, nodes, c.requires.node.1)),
      λ k d low. (let fit = c.requires.wanted k d low in (fit.0, omega (arith, nodes, fit.1))),
    )

pub returns-clause-row : goal.returns-clause-row
returns-clause-row c =
    let inside = c.self.inside in
    let roads = stored_map inside.nodes inside.tails.items inside.forward in
    let side = c.args.side in
    let nodes = ap (λ (m : RoadMap). m.nodes) c.self.view_is in
    let room = ap (λ (r : Room). r.nodes) c.scratch.view_is in
    let packed : IsAdjacency (turned_map side roads) c.match-side.adjacency.now =
    elim c.match-side.branch [
      | in-Out w ↦ subst (λ (s : Side). IsAdjacency (turned_map s roads) c.match-side.adjacency.now) (sym w.in-Out.is)
          (subst (λ (b : Bor Adjacency). IsAdjacency (turned_map Out roads) b.now) (sym w.adjacency-is) c.self.invariant.forward)
      | in-Back w ↦ subst (λ (s : Side). IsAdjacency (turned_map s roads) c.match-side.adjacency.now) (sym w.in-Back.is)
          (subst (λ (b : Bor Adjacency). IsAdjacency (turned_map Back roads) b.now) (sym w.adjacency-is) c.self.invariant.backward)
    ] in
    let fits = turned-fits side roads c.self.invariant.fits in
    let sized : length c.scratch.inside.search.labels.items ≡ inside.nodes + 1
    = omega (arith, room, nodes, c.requires.scratch, c.self.invariant.fits.some_node) in
    c.row.ensures.row (turned_map side roads) fits packed sized
    ∙ map-same (travel (turned_map side roads) c.args.x) (travel_by side c.args.self.now c.args.x) c.args.wanted.now
    (λ w. travel-turned side roads c.args.x w c.self.invariant.fits ∙ ap (λ (m : RoadMap). travel_by side m c.args.x w) c.self.view_is)
