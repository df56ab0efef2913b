use Rattle.road_times.proofs.Common.{ℕ, length, get_or, List, refl, ap, ◌∙◌, subst, arith, RoadArc, tails_of, IsStarts, ArePlaced}
use Rattle.road_times.proofs.Places.{packed-is_adjacency, tails-inside}
use Rattle.road_times.proofs.adjacency.Adjacency.new.Goals as goal

pub starts-requires-clause-inside : goal.starts-requires-clause-inside
starts-requires-clause-inside c k low =
    let same = c.requires in
    omega (
      arith,
      tails-inside c.args.side c.args.map.now c.nodes.ensures.fits k (omega (arith, low, ap (λ (xs : List ℕ). length xs) same)),
      ap (λ xs. get_or xs k 0) same,
      c.nodes.ensures.nodes,
    )

pub returns-clause-packed : goal.returns-clause-packed
returns-clause-packed c =
    let roads = c.args.map.now in
    let side = c.args.side in
    let starts = c.in_ok-starts.starts.items in
    let neighbors = c.in_ok-neighbors.neighbors.items in
    let made : IsStarts roads.nodes (tails_of side roads.arcs) starts
    = subst (λ ts. IsStarts roads.nodes ts starts) c.requires (subst (λ n. IsStarts n c.args.tails.now starts) c.nodes.ensures.nodes c.in_ok-starts.ensures) in
    packed-is_adjacency roads side starts _ made refl (c.in_ok-neighbors.ensures.sized ∙ ap (λ (xs : List RoadArc). length xs) c.arcs.ensures.arcs)
    (subst (λ (xs : List RoadArc). ArePlaced side xs starts neighbors (length xs)) c.arcs.ensures.arcs
    (subst (λ ss. ArePlaced side c.arcs.result.now ss neighbors (length c.arcs.result.now)) c.as_slice.ensures.value c.in_ok-neighbors.ensures.placed))
