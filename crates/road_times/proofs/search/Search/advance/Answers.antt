use Rattle.road_times.proofs.Common.{◌≡◌, ◌<◌, ◌≤◌, length, sym, ap, ◌∙◌, subst, arith, set, Some, None, slice_get, get_or-set_same, length-set, key_in-within, All-contains, IsArc, IsSearch, IsRelaxed, arc_to, neighbors_at}
use Rattle.road_times.proofs.Searches.{search-settled, search-relaxed, least_fits}
use Rattle.road_times.proofs.search.Search.advance.Goals as goal

pub relax-requires-clause-inside : goal.relax-requires-clause-inside
relax-requires-clause-inside c place neighbor here =
    let (roads, source, over) = c.requires.over in
    let least = c.in-Some.ensures.least in
    let queue = c.args.self.now.queue in
    let labels = c.args.self.now.labels.items in
    let size = c.as_slice.ensures.value ∙ c.settle.ensures.labels in
    let inside = key_in-within queue.keys c.in-Some.node c.in-Some.label least.here in
    let low : c.in-Some.node ≤ roads.nodes = omega (arith, inside, over.state.rooms, over.state.sized) in
    let stands : slice_get (neighbors_at c.args.adjacency.now c.in-Some.node) place ≡ Some neighbor = ap (λ ns. slice_get ns place) (sym c.at.ensures) ∙ here in
    let fit = All-contains (IsArc roads) roads.arcs (arc_to c.in-Some.node neighbor) over.fits.arcs_fit (over.packed.sound c.in-Some.node place neighbor low stands) in
    omega (arith, fit.1.1, over.state.sized, ap (λ ls. length ls) size, length-set labels c.in-Some.node (Some c.in-Some.label))

pub relax-requires-clause-fits : goal.relax-requires-clause-fits
relax-requires-clause-fits c =
    let (roads, source, over) = c.requires.over in
    let old = c.args.self.now in
    least_fits roads source old.labels.items old.queue c.in-Some.node c.in-Some.label over.fits over.state c.in-Some.ensures.least

pub returns-clause-over : goal.returns-clause-over
returns-clause-over c roads source over =
    let old = c.args.self.now in
    let node = c.in-Some.node in
    let key = c.in-Some.label in
    let took = c.in-Some.ensures in
    let taken = c.take_least.new.self in
    let labels = set old.labels.items node (Some key) in
    let adjacency = c.args.adjacency.now in
    let neighbors = neighbors_at adjacency node in
    let settled = search-settled roads source old.labels.items old.queue taken node key over.fits over.state took.least took.taken_out took.others took.floor c.take_least.ensures.size c.take_least.ensures.above in
    let inside = key_in-within old.queue.keys node key took.least.here in
    let low : node < length old.labels.items = omega (arith, inside, over.state.rooms) in
    let relaxed : IsRelaxed labels neighbors (length neighbors) key taken c.relax.new.queue =
    subst (λ q. IsRelaxed labels neighbors (length neighbors) key q c.relax.new.queue) c.settle.ensures.queue
    (subst (λ ls. IsRelaxed ls neighbors (length neighbors) key c.settle.new.self.queue c.relax.new.queue) (c.as_slice.ensures.value ∙ c.settle.ensures.labels)
    (subst (λ ns. IsRelaxed c.as_slice.result.now ns (length ns) key c.settle.new.self.queue c.relax.new.queue) c.at.ensures c.relax.ensures)) in
    record {
      fits = over.fits;
      packed = over.packed;
      state = subst (λ ls. IsSearch roads source 0 ls c.relax.new.queue) (sym c.settle.ensures.labels)
          (search-relaxed roads source labels taken c.relax.new.queue adjacency node key over.fits over.packed settled
          (get_or-set_same old.labels.items node (Some key) None low) relaxed);
    }
