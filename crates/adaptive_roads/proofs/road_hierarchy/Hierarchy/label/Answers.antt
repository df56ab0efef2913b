use Rattle.adaptive_roads.proofs.Common.{◌≡◌, ◌<◌, length, refl, sym, ◌∙◌, ap, arith, subst, get_or-map, level_in, travel_by, node_at, label_for, climb_to, IsSwept, Selection, IsSelectionOf}
use Rattle.adaptive_roads.proofs.road_hierarchy.Sweeping.{swept-same, labels-are_travel}
use Rattle.adaptive_roads.proofs.road_hierarchy.Hierarchy.label.Goals as goal

pub returns : goal.returns
returns c = record {
  labels = λ roads place fits is low.
      let h = c.args.self.now in
      let inside = c.selected.inside in
      let nodes = inside.nodes.items in
      let ranks = inside.ranks.items in
      let starts = inside.starts.items in
      let steps = inside.steps.items in
      let selection = subst (IsSelectionOf h) (sym c.selected.view_is) c.requires.selected in
      let low_inside : place < length nodes = subst (λ (s : Selection). place < length s.nodes) (sym c.selected.view_is) low in
      subst (λ (s : Selection). node_at c.sweep.new.labels place ≡ label_for (travel_by s.side roads c.args.x (node_at s.nodes place))) c.selected.view_is
      (labels-are_travel inside.side roads h c.args.x nodes ranks starts steps c.climb.new.climbs c.sweep.new.labels fits is c.climb.ensures.climbs c.climb.ensures.low
      selection.inside selection.ranked selection.steps c.selected.invariant.0.earlier
      (λ p below.
      subst (λ rs. IsSwept starts steps (climb_to rs c.climb.new.climbs) c.sweep.new.labels p) c.deref.ensures.value
      (swept-same _ _ _ _ _ _ _ p c.deref-2.ensures.value c.deref-3.ensures.value refl (c.sweep.ensures p (omega (arith, below, c.deref.ensures.len, c.selected.invariant.1)))))
      place low_inside);
}

pub sweep-requires-clause-inside : goal.sweep-requires-clause-inside
sweep-requires-clause-inside c = λ place low.
    let h = c.args.self.now in
    let nodes = c.selected.inside.nodes.items in
    let selection = subst (IsSelectionOf h) (sym c.selected.view_is) c.requires.selected in
    let below : place < length nodes = omega (arith, low, c.deref.ensures.len, c.selected.invariant.1) in
    let (one, high) = selection.inside place 0 below in
    let rank : node_at c.deref.result.now place ≡ level_in h.levels (node_at nodes place)
    = ap (λ rs. node_at rs place) (c.deref.ensures.value ∙ selection.ranked) ∙ get_or-map (level_in h.levels) nodes place 0 0 below in
    omega (arith, rank, c.climb.ensures.inside (node_at nodes place) one high, c.requires.climbs, c.climb.auto.climbs)
