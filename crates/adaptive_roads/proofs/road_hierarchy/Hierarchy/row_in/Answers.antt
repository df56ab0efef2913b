use Rattle.adaptive_roads.proofs.Common.{◌≡◌, ℕ, ◌<◌, length, sym, ◌∙◌, ap, subst, map, travel_by, time_of, node_at, never, label_for, Selection}
use Rattle.adaptive_roads.proofs.road_hierarchy.Sweeping.{read-is_travel}
use Rattle.adaptive_roads.proofs.road_hierarchy.Hierarchy.row_in.Goals as goal

pub returns-clause-row : goal.returns-clause-row
returns-clause-row c = λ roads fits is.
    let inside = c.selected.inside in
    let nodes = inside.nodes.items in
    let labels = c.label.new.labels in
    let are : (place : ℕ) → place < length nodes → node_at labels place ≡ label_for (travel_by inside.side roads c.args.x (node_at nodes place))
    = λ place low. subst (λ (s : Selection). place < length s.nodes → node_at labels place ≡ label_for (travel_by s.side roads c.args.x (node_at s.nodes place)))
    (sym c.selected.view_is) (c.label.ensures.labels roads place fits is) low in
    c.read.ensures
    ∙ ap (map (λ place. time_of never (node_at labels place))) c.deref.ensures.value
    ∙ read-is_travel inside.side roads c.args.x nodes labels inside.places.items fits are c.selected.invariant.0.selected
    ∙ ap (λ (s : Selection). map (travel_by s.side roads c.args.x) s.wanted) c.selected.view_is
