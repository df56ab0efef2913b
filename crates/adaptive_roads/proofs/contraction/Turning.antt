-- Arcs as a search meets them.
use Rattle.adaptive_roads.proofs.Common.{◌≡◌, ℕ, ◌<◌, List, length, refl, ◌∙◌, ap, Contains, get_or_default, RoadArc, Side, Out, Back, turned_arc, no_arc, arc_at}

pub turned-turned : (side : Side) (arc : RoadArc) → turned_arc side (turned_arc side arc) ≡ arc
turned-turned Out arc = refl
turned-turned Back arc = refl

-- an arc that a search meets stands at some place
pub place-of_arc : (side : Side) (arcs : List RoadArc) (arc : RoadArc) → Contains arcs (turned_arc side arc)
    → (place : ℕ) × (place < length arcs) × (arc_at side arcs place ≡ arc)
place-of_arc side arcs arc (place, low, is) =
    (place, low, ap (turned_arc side) (get_or_default arcs place no_arc (turned_arc side arc) low ∙ is) ∙ turned-turned side arc)
