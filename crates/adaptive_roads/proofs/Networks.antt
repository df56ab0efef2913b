-- Networks are compared arc by arc.
use Rattle.adaptive_roads.proofs.Common.{◌≡◌, ℕ, Bool, List, sym, ◌∙◌, ap, ◌==◌, ◌&&◌, Decides-and, Decides-eqb, Decides-like, RoadArc, RoadMap}
use Rattle.std.specs.Bool.{Decides}

abbrev arc_of : ℕ → ℕ → ℕ → RoadArc
arc_of tail head seconds = record { tail = tail; head = head; seconds = seconds }

abbrev map_of : ℕ → List RoadArc → RoadMap
map_of nodes arcs = record { nodes = nodes; arcs = arcs }

same-arc : (a b : RoadArc) → (a.tail ≡ b.tail) × ((a.head ≡ b.head) × (a.seconds ≡ b.seconds)) → a ≡ b
same-arc a b (tail, (head, seconds)) =
    ap (λ t. arc_of t a.head a.seconds) tail ∙ ap (λ h. arc_of b.tail h a.seconds) head ∙ ap (arc_of b.tail b.head) seconds

-- two arcs are the same where their ends and seconds are
pub arc-decides : (a b : RoadArc) → Decides ((a.tail == b.tail) && ((a.head == b.head) && (a.seconds == b.seconds))) (a ≡ b)
arc-decides a b = Decides-like _ (same-arc a b)
    (λ e. (ap (λ (r : RoadArc). r.tail) e, (ap (λ (r : RoadArc). r.head) e, ap (λ (r : RoadArc). r.seconds) e)))
    (Decides-and _ _ (Decides-eqb a.tail b.tail) (Decides-and _ _ (Decides-eqb a.head b.head) (Decides-eqb a.seconds b.seconds)))

-- two maps of as many nodes are the same where their arcs are
pub map-decides : (one other : RoadMap) (arcs more : List RoadArc) (r : Bool) → one.nodes ≡ other.nodes → arcs ≡ one.arcs → more ≡ other.arcs
    → Decides r (arcs ≡ more) → Decides r (one ≡ other)
map-decides one other arcs more r nodes its others decides = Decides-like r
    (λ e. ap (λ n. map_of n one.arcs) nodes ∙ ap (map_of other.nodes) (sym its ∙ e ∙ others))
    (λ e. its ∙ ap (λ (m : RoadMap). m.arcs) e ∙ sym others) decides
