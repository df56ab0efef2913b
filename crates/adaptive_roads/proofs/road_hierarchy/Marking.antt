-- Marks, closed from the lowest node on.
use Rattle.adaptive_roads.proofs.Common.{◌≡◌, ◌≢◌, ℕ, ◌+◌, ◌-◌, ◌<◌, ◌≤◌, inl, inr, List, length, refl, sym, ◌∙◌, ap, subst, arith, Bool, slice_range, cases_lt, All-contains, RoadArc, IsArc, Side, Out, Back, turned_arc, IsFalling, level_in, IsOrdered, Contracted, IsFitContraction, Upper, IsLinkBy, start_at, IsIn, AreParts, no_upper, upper_at, AreDescents, IsMarked, node_at, AreClosedBelow, AreClosed}
use Rattle.adaptive_roads.proofs.road_hierarchy.Parts.{slice-at, length-slice}
use Rattle.adaptive_roads.proofs.road_hierarchy.LevelParts.{IsPart, part-of}

-- levels end with that of the core
pub level-le : (nodes : ℕ) (levels order : List ℕ) → IsOrdered nodes levels order → (node : ℕ) → level_in levels node ≤ 4294967295
level-le nodes levels order ordered node = elim (ordered.cored node) [
  | inl low ↦ (let short = ordered.short in omega arith)
  | inr core ↦ omega arith
]

-- an arc leads down only to a contracted node
pub falls-low : (Link : RoadArc → Type 0) (nodes : ℕ) (levels order : List ℕ) → IsOrdered nodes levels order → (arc : RoadArc)
    → IsFalling Link (level_in levels) arc → level_in levels arc.head < length order
falls-low Link nodes levels order ordered arc falls = elim (ordered.cored arc.head) [
  | inl low ↦ low
  | inr core ↦ (let high = level-le nodes levels order ordered arc.tail in let down = falls.1 in absurd (omega arith))
]

-- the node of a level
pub node-of_level : (nodes : ℕ) (levels order : List ℕ) → IsOrdered nodes levels order → (node level : ℕ) → level_in levels node ≡ level
    → level < length order → node_at order level ≡ node
node-of_level nodes levels order ordered node level is low =
    ap (node_at order) (sym is) ∙ ordered.distinct node (omega (arith, is))

-- the nodes of an arc that a search meets
pub link-inside : (side : Side) (hierarchy : Contracted) → IsFitContraction hierarchy → (arc : RoadArc) → IsLinkBy side hierarchy.arcs arc
    → ((1 ≤ arc.tail) × (arc.tail ≤ hierarchy.nodes)) × ((1 ≤ arc.head) × (arc.head ≤ hierarchy.nodes))
link-inside Out hierarchy fit arc there =
    let fits = All-contains (IsArc (record { nodes = hierarchy.nodes; arcs = hierarchy.arcs })) hierarchy.arcs arc fit.arcs_fit there in
    (fits.0, fits.1)
link-inside Back hierarchy fit arc there =
    let fits = All-contains (IsArc (record { nodes = hierarchy.nodes; arcs = hierarchy.arcs })) hierarchy.arcs (turned_arc Back arc) fit.arcs_fit there in
    (fits.1, fits.0)

-- upper ends are higher
pub upper-higher : (side : Side) (hierarchy : Contracted) (starts : List ℕ) (uppers : List Upper) → IsFitContraction hierarchy
    → AreDescents (IsLinkBy side hierarchy.arcs) hierarchy.levels (length hierarchy.order) starts uppers
    → (level place : ℕ) → level < length hierarchy.order → IsIn starts level place
    → ((upper_at uppers place).node < hierarchy.nodes + 1) × (level < level_in hierarchy.levels (upper_at uppers place).node)
upper-higher side hierarchy starts uppers fit d level place low at =
    let upper = d.sound level place low at in
    let its_node : upper.arc.tail ≡ (upper_at uppers place).node = ap (λ (u : Upper). u.node) upper.is in
    let inside = link-inside side hierarchy fit upper.arc upper.falls.0 in (
      omega (arith, its_node, inside.0.1),
      omega (arith, ap (level_in hierarchy.levels) its_node, upper.falls.1, upper.its_level),
    )

-- one level more is closed, where its node is marked
pub closed-more : (starts : List ℕ) (uppers part : List Upper) (order levels : List ℕ) (level : ℕ) (old new : List Bool)
    → AreParts (length order) starts (length uppers) → level < length order
    → part ≡ slice_range uppers (start_at starts level) (start_at starts (level + 1))
    → ((k : ℕ) → k < length order → level_in levels (node_at order k) ≡ k)
    → ((place : ℕ) → IsIn starts level place → level < level_in levels (upper_at uppers place).node)
    → ((k : ℕ) → k < length part → IsMarked new (upper_at part k).node)
    → ((node : ℕ) → IsMarked old node → IsMarked new node)
    → ((node : ℕ) → ((k : ℕ) → k < length part → (upper_at part k).node ≢ node) → IsMarked new node → IsMarked old node)
    → AreClosedBelow starts uppers order level old → AreClosedBelow starts uppers order (level + 1) new
closed-more starts uppers part order levels level old new parts low is ordered higher marked kept others closed = λ number place below mark at.
    elim (cases_lt number level) [
      | inl earlier ↦ kept (upper_at uppers place).node (closed number place earlier (others (node_at order number) (apart number earlier) mark) at)
      | inr last ↦
          let same : number ≡ level = omega arith in
          let here : IsIn starts level place = subst (λ n. IsIn starts n place) same at in
          let k = place - start_at starts level in
          let at_k : start_at starts level + k ≡ place = (let from = here.from in omega arith) in
          let k_low : k < length part = (let from = here.from in let to = here.to in omega (arith, p.long)) in
          subst (λ p. IsMarked new (upper_at uppers p).node) at_k
          (subst (λ (u : Upper). IsMarked new u.node) (p.entry k k_low) (marked k k_low))
    ]
  where
    p : IsPart starts uppers part level
    p = part-of (length order) level starts uppers part parts low is

    apart : (number : ℕ) → number < level → (k : ℕ) → k < length part → (upper_at part k).node ≢ node_at order number
    apart number earlier k k_low e =
        let up = higher (start_at starts level + k) (p.at k k_low) in
        let node_is : (upper_at uppers (start_at starts level + k)).node ≡ node_at order number
        = sym (ap (λ (u : Upper). u.node) (p.entry k k_low)) ∙ e in
        absurd (omega (arith, up, ap (level_in levels) node_is, ordered number (omega arith)))

-- marks that are closed level by level are closed under the arcs that lead down
pub closed-links : (Link : RoadArc → Type 0) (nodes : ℕ) (levels order starts : List ℕ) (uppers : List Upper) (marks : List Bool)
    → IsOrdered nodes levels order → AreDescents Link levels (length order) starts uppers
    → AreClosedBelow starts uppers order (length order) marks → AreClosed Link (level_in levels) marks
closed-links Link nodes levels order starts uppers marks ordered d closed = λ arc falls mark.
    let low = falls-low Link nodes levels order ordered arc falls in
    let (place, at, upper) = d.complete arc falls low in
    let here : IsMarked marks (node_at order (level_in levels arc.head))
    = subst (IsMarked marks) (sym (node-of_level nodes levels order ordered arc.head (level_in levels arc.head) refl low)) mark in
    subst (λ (u : Upper). IsMarked marks u.node) upper (closed (level_in levels arc.head) place low here at)
