-- The arcs of a contraction of all nodes, packed by the levels of their lower ends.
use Rattle.adaptive_roads.proofs.Common.{◌≡◌, ◌≢◌, ℕ, zero, suc, ◌+◌, ◌-◌, ◌<◌, ◌≤◌, inl, inr, true, false, eqb, List, [], ◌∷◌, length, get_or, refl, sym, ◌∙◌, ap, subst, arith, Contains, map, flat_map, ◌↔◌, list_any, cases_eq, cases_lt, eqb-true, ne_eqb, IsDistinct-from_apart, length-le_from_distinct_below, Contains-from_any, get_or-map, length-map, get_or_default, All-contains, All-from_get_or, Contains-get_or, Contains-append_left, Contains-append_right, Contains-append_cases, Contains-push, Contains-push_cases, RoadArc, RoadMap, IsArc, Side, Out, Back, turned_arc, no_arc, Reaches, IsFalling, IsRemaining, IsHierarchy, level_in, IsOrdered, Contracted, IsContractionOf, IsFitContraction, Upper, IsLinkBy, HaveLevels, start_at, IsIn, node_at, upper_of, no_upper, upper_at, AreDescents, arc_below, uppers_at, arcs_below, hierarchy_of, IsPacked, IsPackingOf}
use Rattle.adaptive_roads.proofs.hierarchy_laws.Ways.{reaches-same, reaches-arc, reaches-carried}
use Rattle.adaptive_roads.specs.declared.road_hierarchy.descents.Descents.{Descents}
use Rattle.adaptive_roads.proofs.road_hierarchy.Parts.{slice-at, length-slice}
use Rattle.adaptive_roads.proofs.contraction.Turning.{turned-turned}
use Rattle.adaptive_roads.proofs.road_hierarchy.Marking.{falls-low, node-of_level}

-- what a list has that is put together from lists
contains-flat_map : {X Y : Type 0} (f : X → List Y) (xs : List X) (y : Y) → Contains (flat_map f xs) y → (x : X) × Contains xs x × Contains (f x) y
contains-flat_map f [] y (k, low, is) = absurd (omega arith)
contains-flat_map f (first ∷ xs) y there = elim (Contains-append_cases (f first) (flat_map f xs) y there) [
  | inl here ↦ (first, Contains-append_left (first ∷ []) xs first (Contains-push [] first), here)
  | inr later ↦
      let (x, in_xs, in_f) = contains-flat_map f xs y later in
      (x, Contains-append_right (first ∷ []) xs x in_xs, in_f)
]

flat_map-contains : {X Y : Type 0} (f : X → List Y) (xs : List X) (x : X) (y : Y) → Contains xs x → Contains (f x) y → Contains (flat_map f xs) y
flat_map-contains f [] x y (k, low, is) there = absurd (omega arith)
flat_map-contains f (first ∷ xs) x y in_xs there = elim (Contains-append_cases (first ∷ []) xs x in_xs) [
  | inl here ↦ elim (Contains-push_cases [] first x here) [
    | inl (k, low, is) ↦ absurd (omega arith)
    | inr same ↦ Contains-append_left (f first) (flat_map f xs) y (subst (λ z. Contains (f z) y) (sym same) there)
  ]
  | inr later ↦ Contains-append_right (f first) (flat_map f xs) y (flat_map-contains f xs x y later there)
]

-- an arc that leads down is the one between its node and its upper end
arc-from_upper : (side : Side) (arc : RoadArc) (node : ℕ) → node ≡ arc.head → turned_arc side (arc_below side node (upper_of arc)) ≡ arc
arc-from_upper side arc node is =
    turned-turned side (record { tail = arc.tail; head = node; seconds = arc.seconds })
    ∙ ap (λ (n : ℕ). let a : RoadArc = record { tail = arc.tail; head = n; seconds = arc.seconds } in a) is

-- the arcs that lead down, as they are packed, are just those that lead down
pub record ArePacked (side : Side) (Link : RoadArc → Type 0) (levels order : List ℕ) (d : Descents) : Type 0 where
  pub sound : (arc : RoadArc) → Contains (arcs_below side levels order d) arc → IsFalling Link (level_in levels) (turned_arc side arc)
  pub complete : (arc : RoadArc) → IsFalling Link (level_in levels) arc → Contains (arcs_below side levels order d) (turned_arc side arc)

pub are-packed : (side : Side) (Link : RoadArc → Type 0) (nodes : ℕ) (levels order : List ℕ) (d : Descents) → IsOrdered nodes levels order
    → AreDescents Link levels (length order) d.starts.items d.uppers.items → ArePacked side Link levels order d
are-packed side Link nodes levels order d ordered are = record {
  sound = λ arc there.
      let (node, in_order, in_part) = contains-flat_map part order arc there in
      sound_at node in_order arc in_part;
  complete = λ arc falls.
      let low = falls-low Link nodes levels order ordered arc falls in
      let node_is : node_at order (level_in levels arc.head) ≡ arc.head = ordered.distinct arc.head low in
      let in_order : Contains order arc.head = (level_in levels arc.head, low, get_or_default order (level_in levels arc.head) arc.head 0 low ∙ node_is) in
      let (place, at, upper) = are.complete arc falls low in
      flat_map-contains part order arc.head (turned_arc side arc) in_order (complete_at arc low place at upper);
}
  where
    starts : List ℕ
    starts = d.starts.items

    uppers : List Upper
    uppers = d.uppers.items

    part : ℕ → List RoadArc
    part = λ node. map (arc_below side node) (uppers_at starts uppers (level_in levels node))

    long : (level : ℕ) → level < length order → length (uppers_at starts uppers level) ≡ start_at starts (level + 1) - start_at starts level
    long level low = length-slice uppers (start_at starts level) (start_at starts (level + 1)) (are.parts.rises level low) (are.parts.within (level + 1) (omega arith))

    entry : (level j : ℕ) → level < length order → j < length (uppers_at starts uppers level)
        → upper_at (uppers_at starts uppers level) j ≡ upper_at uppers (start_at starts level + j)
    entry level j low j_low = slice-at uppers (start_at starts level) (start_at starts (level + 1)) j no_upper (omega (arith, long level low))

    sound_at : (node : ℕ) → Contains order node → (arc : RoadArc) → Contains (part node) arc → IsFalling Link (level_in levels) (turned_arc side arc)
    sound_at node (k, low, is) arc (j, j_below, j_is) =
        let node_is : node_at order k ≡ node = get_or_default order k 0 node low ∙ is in
        let its : level_in levels node ≡ k = ap (level_in levels) (sym node_is) ∙ (ordered.listed k low).2 in
        let level_low : level_in levels node < length order = omega (arith, its) in
        let j_low : j < length (uppers_at starts uppers (level_in levels node))
        = omega (arith, length-map (uppers_at starts uppers (level_in levels node)) (arc_below side node)) in
        let at : IsIn starts (level_in levels node) (start_at starts (level_in levels node) + j)
        = record { from = omega arith; to = omega (arith, long (level_in levels node) level_low) } in
        let upper = are.sound (level_in levels node) (start_at starts (level_in levels node) + j) level_low at in
        let head_is : node ≡ upper.arc.head
        = sym (node-of_level nodes levels order ordered node (level_in levels node) refl level_low)
        ∙ node-of_level nodes levels order ordered upper.arc.head (level_in levels node) upper.its_level level_low in
        let arc_is : arc_below side node (upper_at (uppers_at starts uppers (level_in levels node)) j) ≡ arc
        = sym (get_or-map (arc_below side node) (uppers_at starts uppers (level_in levels node)) j no_upper arc j_low) ∙ j_is in
        let upper_is : upper_at (uppers_at starts uppers (level_in levels node)) j ≡ upper_of upper.arc
        = entry (level_in levels node) j level_low j_low ∙ sym upper.is in
        let turned_is : turned_arc side arc ≡ upper.arc
        = ap (turned_arc side) (sym arc_is) ∙ ap (λ u. turned_arc side (arc_below side node u)) upper_is ∙ arc-from_upper side upper.arc node head_is in
        subst (IsFalling Link (level_in levels)) (sym turned_is) upper.falls

    complete_at : (arc : RoadArc) → level_in levels arc.head < length order → (place : ℕ) → IsIn starts (level_in levels arc.head) place
        → upper_at uppers place ≡ upper_of arc → Contains (part arc.head) (turned_arc side arc)
    complete_at arc low place at upper =
        let level = level_in levels arc.head in
        let j = place - start_at starts level in
        let from = at.from in
        let to = at.to in
        let at_j : start_at starts level + j ≡ place = omega arith in
        let j_low : j < length (uppers_at starts uppers level) = omega (arith, long level low) in
        let upper_is : upper_at (uppers_at starts uppers level) j ≡ upper_of arc = entry level j low j_low ∙ ap (upper_at uppers) at_j ∙ upper in (
          j,
          omega (arith, length-map (uppers_at starts uppers level) (arc_below side arc.head)),
          get_or-map (arc_below side arc.head) (uppers_at starts uppers level) j no_upper (turned_arc side arc) j_low ∙ ap (arc_below side arc.head) upper_is,
        )

-- descents of other arcs that lead down alike
descents-same : (Link Other : RoadArc → Type 0) (levels : List ℕ) (core : ℕ) (starts : List ℕ) (uppers : List Upper)
    → ((arc : RoadArc) → IsFalling Link (level_in levels) arc → IsFalling Other (level_in levels) arc)
    → ((arc : RoadArc) → IsFalling Other (level_in levels) arc → IsFalling Link (level_in levels) arc)
    → AreDescents Link levels core starts uppers → AreDescents Other levels core starts uppers
descents-same Link Other levels core starts uppers there back d = record {
  parts = d.parts;
  sound = λ level place low at.
      let upper = d.sound level place low at in
      record { arc = upper.arc; falls = there upper.arc upper.falls; its_level = upper.its_level; is = upper.is };
  complete = λ arc falls low. d.complete arc (back arc falls) low;
}

-- descents by equal lists
pub descents-at : (side : Side) (arcs others : List RoadArc) (levels more : List ℕ) (core count : ℕ) (starts : List ℕ) (uppers : List Upper)
    → arcs ≡ others → levels ≡ more → core ≡ count
    → AreDescents (IsLinkBy side arcs) levels core starts uppers → AreDescents (IsLinkBy side others) more count starts uppers
descents-at side arcs others levels more core count starts uppers same_arcs same_levels same_core d =
    subst (λ (links : List RoadArc). AreDescents (IsLinkBy side links) more count starts uppers) same_arcs
    (subst (λ ls. AreDescents (IsLinkBy side arcs) ls count starts uppers) same_levels
    (subst (λ n. AreDescents (IsLinkBy side arcs) levels n starts uppers) same_core d))

-- where so many nodes are in order as there are, each is contracted: one more would be one too many
ordered-whole : (nodes : ℕ) (levels order : List ℕ) → IsOrdered nodes levels order → length order ≡ nodes
    → (node : ℕ) → 1 ≤ node → node ≤ nodes → level_in levels node < length order
ordered-whole nodes levels order ordered all node one high = elim (ordered.cored node) [
  | inl low ↦ low
  | inr left ↦
      let few : length (0 ∷ node ∷ order) ≤ nodes + 1
      = length-le_from_distinct_below (0 ∷ node ∷ order) (nodes + 1) (IsDistinct-from_apart eqb (0 ∷ node ∷ order) (apart left)) below in
      absurd (omega (arith, all))
]
  where
    at : (k d : ℕ) → k < length order → level_in levels (get_or order k d) ≡ k
    at k d low = ap (level_in levels) (get_or_default order k d 0 low) ∙ (ordered.listed k low).2

    some : (k d : ℕ) → k < length order → 1 ≤ get_or order k d
    some k d low = omega (arith, (ordered.listed k low).0, get_or_default order k d 0 low)

    apart : level_in levels node ≡ 4294967295 → (i j d : ℕ) → i < j → j < length (0 ∷ node ∷ order)
        → eqb (get_or (0 ∷ node ∷ order) i d) (get_or (0 ∷ node ∷ order) j d) ≡ false
    apart left i zero d less low = absurd (omega arith)
    apart left zero (suc zero) d less low = ne_eqb 0 node (omega arith)
    apart left (suc i) (suc zero) d less low = absurd (omega arith)
    apart left zero (suc (suc j)) d less low = ne_eqb 0 (get_or order j d) (λ e. absurd (omega (arith, e, some j d (omega arith))))
    apart left (suc zero) (suc (suc j)) d less low =
        ne_eqb node (get_or order j d) (λ e.
        let short = ordered.short in
        absurd (omega (arith, ap (level_in levels) e, left, at j d (omega arith))))
    apart left (suc (suc i)) (suc (suc j)) d less low =
        ne_eqb (get_or order i d) (get_or order j d) (λ e.
        absurd (omega (arith, ap (level_in levels) e, at i d (omega arith), at j d (omega arith))))

    within : (q k : ℕ) → k < length (0 ∷ node ∷ order) → get_or (0 ∷ node ∷ order) k q ≡ q → q < nodes + 1
    within q zero low is = omega (arith, is)
    within q (suc zero) low is = omega (arith, is)
    within q (suc (suc k)) low is =
        let (_, most, _) = ordered.listed k (omega arith) in
        omega (arith, is, get_or_default order k q 0 (omega arith))

    below : (q : ℕ) → list_any (eqb q) (0 ∷ node ∷ order) ≡ true → q < nodes + 1
    below q is =
        let (k, low, at_k) = Contains-from_any {eq = eqb} (λ x y same. eqb-true x y same) q (0 ∷ node ∷ order) is in
        within q k low at_k

-- a contraction of all nodes, and its descents
pub record IsMade (contraction : Contracted) (levels order : List ℕ) (descents ascents : Descents) : Type 0 where
  pub fits : IsFitContraction contraction
  pub all : length order ≡ contraction.nodes
  pub levels_same : levels ≡ contraction.levels
  pub order_same : order ≡ contraction.order
  pub down : AreDescents (IsLinkBy Out contraction.arcs) levels (length order) descents.starts.items descents.uppers.items
  pub up : AreDescents (IsLinkBy Back contraction.arcs) levels (length order) ascents.starts.items ascents.uppers.items

made-ordered : (contraction : Contracted) (levels order : List ℕ) (descents ascents : Descents) → IsMade contraction levels order descents ascents
    → IsOrdered contraction.nodes levels order
made-ordered contraction levels order descents ascents made =
    subst (λ ls. IsOrdered contraction.nodes ls order) (sym made.levels_same)
    (subst (IsOrdered contraction.nodes contraction.levels) (sym made.order_same) made.fits.ordered)

-- the packed arcs are those of the contraction but for loops
pub made-arcs : (contraction : Contracted) (levels order : List ℕ) (descents ascents : Descents) → IsMade contraction levels order descents ascents
    → (arc : RoadArc) → Contains (hierarchy_of levels order descents ascents).arcs arc ↔ (Contains contraction.arcs arc × (arc.tail ≢ arc.head))
made-arcs contraction levels order descents ascents made arc = (
  λ there. elim (Contains-append_cases (arcs_below Out levels order descents) (arcs_below Back levels order ascents) arc there) [
    | inl falls ↦ (let (kept, low) = down.sound arc falls in (kept, λ same. (let e = ap level same in absurd (omega arith))))
    | inr rises ↦ (let (kept, low) = up.sound arc rises in (kept, λ same. (let e = ap level same in absurd (omega arith))))
  ],
  λ (kept, apart). elim (cases_eq (level arc.tail) (level arc.head)) [
    | inl same ↦
        let fits = All-contains (IsArc (record { nodes = contraction.nodes; arcs = contraction.arcs })) contraction.arcs arc made.fits.arcs_fit kept in
        let (one, high) = fits.0 in
        let low = ordered-whole contraction.nodes levels order ordered made.all arc.tail one high in
        absurd (apart (sym (ordered.distinct arc.tail low) ∙ ap (node_at order) same ∙ ordered.distinct arc.head (omega (arith, same))))
    | inr differs ↦ elim (cases_lt (level arc.head) (level arc.tail)) [
      | inl falls ↦ Contains-append_left (arcs_below Out levels order descents) (arcs_below Back levels order ascents) arc (down.complete arc (kept, falls))
      | inr rises ↦
          Contains-append_right (arcs_below Out levels order descents) (arcs_below Back levels order ascents) arc
          (up.complete (turned_arc Back arc) (kept, omega arith))
    ]
  ],
)
  where
    level : ℕ → ℕ
    level = level_in levels

    ordered : IsOrdered contraction.nodes levels order
    ordered = made-ordered contraction levels order descents ascents made

    down : ArePacked Out (IsLinkBy Out contraction.arcs) levels order descents
    down = are-packed Out (IsLinkBy Out contraction.arcs) contraction.nodes levels order descents ordered made.down

    up : ArePacked Back (IsLinkBy Back contraction.arcs) levels order ascents
    up = are-packed Back (IsLinkBy Back contraction.arcs) contraction.nodes levels order ascents ordered made.up

pub made-packing : (contraction : Contracted) (levels order : List ℕ) (descents ascents : Descents) → IsMade contraction levels order descents ascents
    → IsPackingOf contraction (hierarchy_of levels order descents ascents)
made-packing contraction levels order descents ascents made = record {
  nodes = made.all;
  levels = made.levels_same;
  order = made.order_same;
  arcs = made-arcs contraction levels order descents ascents made;
}

-- what falls by other arcs
falls-by : (side : Side) (arcs others : List RoadArc) (levels : List ℕ) → ((arc : RoadArc) → Contains arcs arc → (arc.tail ≢ arc.head) → Contains others arc)
    → (arc : RoadArc) → IsFalling (IsLinkBy side arcs) (level_in levels) arc → IsFalling (IsLinkBy side others) (level_in levels) arc
falls-by Out arcs others levels there arc (kept, low) =
    (there arc kept (λ same. (let e = ap (level_in levels) same in absurd (omega arith))), low)
falls-by Back arcs others levels there arc (kept, low) =
    (there (turned_arc Back arc) kept (λ same. (let e = ap (level_in levels) same in absurd (omega arith))), low)

pub made-packed : (contraction : Contracted) (levels order : List ℕ) (descents ascents : Descents) → IsMade contraction levels order descents ascents
    → IsPacked levels order descents ascents
made-packed contraction levels order descents ascents made = record {
  fits = record {
    arcs_fit = All-from_get_or (IsArc (record { nodes = length order; arcs = arcs })) arcs no_arc (λ place low.
        let fits = All-contains (IsArc (record { nodes = contraction.nodes; arcs = contraction.arcs })) contraction.arcs (get_or arcs place no_arc) made.fits.arcs_fit
        ((same (get_or arcs place no_arc)).0 (Contains-get_or arcs place no_arc low)).0 in
        ((fits.0.0, omega (arith, fits.0.1, made.all)), (fits.1.0, omega (arith, fits.1.1, made.all)), fits.2));
    ordered = subst (λ n. IsOrdered n levels order) (sym made.all) ordered;
    sized = ap (λ (ls : List ℕ). length ls) made.levels_same ∙ made.fits.sized ∙ ap (λ n. n + 1) (sym made.all);
  };
  whole = λ node one high. ordered-whole contraction.nodes levels order ordered made.all node one (omega (arith, made.all));
  down = descents-same (IsLinkBy Out contraction.arcs) (IsLinkBy Out arcs) levels (length order) descents.starts.items descents.uppers.items
      (falls-by Out contraction.arcs arcs levels (λ arc kept apart. (same arc).1 (kept, apart)))
      (falls-by Out arcs contraction.arcs levels (λ arc kept apart. ((same arc).0 kept).0)) made.down;
  up = descents-same (IsLinkBy Back contraction.arcs) (IsLinkBy Back arcs) levels (length order) ascents.starts.items ascents.uppers.items
      (falls-by Back contraction.arcs arcs levels (λ arc kept apart. (same arc).1 (kept, apart)))
      (falls-by Back arcs contraction.arcs levels (λ arc kept apart. ((same arc).0 kept).0)) made.up;
}
  where
    arcs : List RoadArc
    arcs = (hierarchy_of levels order descents ascents).arcs

    ordered : IsOrdered contraction.nodes levels order
    ordered = made-ordered contraction levels order descents ascents made

    same : (arc : RoadArc) → Contains arcs arc ↔ (Contains contraction.arcs arc × (arc.tail ≢ arc.head))
    same = made-arcs contraction levels order descents ascents made

-- without its loops a hierarchy is one
without-loops : (Road Link Bare : RoadArc → Type 0) (level : ℕ → ℕ) (core : ℕ) → ((arc : RoadArc) → Bare arc → Link arc)
    → ((arc : RoadArc) → Link arc → (arc.tail ≢ arc.head) → Bare arc) → IsHierarchy Road Link level core → IsHierarchy Road Bare level core
without-loops Road Link Bare level core to back h = record {
  sound = λ arc there. h.sound arc (to arc there);
  complete = λ arc there.
      reaches-carried Link Bare arc.tail arc.head arc.seconds (λ a kept. carried Link Bare back a kept) (h.complete arc there);
  distinct = h.distinct;
  filled = h.filled;
  flat = h.flat;
  bypassed = λ node into onward low into_is onward_is head tail into_high onward_high.
      reaches-carried (IsRemaining Link level (level node + 1)) (IsRemaining Bare level (level node + 1)) into.tail onward.head (into.seconds + onward.seconds)
      (λ a kept. carried (IsRemaining Link level (level node + 1)) (IsRemaining Bare level (level node + 1)) (λ b there apart. (back b there.0 apart, there.1, there.2)) a kept)
      (h.bypassed node into onward low (to into into_is) (to onward onward_is) head tail into_high onward_high);
}
  where
    carried : (Kind Other : RoadArc → Type 0) → ((arc : RoadArc) → Kind arc → (arc.tail ≢ arc.head) → Other arc) → (arc : RoadArc) → Kind arc
        → Reaches Other arc.tail arc.head arc.seconds
    carried Kind Other keeps arc kept = elim (cases_eq arc.tail arc.head) [
      | inl same ↦ reaches-same Other arc.tail arc.head arc.seconds same
      | inr apart ↦ reaches-arc Other arc (keeps arc kept apart)
    ]

-- a packed contraction is a hierarchy of the same maps
pub packing-keeps : (roads : RoadMap) (contraction hierarchy : Contracted) → IsPackingOf contraction hierarchy → IsContractionOf roads contraction
    → IsContractionOf roads hierarchy
packing-keeps roads contraction hierarchy packing h =
    subst (λ levels. IsHierarchy (Contains roads.arcs) (Contains hierarchy.arcs) (level_in levels) (length hierarchy.order)) (sym packing.levels)
    (subst (λ order. IsHierarchy (Contains roads.arcs) (Contains hierarchy.arcs) (level_in contraction.levels) (length order)) (sym packing.order)
    (without-loops (Contains roads.arcs) (Contains contraction.arcs) (Contains hierarchy.arcs) (level_in contraction.levels) (length contraction.order)
    (λ arc there. ((packing.arcs arc).0 there).0) (λ arc there apart. (packing.arcs arc).1 (there, apart)) h))

-- the packing of what a contraction left is one of it
pub packing-same : (made contraction hierarchy : Contracted) → made.nodes ≡ contraction.nodes → made.arcs ≡ contraction.arcs → made.levels ≡ contraction.levels
    → made.order ≡ contraction.order → IsPackingOf made hierarchy → IsPackingOf contraction hierarchy
packing-same made contraction hierarchy nodes arcs levels order p = record {
  nodes = p.nodes ∙ nodes;
  levels = p.levels ∙ levels;
  order = p.order ∙ order;
  arcs = λ arc. subst (λ (links : List RoadArc). Contains hierarchy.arcs arc ↔ (Contains links arc × (arc.tail ≢ arc.head))) arcs (p.arcs arc);
}
