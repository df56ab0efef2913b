-- Shortcuts, and the contraction of a node that is bypassed.
use Rattle.adaptive_roads.proofs.Common.{◌≡◌, ◌≢◌, ℕ, ◌+◌, ◌<◌, ◌≤◌, inl, inr, List, [], ◌∷◌, length, get_or, sym, ◌∙◌, ap, subst, arith, length-append, Contains, cases_eq, RoadArc, RoadMap, Side, Out, Back, turned_arc, no_arc, get_or_default, Contains-get_or, Contains-append_left, Contains-push, Contains-push_cases, IsHierarchy, IsApart, IsBypassed, Neighbor, Graph, neighbor_of, IsFit, IsGraph, IsSameGraph, HasPushed, IsNeighbor, IsTakenOut, level_in, ReachesPast, IsHierarchyGraph, IsShortcut, HasShortcuts, IsIncoming, IsOutgoing, IsCovered}
use Rattle.adaptive_roads.proofs.hierarchy_laws.Ways.{reaches-same, reaches-arc, reaches-append, reaches-mapped, reaches-carried}
use Rattle.adaptive_roads.proofs.hierarchy_laws.Growing.{hierarchy-grown, hierarchy-taken}
use Rattle.adaptive_roads.proofs.contraction.Turning.{place-of_arc}
use Rattle.adaptive_roads.proofs.contraction.Pruning.{same-none}

-- an arc of a graph fits
pub contained-fit : (graph : Graph) (arc : RoadArc) → IsGraph graph → Contains graph.arcs.items arc → IsFit graph.nodes arc
contained-fit graph arc is (place, low, same) =
    subst (IsFit graph.nodes) (get_or_default graph.arcs.items place no_arc arc low ∙ same) (is.fit place low)

-- a graph whose lists stay has no new shortcut
pub shortcuts-same : (node : ℕ) (old new : Graph) → IsSameGraph old new → HasShortcuts node old new
shortcuts-same node old new same = record {
  nodes = same.nodes;
  levels = same.levels;
  order = same.order;
  kept = λ arc there. subst (λ arcs. Contains arcs arc) (sym same.arcs) there;
  added = λ arc there. inl (subst (λ arcs. Contains arcs arc) same.arcs there);
}

-- shortcuts upon shortcuts
pub shortcuts-append : (node : ℕ) (first second third : Graph) → HasShortcuts node first second → HasShortcuts node second third
    → HasShortcuts node first third
shortcuts-append node first second third a b = record {
  nodes = b.nodes ∙ a.nodes;
  levels = b.levels ∙ a.levels;
  order = b.order ∙ a.order;
  kept = λ arc there. b.kept arc (a.kept arc there);
  added = λ arc there. elim (b.added arc there) [
    | inl earlier ↦ a.added arc earlier
    | inr shortcut ↦ inr record {
      way = reaches-carried (Contains second.arcs.items) (Contains first.arcs.items) arc.tail arc.head arc.seconds
          (λ link its. elim (a.added link its) [
            | inl old ↦ reaches-arc (Contains first.arcs.items) link old
            | inr new ↦ new.way
          ]) shortcut.way;
      tail_live = ap (λ ls. level_in ls arc.tail) (sym a.levels) ∙ shortcut.tail_live;
      head_live = ap (λ ls. level_in ls arc.head) (sym a.levels) ∙ shortcut.head_live;
      tail_apart = shortcut.tail_apart;
      head_apart = shortcut.head_apart;
    }
  ];
}

-- a shortcut is added
pub shortcuts-pushed : (node : ℕ) (old new : Graph) (arc : RoadArc) → HasPushed old new arc → IsShortcut old node arc → HasShortcuts node old new
shortcuts-pushed node old new arc pushed shortcut = record {
  nodes = pushed.nodes;
  levels = pushed.levels;
  order = pushed.order;
  kept = λ other there. subst (λ arcs. Contains arcs other) (sym pushed.arcs) (Contains-append_left old.arcs.items (arc ∷ []) other there);
  added = λ other there. elim (Contains-push_cases old.arcs.items arc other (subst (λ arcs. Contains arcs other) pushed.arcs there)) [
    | inl earlier ↦ inl earlier
    | inr same ↦ inr (subst (IsShortcut old node) same shortcut)
  ];
}

-- an arc that was pushed is there
contains-pushed : (old new : Graph) (arc : RoadArc) → HasPushed old new arc → Contains new.arcs.items arc
contains-pushed old new arc pushed = subst (λ arcs. Contains arcs arc) (sym pushed.arcs) (Contains-push old.arcs.items arc)

-- the arc from neighbor to neighbor over a node is a shortcut
pub over-node : (graph : Graph) (node : ℕ) (into onward : Neighbor) (seconds : ℕ) → IsIncoming graph node into → IsOutgoing graph node onward
    → into.seconds + onward.seconds ≡ seconds → IsShortcut graph node (record { tail = into.node; head = onward.node; seconds = seconds })
over-node graph node into onward seconds a b total = record {
  way = reaches-append (Contains graph.arcs.items) into.node node onward.node into.seconds onward.seconds seconds (omega arith)
      (reaches-arc (Contains graph.arcs.items) (record { tail = into.node; head = node; seconds = into.seconds }) a.linked)
      (reaches-arc (Contains graph.arcs.items) (record { tail = node; head = onward.node; seconds = onward.seconds }) b.linked);
  tail_live = a.live;
  head_live = b.live;
  tail_apart = a.apart;
  head_apart = b.apart;
}

-- ways past a node stay when shortcuts are added
pub past-wider : (node : ℕ) (old new : Graph) (avoided x y limit : ℕ) → HasShortcuts node old new
    → ReachesPast old.arcs.items old.levels.items (length old.order.items) avoided x y limit
    → ReachesPast new.arcs.items new.levels.items (length new.order.items) avoided x y limit
past-wider node old new avoided x y limit grown r =
    subst (λ ls. ReachesPast new.arcs.items ls (length new.order.items) avoided x y limit) (sym grown.levels)
    (subst (λ os. ReachesPast new.arcs.items old.levels.items (length os) avoided x y limit) (sym grown.order)
    (reaches-mapped (IsApart (Contains old.arcs.items) (level_in old.levels.items) (length old.order.items) avoided)
    (IsApart (Contains new.arcs.items) (level_in old.levels.items) (length old.order.items) avoided) x y limit
    (λ arc apart. ((grown.kept arc apart.0.0, apart.0.1, apart.0.2), apart.1, apart.2)) r))

pub covered-wider : (node : ℕ) (old new : Graph) (into onward : Neighbor) → HasShortcuts node old new → IsCovered old node into onward
    → IsCovered new node into onward
covered-wider node old new into onward grown covered = λ differ.
    past-wider node old new node into.node onward.node (into.seconds + onward.seconds) grown (covered differ)

pub incoming-wider : (node : ℕ) (old new : Graph) (neighbor : Neighbor) → HasShortcuts node old new → IsIncoming old node neighbor
    → IsIncoming new node neighbor
incoming-wider node old new neighbor grown its = record {
  linked = grown.kept _ its.linked;
  live = ap (λ ls. level_in ls neighbor.node) grown.levels ∙ its.live;
  apart = its.apart;
}

pub outgoing-wider : (node : ℕ) (old new : Graph) (neighbor : Neighbor) → HasShortcuts node old new → IsOutgoing old node neighbor
    → IsOutgoing new node neighbor
outgoing-wider node old new neighbor grown its = record {
  linked = grown.kept _ its.linked;
  live = ap (λ ls. level_in ls neighbor.node) grown.levels ∙ its.live;
  apart = its.apart;
}

-- a shortcut that was added covers its pair
pub covered-pushed : (node : ℕ) (old new : Graph) (into onward : Neighbor) (seconds : ℕ) → IsGraph old → IsIncoming old node into → IsOutgoing old node onward
    → into.seconds + onward.seconds ≡ seconds → HasPushed old new (record { tail = into.node; head = onward.node; seconds = seconds })
    → IsCovered new node into onward
covered-pushed node old new into onward seconds is a b total pushed = λ _.
    let arc : RoadArc = record { tail = into.node; head = onward.node; seconds = seconds } in
    let short : length new.order.items < 4294967295 = omega (arith, ap (λ os. length os) pushed.order, is.ordered.short) in
    let tail_live = ap (λ ls. level_in ls into.node) pushed.levels ∙ a.live in
    let head_live = ap (λ ls. level_in ls onward.node) pushed.levels ∙ b.live in
    subst (ReachesPast new.arcs.items new.levels.items (length new.order.items) node into.node onward.node) (sym total)
    (reaches-arc (IsApart (Contains new.arcs.items) (level_in new.levels.items) (length new.order.items) node) arc
    ((contains-pushed old new arc pushed, omega (arith, tail_live, short), omega (arith, head_live, short)), a.apart, b.apart))

-- a neighbor by an arc that leads to a node, or from it
pub incoming-from_neighbor : (graph : Graph) (node : ℕ) (neighbor : Neighbor) → IsNeighbor Back graph node neighbor → IsIncoming graph node neighbor
incoming-from_neighbor graph node neighbor (place, onward, is) =
    let arc = get_or graph.arcs.items place no_arc in
    subst (IsIncoming graph node) is record {
      linked = subst (λ n. Contains graph.arcs.items (record { tail = arc.tail; head = n; seconds = arc.seconds })) onward.tail
          (Contains-get_or graph.arcs.items place no_arc onward.there);
      live = onward.live;
      apart = onward.apart;
    }

pub outgoing-from_neighbor : (graph : Graph) (node : ℕ) (neighbor : Neighbor) → IsNeighbor Out graph node neighbor → IsOutgoing graph node neighbor
outgoing-from_neighbor graph node neighbor (place, onward, is) =
    let arc = get_or graph.arcs.items place no_arc in
    subst (IsOutgoing graph node) is record {
      linked = subst (λ n. Contains graph.arcs.items (record { tail = n; head = arc.head; seconds = arc.seconds })) onward.tail
          (Contains-get_or graph.arcs.items place no_arc onward.there);
      live = onward.live;
      apart = onward.apart;
    }

-- the neighbor to which an arc of the node leads
neighbor-from_arc : (side : Side) (graph : Graph) (node : ℕ) (arc : RoadArc) → Contains graph.arcs.items (turned_arc side arc)
    → arc.tail ≡ node → level_in graph.levels.items arc.head ≡ 4294967295 → arc.head ≢ node → IsNeighbor side graph node (neighbor_of arc)
neighbor-from_arc side graph node arc there tail live apart =
    let (place, low, at) = place-of_arc side graph.arcs.items arc there in (
      place,
      record {
        there = low;
        tail = ap (λ (a : RoadArc). a.tail) at ∙ tail;
        live = ap (λ (a : RoadArc). level_in graph.levels.items a.head) at ∙ live;
        apart = λ e. apart (sym (ap (λ (a : RoadArc). a.head) at) ∙ e);
      },
      ap neighbor_of at,
    )

-- shortcuts keep a hierarchy
pub grown-hierarchy : (node : ℕ) (roads : RoadMap) (old new : Graph) → IsGraph old → HasShortcuts node old new → IsHierarchyGraph roads old
    → IsHierarchyGraph roads new
grown-hierarchy node roads old new is grown h =
    subst (λ ls. IsHierarchy (Contains roads.arcs) (Contains new.arcs.items) (level_in ls) (length new.order.items)) (sym grown.levels)
    (subst (λ os. IsHierarchy (Contains roads.arcs) (Contains new.arcs.items) (level_in old.levels.items) (length os)) (sym grown.order)
    (hierarchy-grown (Contains roads.arcs) (Contains old.arcs.items) (Contains new.arcs.items) (level_in old.levels.items) (length old.order.items) h grown.kept
    (λ arc there. elim (grown.added arc there) [
      | inl earlier ↦ inl earlier
      | inr shortcut ↦ inr (shortcut.way, omega (arith, shortcut.tail_live, is.ordered.short), omega (arith, shortcut.head_live, is.ordered.short))
    ])))

-- a node that is not contracted is in the core
live_from_high : (graph : Graph) (x : ℕ) → IsGraph graph → length graph.order.items ≤ level_in graph.levels.items x → level_in graph.levels.items x ≡ 4294967295
live_from_high graph x is high = elim (is.ordered.cored x) [
  | inl low ↦ absurd (omega arith)
  | inr live ↦ live
]

-- where each pair of neighbors is covered, the node is bypassed
pub covered-bypassed : (node : ℕ) (old new : Graph) (ins outs : List Neighbor) → IsGraph old → HasShortcuts node old new
    → ((into : Neighbor) → IsNeighbor Back old node into → Contains ins into)
    → ((onward : Neighbor) → IsNeighbor Out old node onward → Contains outs onward)
    → ((into onward : Neighbor) → Contains ins into → Contains outs onward → IsCovered new node into onward)
    → IsBypassed (Contains new.arcs.items) (level_in new.levels.items) (length new.order.items) node
covered-bypassed node old new ins outs is grown all_in all_out covered into onward in_remains on_remains head tail in_apart on_apart =
    elim (cases_eq into.tail onward.head) [
      | inl same ↦ reaches-same _ into.tail onward.head (into.seconds + onward.seconds) same
      | inr differ ↦ covered (record { node = into.tail; seconds = into.seconds }) (record { node = onward.head; seconds = onward.seconds })
          (all_in _ from_in) (all_out _ to_out) differ
    ]
  where
    live : (x : ℕ) → length new.order.items ≤ level_in new.levels.items x → level_in old.levels.items x ≡ 4294967295
    live x high = live_from_high old x is (omega (arith, ap (λ ls. level_in ls x) grown.levels, ap (λ os. length os) grown.order))

    from_in : IsNeighbor Back old node (record { node = into.tail; seconds = into.seconds })
    from_in = elim (grown.added into in_remains.0) [
      | inl there ↦ neighbor-from_arc Back old node (turned_arc Back into) there head (live into.tail in_remains.1) in_apart
      | inr shortcut ↦ absurd (shortcut.head_apart head)
    ]

    to_out : IsNeighbor Out old node (record { node = onward.head; seconds = onward.seconds })
    to_out = elim (grown.added onward on_remains.0) [
      | inl there ↦ neighbor-from_arc Out old node onward there tail (live onward.head on_remains.2) on_apart
      | inr shortcut ↦ absurd (shortcut.tail_apart tail)
    ]

-- a node that is bypassed leaves the core
pub taken-hierarchy : (node : ℕ) (roads : RoadMap) (old new : Graph) → IsGraph old → IsTakenOut old new node
    → level_in old.levels.items node ≡ 4294967295 → IsBypassed (Contains old.arcs.items) (level_in old.levels.items) (length old.order.items) node
    → IsHierarchyGraph roads old → IsHierarchyGraph roads new
taken-hierarchy node roads old new is taken live bypassed h =
    subst (λ arcs. IsHierarchy (Contains roads.arcs) (Contains arcs) (level_in new.levels.items) (length new.order.items)) (sym taken.arcs)
    (subst (IsHierarchy (Contains roads.arcs) (Contains old.arcs.items) (level_in new.levels.items)) (sym count)
    (hierarchy-taken (Contains roads.arcs) (Contains old.arcs.items) (level_in old.levels.items) (level_in new.levels.items) (length old.order.items) node h
    (omega (arith, live, is.ordered.short))
    (record { its_level = taken.its_level; others = taken.others })
    bypassed))
  where
    count : length new.order.items ≡ length old.order.items + 1
    count = omega (arith, ap (λ os. length os) taken.order, length-append old.order.items (node ∷ []))

-- the element of a list at the place of a loop
pub at_loop : (list : List Neighbor) (index place : ℕ) (d neighbor : Neighbor) → place ≡ index → index < length list → get_or list place neighbor ≡ neighbor
    → get_or list index d ≡ neighbor
at_loop list index place d neighbor same low is =
    get_or_default list index d neighbor low ∙ ap (λ p. get_or list p neighbor) (sym same) ∙ is
