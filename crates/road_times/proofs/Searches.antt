-- The invariant of a label-setting search, step by step.
use Rattle.road_times.proofs.Common.{◌≡◌, ◌≢◌, ℕ, ◌+◌, ◌<◌, ◌≤◌, inl, inr, List, [], ◌∷◌, ◌++◌, length, set, refl, sym, ◌∙◌, ap, subst, arith, Option, Some, None, Contains, slice_get, cases_eq, length-set, All-contains, sum_by-append, slice_get_within, same_Some, RoadArc, RoadMap, IsArc, IsRoadMap, travel, IsWalk, IsLeastWeight, weight_of, weight-cons, walk-append, travel-is_travel, travel-le, Queue, key_of, IsAboveFloor, IsEmpty, IsLeast, key_in-within, Adjacency, IsAdjacency, neighbors_at, arc_to, neighbor_of, label_of, IsReached, IsSearch, IsOffered, IsRelaxed}
use Rattle.road_times.proofs.Lists.{set_cases, label_within}

-- a node is queued by a key that is not above the limit
pub record IsMet (queue : Queue) (limit : ℕ) : Type 0 where
  pub node : ℕ
  pub key : ℕ
  pub here : key_of queue node ≡ Some key
  pub low : key ≤ limit

-- no arc leaves the node 0
pub leaves_a_node : (roads : RoadMap) (node : ℕ) (arc : RoadArc) → IsRoadMap roads → Contains roads.arcs arc → arc.tail ≡ node → node ≢ 0
leaves_a_node roads node arc fits there tail is =
    let fit = All-contains (IsArc roads) roads.arcs arc fits.arcs_fit there in
    absurd (omega (arith, fit.0.0, tail, is))

-- a walk from a settled node to one that is not settled meets the queue
pub walk_meets_queue : (roads : RoadMap) (source : ℕ) (labels : List (Option ℕ)) (queue : Queue) → IsRoadMap roads
    → IsSearch roads source 0 labels queue → (x y label : ℕ) (walk : List RoadArc) → label_of labels x ≡ Some label
    → IsWalk roads x y walk → label_of labels y ≡ None → IsMet queue (label + weight_of walk)
walk_meets_queue roads source labels queue fits s x y label [] has same none =
    let both : Some label ≡ None = sym has ∙ ap (label_of labels) same ∙ none in
    absurd (cc both)
walk_meets_queue roads source labels queue fits s x y label (arc ∷ walk) has (there, tail, rest) none =
    elim (s.onward x label arc (leaves_a_node roads x arc fits there tail) has there tail) [
      | inl (less, is, low) ↦
          let met = walk_meets_queue roads source labels queue fits s arc.head y less walk is rest none in
          record { node = met.node; key = met.key; here = met.here; low = omega (arith, met.low, low, weight-cons arc walk) }
      | inr (key, is, low) ↦ record { node = arc.head; key = key; here = is; low = omega (arith, low, weight-cons arc walk) }
    ]

-- a walk from the source to a node that is not settled meets the queue
pub source_meets_queue : (roads : RoadMap) (source : ℕ) (labels : List (Option ℕ)) (queue : Queue) → IsRoadMap roads
    → IsSearch roads source 0 labels queue → (y : ℕ) (walk : List RoadArc)
    → IsWalk roads source y walk → label_of labels y ≡ None → IsMet queue (weight_of walk)
source_meets_queue roads source labels queue fits s y walk walked none =
    elim s.begun [
      | inl (label, is, low) ↦
          let met = walk_meets_queue roads source labels queue fits s source y label walk is walked none in
          record { node = met.node; key = met.key; here = met.here; low = omega (arith, met.low, low) }
      | inr (key, is, low) ↦ record { node = source; key = key; here = is; low = omega (arith, low) }
    ]

-- the least key is a least weight
pub least_is_weight : (roads : RoadMap) (source : ℕ) (labels : List (Option ℕ)) (queue : Queue) (node key : ℕ) → IsRoadMap roads
    → IsSearch roads source 0 labels queue → IsLeast queue node key → IsLeastWeight roads source node key
least_is_weight roads source labels queue node key fits s least = record {
  walked = s.queued node key least.here;
  least = λ walk walked.
      let met = source_meets_queue roads source labels queue fits s node walk walked (s.apart node key least.here) in
      omega (arith, least.least met.node met.key met.here, met.low);
}

-- a label is the travel time
pub label_is_travel : (roads : RoadMap) (source : ℕ) (labels : List (Option ℕ)) (queue : Queue) (node label : ℕ) → IsRoadMap roads
    → IsSearch roads source 0 labels queue → label_of labels node ≡ Some label → travel roads source node ≡ Some label
label_is_travel roads source labels queue node label fits s has =
    travel-is_travel roads source node (Some label) fits (s.settled node label has)

-- with an empty queue a node that is not settled can't be reached
pub nothing_is_left : (roads : RoadMap) (source : ℕ) (labels : List (Option ℕ)) (queue : Queue) (node : ℕ) → IsRoadMap roads
    → IsSearch roads source 0 labels queue → IsEmpty queue → label_of labels node ≡ None → travel roads source node ≡ None
nothing_is_left roads source labels queue node fits s empty none =
    travel-is_travel roads source node None fits (λ walk walked.
    let met = source_meets_queue roads source labels queue fits s node walk walked none in
    let both : Some met.key ≡ None = sym met.here ∙ empty met.node in
    absurd (cc both))

-- the least key is small
pub least_fits : (roads : RoadMap) (source : ℕ) (labels : List (Option ℕ)) (queue : Queue) (node key : ℕ) → IsRoadMap roads
    → IsSearch roads source 0 labels queue → IsLeast queue node key → key ≤ 500000000000000
least_fits roads source labels queue node key fits s least =
    travel-le roads source node key fits
    (travel-is_travel roads source node (Some key) fits (least_is_weight roads source labels queue node key fits s least))

-- the search after its least node was settled, and none of its arcs relaxed
pub search-settled : (roads : RoadMap) (source : ℕ) (labels : List (Option ℕ)) (queue taken : Queue) (node key : ℕ)
    → IsRoadMap roads → IsSearch roads source 0 labels queue → IsLeast queue node key
    → key_of taken node ≡ None → ((other : ℕ) → other ≢ node → key_of taken other ≡ key_of queue other)
    → taken.floor ≡ key → length taken.keys ≡ length queue.keys → IsAboveFloor taken
    → IsSearch roads source node (set labels node (Some key)) taken
search-settled roads source labels queue taken node key fits s least gone others floor size above = record {
  sized = length-set labels node (Some key) ∙ s.sized;
  rooms = size ∙ s.rooms ∙ sym (length-set labels node (Some key));
  settled = λ other label has. elim (set_cases labels node other (Some key) inside) [
    | inl (same, now) ↦
        let one : key ≡ label = same_Some key label (sym now ∙ has) in
        subst (λ n. IsLeastWeight roads source n label) (sym same)
        (subst (λ k. IsLeastWeight roads source node k) one (least_is_weight roads source labels queue node key fits s least))
    | inr (differs, now) ↦ s.settled other label (sym now ∙ has)
  ];
  queued = λ other had has. s.queued other had (sym (others other (not_node other had has)) ∙ has);
  apart = λ other had has. elim (set_cases labels node other (Some key) inside) [
    | inl (same, now) ↦ absurd (not_node other had has same)
    | inr (differs, now) ↦ now ∙ s.apart other had (sym (others other differs) ∙ has)
  ];
  below = λ other label has. elim (set_cases labels node other (Some key) inside) [
    | inl (same, now) ↦
        let one : key ≡ label = same_Some key label (sym now ∙ has) in
        omega (arith, floor, one)
    | inr (differs, now) ↦ omega (arith, floor, s.below other label (sym now ∙ has), s.above node key least.here)
  ];
  above = above;
  begun = reached source 0 s.begun;
  onward = λ other label arc proper has there tail. elim (set_cases labels node other (Some key) inside) [
    | inl (same, now) ↦ absurd (proper same)
    | inr (differs, now) ↦
        reached arc.head (label + arc.seconds)
        (s.onward other label arc (leaves_a_node roads other arc fits there tail) (sym now ∙ has) there tail)
  ];
}
  where
    inside : node < length labels
    inside = omega (arith, key_in-within queue.keys node key least.here, s.rooms)

    not_node : (other had : ℕ) → key_of taken other ≡ Some had → other ≢ node
    not_node other had has same =
        let both : Some had ≡ None = sym has ∙ ap (key_of taken) same ∙ gone in
        absurd (cc both)

    reached : (other limit : ℕ) → IsReached labels queue other limit → IsReached (set labels node (Some key)) taken other limit
    reached other limit (inl (label, is, low)) = elim (set_cases labels node other (Some key) inside) [
      | inl (same, now) ↦
          let both : Some label ≡ None = sym is ∙ ap (label_of labels) same ∙ s.apart node key least.here in
          absurd (cc both)
      | inr (differs, now) ↦ inl (label, now ∙ is, low)
    ]
    reached other limit (inr (had, is, low)) = elim (set_cases labels node other (Some key) inside) [
      | inl (same, now) ↦
          let one : key ≡ had = same_Some key had (sym least.here ∙ ap (key_of queue) (sym same) ∙ is) in
          inl (key, now, omega (arith, one, low))
      | inr (differs, now) ↦ inr (had, others other differs ∙ is, low)
    ]

-- the search after the arcs of the node were relaxed
pub search-relaxed : (roads : RoadMap) (source : ℕ) (labels : List (Option ℕ)) (queue relaxed : Queue) (adjacency : Adjacency) (node label : ℕ)
    → IsRoadMap roads → IsAdjacency roads adjacency → IsSearch roads source node labels queue → label_of labels node ≡ Some label
    → IsRelaxed labels (neighbors_at adjacency node) (length (neighbors_at adjacency node)) label queue relaxed
    → IsSearch roads source 0 labels relaxed
search-relaxed roads source labels queue relaxed adjacency node label fits packed s has r = record {
  sized = s.sized;
  rooms = r.rooms ∙ s.rooms;
  settled = s.settled;
  queued = λ other key is. elim (r.given other key is) [
    | inl old ↦ s.queued other key old
    | inr offered ↦ walk_on other key offered
  ];
  apart = λ other key is. elim (r.given other key is) [
    | inl old ↦ s.apart other key old
    | inr offered ↦ offered.unsettled
  ];
  below = λ other had is. omega (arith, r.floor, s.below other had is);
  above = r.above;
  begun = reached source 0 s.begun;
  onward = λ other had arc proper is there tail. elim (cases_eq other node) [
    | inr differs ↦ reached arc.head (had + arc.seconds) (s.onward other had arc differs is there tail)
    | inl same ↦
        let (place, here) = packed.complete arc there in
        let stands : slice_get (neighbors_at adjacency node) place ≡ Some (neighbor_of arc)
        = ap (λ n. slice_get (neighbors_at adjacency n) place) (sym same ∙ sym tail) ∙ here in
        let one : label ≡ had = same_Some label had (sym has ∙ ap (label_of labels) (sym same) ∙ is) in
        subst (λ l. IsReached labels relaxed arc.head (l + arc.seconds)) one
        (r.reached place (neighbor_of arc) (slice_get_within (neighbors_at adjacency node) place (neighbor_of arc) stands) stands)
  ];
}
  where
    in_map : node ≤ roads.nodes
    in_map = omega (arith, label_within labels node label has, s.sized)

    reached : (other limit : ℕ) → IsReached labels queue other limit → IsReached labels relaxed other limit
    reached other limit (inl settled) = inl settled
    reached other limit (inr (had, is, low)) =
        let (less, now, lower) = r.lowered other had is in
        inr (less, now, omega (arith, lower, low))

    walk_on : (other key : ℕ) → IsOffered labels (neighbors_at adjacency node) (length (neighbors_at adjacency node)) label other key
        → (walk : List RoadArc) × IsWalk roads source other walk × (weight_of walk ≡ key)
    walk_on other key offered =
        let arc : RoadArc = arc_to node offered.neighbor in
        let (walk, walked, weighs) = (s.settled node label has).walked in
        let there = packed.sound node offered.place offered.neighbor in_map offered.here in
        let last : IsWalk roads node other (arc ∷ []) = (there, refl, offered.node_is) in (
          walk ++ (arc ∷ []),
          walk-append roads source node other walk (arc ∷ []) walked last,
          omega (arith, sum_by-append (λ (a : RoadArc). a.seconds) walk (arc ∷ []), weight-cons arc [], weighs, offered.key_is),
        )

-- a search that begins
pub search-begun : (roads : RoadMap) (source : ℕ) (labels : List (Option ℕ)) (queue : Queue)
    → length labels ≡ roads.nodes + 1 → length queue.keys ≡ length labels → ((node : ℕ) → label_of labels node ≡ None)
    → key_of queue source ≡ Some 0 → ((other : ℕ) → other ≢ source → key_of queue other ≡ None) → queue.floor ≡ 0
    → IsSearch roads source 0 labels queue
search-begun roads source labels queue sized rooms none here others floor = record {
  sized = sized;
  rooms = rooms;
  settled = λ node label has. unlabelled node label has;
  queued = λ node key is. elim (cases_eq node source) [
    | inl same ↦
        let zero_is : Some 0 ≡ Some key = sym here ∙ ap (key_of queue) (sym same) ∙ is in
        ([], sym same, same_Some 0 key zero_is)
    | inr differs ↦ (let both : Some key ≡ None = sym is ∙ others node differs in absurd (cc both))
  ];
  apart = λ node key is. none node;
  below = λ node label has. unlabelled node label has;
  above = λ node key is. omega (arith, floor);
  begun = inr (0, here, omega arith);
  onward = λ node label arc proper has there tail. unlabelled node label has;
}
  where
    unlabelled : {P : Type 0} → (node label : ℕ) → label_of labels node ≡ Some label → P
    unlabelled node label has = let both : Some label ≡ None = sym has ∙ none node in absurd (cc both)
