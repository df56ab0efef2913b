-- The queue while the arcs of a node are relaxed.
use Rattle.road_times.proofs.Common.{◌≡◌, ◌≢◌, ℕ, ◌+◌, ◌≤◌, ◌⊎◌, inl, inr, List, length, refl, sym, ◌∙◌, ap, subst, arith, Option, Some, None, slice_get, cases_eq, cases_lt, same_Some, Queue, key_of, lesser_key, IsAboveFloor, Neighbor, label_of, IsReached, IsOffered, IsRelaxed}

offered-more : (labels : List (Option ℕ)) (neighbors : List Neighbor) (count label node key : ℕ)
    → IsOffered labels neighbors count label node key → IsOffered labels neighbors (count + 1) label node key
offered-more labels neighbors count label node key o = record {
  place = o.place;
  neighbor = o.neighbor;
  before = omega (arith, o.before);
  here = o.here;
  node_is = o.node_is;
  key_is = o.key_is;
  unsettled = o.unsettled;
}

-- an arc to a node that is settled
pub relaxed-settled : (labels : List (Option ℕ)) (neighbors : List Neighbor) (count label : ℕ) (old now : Queue) (neighbor : Neighbor)
    → IsRelaxed labels neighbors count label old now → slice_get neighbors count ≡ Some neighbor → (had : ℕ)
    → label_of labels neighbor.node ≡ Some had → had ≤ label → IsRelaxed labels neighbors (count + 1) label old now
relaxed-settled labels neighbors count label old now neighbor r here had has low = record {
  reached = λ place other before stands. elim (cases_eq place count) [
    | inl same ↦
        let one : neighbor ≡ other = same_Some neighbor other (sym here ∙ ap (slice_get neighbors) (sym same) ∙ stands) in
        subst (λ (n : Neighbor). IsReached labels now n.node (label + n.seconds)) one (inl (had, has, omega (arith, low)))
    | inr differs ↦ r.reached place other (omega arith) stands
  ];
  lowered = r.lowered;
  given = λ node key is. elim (r.given node key is) [
    | inl old_is ↦ inl old_is
    | inr offered ↦ inr (offered-more labels neighbors count label node key offered)
  ];
  floor = r.floor;
  rooms = r.rooms;
  above = r.above;
}

-- an arc whose end was put in, or lowered
pub relaxed-put : (labels : List (Option ℕ)) (neighbors : List Neighbor) (count label : ℕ) (old now next : Queue) (neighbor : Neighbor)
    → IsRelaxed labels neighbors count label old now → slice_get neighbors count ≡ Some neighbor
    → label_of labels neighbor.node ≡ None
    → key_of next neighbor.node ≡ Some (lesser_key (key_of now neighbor.node) (label + neighbor.seconds))
    → ((other : ℕ) → other ≢ neighbor.node → key_of next other ≡ key_of now other)
    → next.floor ≡ now.floor → length next.keys ≡ length now.keys → IsAboveFloor next
    → IsRelaxed labels neighbors (count + 1) label old next
relaxed-put labels neighbors count label old now next neighbor r here unsettled put others floor rooms above = record {
  reached = λ place other before stands. elim (cases_eq place count) [
    | inl same ↦
        let one : neighbor ≡ other = same_Some neighbor other (sym here ∙ ap (slice_get neighbors) (sym same) ∙ stands) in
        subst (λ (n : Neighbor). IsReached labels next n.node (label + n.seconds)) one
        (inr (lesser_key (key_of now neighbor.node) key, put, lesser-le (key_of now neighbor.node)))
    | inr differs ↦ kept other.node (label + other.seconds) (r.reached place other (omega arith) stands)
  ];
  lowered = λ node had is.
      let (less, now_is, low) = r.lowered node had is in
      let (lesser, next_is, lower) = falls node less now_is in
      (lesser, next_is, omega (arith, low, lower));
  given = λ node had is. elim (cases_eq node neighbor.node) [
    | inr differs ↦ earlier node had (sym (others node differs) ∙ is)
    | inl same ↦ at_neighbor node had same (key_of now neighbor.node) refl (same_Some _ _ (sym put ∙ ap (key_of next) (sym same) ∙ is))
  ];
  floor = floor ∙ r.floor;
  rooms = rooms ∙ r.rooms;
  above = above;
}
  where
    key : ℕ
    key = label + neighbor.seconds

    lesser-le : (o : Option ℕ) → lesser_key o key ≤ key
    lesser-le None = omega arith
    lesser-le (Some had) = omega arith

    lesser-falls : (o : Option ℕ) (had : ℕ) → o ≡ Some had → lesser_key o key ≤ had
    lesser-falls None had e = cc e
    lesser-falls (Some h) had e = let one : h ≡ had = same_Some h had e in omega (arith, one)

    falls : (node had : ℕ) → key_of now node ≡ Some had → (less : ℕ) × (key_of next node ≡ Some less) × (less ≤ had)
    falls node had is = elim (cases_eq node neighbor.node) [
      | inl same ↦ (
        lesser_key (key_of now neighbor.node) key,
        ap (key_of next) same ∙ put,
        lesser-falls (key_of now neighbor.node) had (ap (key_of now) (sym same) ∙ is),
      )
      | inr differs ↦ (had, others node differs ∙ is, omega arith)
    ]

    kept : (node limit : ℕ) → IsReached labels now node limit → IsReached labels next node limit
    kept node limit (inl settled) = inl settled
    kept node limit (inr (had, is, low)) =
        let (less, next_is, lower) = falls node had is in
        inr (less, next_is, omega (arith, low, lower))

    earlier : (node had : ℕ) → key_of now node ≡ Some had → (key_of old node ≡ Some had) ⊎ IsOffered labels neighbors (count + 1) label node had
    earlier node had is = elim (r.given node had is) [
      | inl old_is ↦ inl old_is
      | inr offered ↦ inr (offered-more labels neighbors count label node had offered)
    ]

    offered : (node had : ℕ) → node ≡ neighbor.node → key ≡ had → IsOffered labels neighbors (count + 1) label node had
    offered node had same is = record {
      place = count;
      neighbor = neighbor;
      before = omega arith;
      here = here;
      node_is = sym same;
      key_is = is;
      unsettled = ap (label_of labels) same ∙ unsettled;
    }

    at_neighbor : (node had : ℕ) → node ≡ neighbor.node → (o : Option ℕ) → key_of now neighbor.node ≡ o → lesser_key o key ≡ had
        → (key_of old node ≡ Some had) ⊎ IsOffered labels neighbors (count + 1) label node had
    at_neighbor node had same None o_is is = inr (offered node had same is)
    at_neighbor node had same (Some h) o_is is = elim (cases_lt h key) [
      | inl lt ↦
          let one : h ≡ had = omega (arith, is, lt) in
          earlier node had (ap (key_of now) same ∙ o_is ∙ ap Some one)
      | inr ge ↦ inr (offered node had same (omega (arith, is, ge)))
    ]
