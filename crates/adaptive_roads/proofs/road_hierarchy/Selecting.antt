-- Nodes are selected one by one, the highest first.
use Rattle.adaptive_roads.proofs.Common.{◌≡◌, ◌≢◌, ℕ, zero, suc, ◌+◌, ◌<◌, ◌≤◌, inl, inr, Bool, true, false, eqb, List, [], ◌∷◌, ◌++◌, length, get_or, set, refl, sym, ◌∙◌, ap, subst, arith, map, list_any, IsDistinct, cases_eq, cases_lt, eqb-true, ne_eqb, get_or_append_left, get_or_push, length_push, get_or-map, length-map, get_or-set_same, get_or-set_other, length-set, same_lists, get_or_default, IsDistinct-from_apart, length-le_from_distinct_below, Contains-from_any, RoadArc, IsFalling, Step, IsIn, AreParts, node_at, no_step, step_at, arc_of, IsFree, IsSelecting}
use Rattle.adaptive_roads.proofs.road_hierarchy.Parts.{parts-added, in-before, in-after, in-last, last-in, in-within}

-- the steps behind the first so many are the arcs that lead down to a node, from nodes that are selected
pub record AreNewSteps (Link : RoadArc → Type 0) (level : ℕ → ℕ) (nodes : List ℕ) (node first : ℕ) (steps : List Step) : Type 0 where
  pub earlier : (k : ℕ) → first ≤ k → k < length steps → (step_at steps k).place < length nodes
  pub sound : (k : ℕ) → first ≤ k → k < length steps
      → IsFalling Link level (record { tail = node_at nodes (step_at steps k).place; head = node; seconds = (step_at steps k).seconds })
  pub complete : (arc : RoadArc) → IsFalling Link level arc → arc.head ≡ node
      → (k : ℕ) × (first ≤ k) × (k < length steps) × (node_at nodes (step_at steps k).place ≡ arc.tail) × ((step_at steps k).seconds ≡ arc.seconds)

pub same-arc : (a b c x y z : ℕ) → a ≡ x → b ≡ y → c ≡ z
    → ◌≡◌ {A = RoadArc} (record { tail = a; head = b; seconds = c }) (record { tail = x; head = y; seconds = z })
same-arc a b c x y z p q r =
    ap (λ (n : ℕ). let arc : RoadArc = record { tail = n; head = b; seconds = c } in arc) p
    ∙ ap (λ (n : ℕ). let arc : RoadArc = record { tail = x; head = n; seconds = c } in arc) q
    ∙ ap (λ (n : ℕ). let arc : RoadArc = record { tail = x; head = y; seconds = n } in arc) r

-- one node more
pub selecting-added : (Link : RoadArc → Type 0) (level : ℕ → ℕ) (count : ℕ) (marks : List Bool) (IsDone IsNext : ℕ → Type 0)
    (nodes starts : List ℕ) (steps more : List Step) (places : List ℕ) (node : ℕ)
    → IsSelecting Link level count marks IsDone nodes starts steps places
    → 1 ≤ node → node < count → (IsDone node → ⊥)
    → length steps ≤ length more → ((k : ℕ) → k < length steps → step_at more k ≡ step_at steps k)
    → AreNewSteps Link level nodes node (length steps) more
    → IsNext node → ((x : ℕ) → IsDone x → IsNext x) → ((x : ℕ) → IsFree count marks x → x ≢ node → IsNext x → IsDone x)
    → IsSelecting Link level count marks IsNext (nodes ++ node ∷ []) (starts ++ length more ∷ []) more (set places node (length nodes))
selecting-added Link level count marks IsDone IsNext nodes starts steps more places node s some low undone longer same new next wider others = record {
  room = length-set places node (length nodes) ∙ s.room;
  parts = subst (λ n. AreParts n (starts ++ length more ∷ []) (length more)) (sym grown)
      (parts-added (length nodes) starts (length steps) (length more) s.parts longer);
  earlier = λ place k below at. elim (cases_lt place (length nodes)) [
    | inl earlier ↦
        let had = in-before (length nodes) starts (length steps) (length more) s.parts place k earlier at in
        let within = in-within (length nodes) starts (length steps) s.parts place k earlier had in
        omega (arith, ap (λ (t : Step). t.place) (same k within), s.earlier place k earlier had)
    | inr last ↦
        let (from, to) = in-last (length nodes) starts (length steps) (length more) s.parts k (at_last place k below last at) in
        omega (arith, new.earlier k from to)
  ];
  steps_of = record {
    sound = λ place k below at. elim (cases_lt place (length nodes)) [
      | inl earlier ↦
          let had = in-before (length nodes) starts (length steps) (length more) s.parts place k earlier at in
          subst (IsFalling Link level) (sym (old-arc place k earlier had)) (s.steps_of.sound place k earlier had)
      | inr last ↦
          let (from, to) = in-last (length nodes) starts (length steps) (length more) s.parts k (at_last place k below last at) in
          subst (IsFalling Link level)
          (sym (same-arc _ _ _ _ _ _ (before (step_at more k).place (new.earlier k from to)) (here place below last) refl))
          (new.sound k from to)
    ];
    complete = λ place arc below falls head. elim (cases_lt place (length nodes)) [
      | inl earlier ↦
          let (k, at, is) = s.steps_of.complete place arc earlier falls (head ∙ before place earlier) in
          (k, in-after (length nodes) starts (length steps) (length more) s.parts place k earlier at, old-arc place k earlier at ∙ is)
      | inr last ↦
          let to_node : arc.head ≡ node = head ∙ here place below last in
          let (k, from, to, tail, seconds) = new.complete arc falls to_node in (
            k,
            subst (λ p. IsIn (starts ++ length more ∷ []) p k) (sym (last_place place below last))
                (last-in (length nodes) starts (length steps) (length more) s.parts k from to),
            same-arc _ _ _ _ _ _ (before (step_at more k).place (new.earlier k from to) ∙ tail) (sym head) seconds,
          )
    ];
  };
  inside = λ place below. elim (cases_lt place (length nodes)) [
    | inl earlier ↦ (let (one, high) = s.inside place earlier in (omega (arith, before place earlier), omega (arith, before place earlier)))
    | inr last ↦ (omega (arith, here place below last), omega (arith, here place below last))
  ];
  only = λ place below. elim (cases_lt place (length nodes)) [
    | inl earlier ↦ subst IsNext (sym (before place earlier)) (wider (node_at nodes place) (s.only place earlier))
    | inr last ↦ subst IsNext (sym (here place below last)) next
  ];
  placed = λ place below. elim (cases_lt place (length nodes)) [
    | inl earlier ↦
        let apart : node_at nodes place ≢ node = λ e. undone (subst IsDone e (s.only place earlier)) in
        ap (node_at (set places node (length nodes))) (before place earlier)
        ∙ get_or-set_other places node (node_at nodes place) (length nodes) 0 apart
        ∙ s.placed place earlier
    | inr last ↦ ap (node_at (set places node (length nodes))) (here place below last) ∙ its_place ∙ sym (last_place place below last)
  ];
  done = λ x free is. elim (cases_eq x node) [
    | inl at ↦
        let place_is : node_at (set places node (length nodes)) x ≡ length nodes = ap (node_at (set places node (length nodes))) at ∙ its_place in (
          omega (arith, place_is, grown),
          ap (node_at (nodes ++ node ∷ [])) place_is ∙ get_or_push nodes node 0 (length nodes) refl ∙ sym at,
        )
    | inr differs ↦
        let (place_low, node_is) = s.done x free (others x free differs is) in
        let place_is : node_at (set places node (length nodes)) x ≡ node_at places x = get_or-set_other places node x (length nodes) 0 differs in (
          omega (arith, place_is, grown, place_low),
          ap (node_at (nodes ++ node ∷ [])) place_is ∙ before (node_at places x) place_low ∙ node_is,
        )
  ];
}
  where
    grown : length (nodes ++ node ∷ []) ≡ length nodes + 1
    grown = length_push nodes node

    before : (place : ℕ) → place < length nodes → node_at (nodes ++ node ∷ []) place ≡ node_at nodes place
    before place below = get_or_append_left nodes (node ∷ []) 0 place below

    last_place : (place : ℕ) → place < length (nodes ++ node ∷ []) → length nodes ≤ place → place ≡ length nodes
    last_place place below last = omega (arith, grown)

    here : (place : ℕ) → place < length (nodes ++ node ∷ []) → length nodes ≤ place → node_at (nodes ++ node ∷ []) place ≡ node
    here place below last = get_or_push nodes node 0 place (sym (last_place place below last))

    at_last : (place k : ℕ) → place < length (nodes ++ node ∷ []) → length nodes ≤ place → IsIn (starts ++ length more ∷ []) place k
        → IsIn (starts ++ length more ∷ []) (length nodes) k
    at_last place k below last at = subst (λ p. IsIn (starts ++ length more ∷ []) p k) (last_place place below last) at

    its_place : node_at (set places node (length nodes)) node ≡ length nodes
    its_place = get_or-set_same places node (length nodes) 0 (omega (arith, s.room))

    old-arc : (place k : ℕ) → place < length nodes → IsIn starts place k
        → arc_of (nodes ++ node ∷ []) more place k ≡ arc_of nodes steps place k
    old-arc place k earlier at =
        let within = in-within (length nodes) starts (length steps) s.parts place k earlier at in
        let step = same k within in
        let from = s.earlier place k earlier at in
        same-arc _ _ _ _ _ _
        (ap (λ (t : Step). node_at (nodes ++ node ∷ []) t.place) step ∙ before (step_at steps k).place (omega arith))
        (before place earlier)
        (ap (λ (t : Step). t.seconds) step)

-- the steps stay when more are appended
pub steps-kept : (steps added more : List Step) → more ≡ steps ++ added → (k : ℕ) → k < length steps → step_at more k ≡ step_at steps k
steps-kept steps added more is k low = ap (λ ts. step_at ts k) is ∙ get_or_append_left steps added no_step k low

-- distinct nodes, of which none is 0, are fewer than the count
pub selecting-few : (Link : RoadArc → Type 0) (level : ℕ → ℕ) (count : ℕ) (marks : List Bool) (IsDone : ℕ → Type 0)
    (nodes starts : List ℕ) (steps : List Step) (places : List ℕ)
    → IsSelecting Link level count marks IsDone nodes starts steps places → 1 ≤ count → length nodes + 1 ≤ count
selecting-few Link level count marks IsDone nodes starts steps places s some =
    let few : suc (length nodes) ≤ count = length-le_from_distinct_below (0 ∷ nodes) count distinct below in
    omega arith
  where
    apart : (i j d : ℕ) → i < j → j < length (0 ∷ nodes) → eqb (get_or (0 ∷ nodes) i d) (get_or (0 ∷ nodes) j d) ≡ false
    apart i zero d less low = absurd (omega arith)
    apart zero (suc j) d less low =
        let (one, _) = s.inside j (omega arith) in
        ne_eqb 0 (get_or nodes j d) (λ e. absurd (omega (arith, e, get_or_default nodes j d 0 (omega arith), one)))
    apart (suc i) (suc j) d less low =
        let first = s.placed i (omega arith) in
        let second = s.placed j (omega arith) in
        ne_eqb (get_or nodes i d) (get_or nodes j d) (λ e.
        let same : node_at nodes i ≡ node_at nodes j
        = sym (get_or_default nodes i d 0 (omega arith)) ∙ e ∙ get_or_default nodes j d 0 (omega arith) in
        absurd (omega (arith, first, second, ap (node_at places) same)))

    distinct : IsDistinct eqb (0 ∷ nodes)
    distinct = IsDistinct-from_apart eqb (0 ∷ nodes) apart

    within : (q k : ℕ) → k < length (0 ∷ nodes) → get_or (0 ∷ nodes) k q ≡ q → q < count
    within q zero low is = omega (arith, is)
    within q (suc k) low is =
        let (_, high) = s.inside k (omega arith) in
        omega (arith, is, get_or_default nodes k q 0 (omega arith))

    below : (q : ℕ) → list_any (eqb q) (0 ∷ nodes) ≡ true → q < count
    below q is =
        let (k, low, at) = Contains-from_any {eq = eqb} (λ x y same. eqb-true x y same) q (0 ∷ nodes) is in
        within q k low at

-- the places of wanted nodes are those of the nodes
pub wanted-read : (nodes places wanted : List ℕ) → ((place : ℕ) → place < length wanted → node_at nodes (node_at places (node_at wanted place)) ≡ node_at wanted place)
    → map (node_at nodes) (map (node_at places) wanted) ≡ wanted
wanted-read nodes places wanted reads =
    same_lists (map (node_at nodes) (map (node_at places) wanted)) wanted
    (length-map (map (node_at places) wanted) (node_at nodes) ∙ length-map wanted (node_at places))
    (λ k d low.
    let k_low : k < length wanted = omega (arith, length-map (map (node_at places) wanted) (node_at nodes), length-map wanted (node_at places)) in
    get_or-map (node_at nodes) (map (node_at places) wanted) k 0 d (omega (arith, length-map wanted (node_at places)))
    ∙ ap (node_at nodes) (get_or-map (node_at places) wanted k 0 0 k_low)
    ∙ reads k k_low
    ∙ get_or_default wanted k 0 d k_low)
