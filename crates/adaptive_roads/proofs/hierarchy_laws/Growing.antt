-- A hierarchy grows: by shortcuts, and by a node that leaves the core.
use Rattle.adaptive_roads.proofs.Common.{◌≡◌, ◌≢◌, ℕ, ◌+◌, ◌<◌, ◌≤◌, ◌⊎◌, inl, inr, sym, ◌∙◌, ap, subst, arith, cases_eq, cases_lt, RoadArc, Reaches, IsRemaining, IsHierarchy, IsApart, IsBypassed, IsRaised, flipped}
use Rattle.adaptive_roads.proofs.hierarchy_laws.Ways.{reaches-arc, reaches-mapped, reaches-carried, reaches-flipped}

-- a map is a hierarchy of itself, of which no node is contracted
pub hierarchy-none : (Road : RoadArc → Type 0) (level : ℕ → ℕ) → ((x y : ℕ) → level x ≡ level y) → IsHierarchy Road Road level 0
hierarchy-none Road level flat = record {
  sound = reaches-arc Road;
  complete = reaches-arc Road;
  distinct = λ x y low same. absurd (omega arith);
  filled = λ k low. absurd (omega arith);
  flat = λ x y _ _. flat x y;
  bypassed = λ node into onward low _ _ _ _ _ _. absurd (omega arith);
}

-- what stays of the way by higher nodes when there are more arcs
remaining-wider : (Link Wider : RoadArc → Type 0) (level : ℕ → ℕ) (bound : ℕ) → ((arc : RoadArc) → Link arc → Wider arc)
    → (arc : RoadArc) → IsRemaining Link level bound arc → IsRemaining Wider level bound arc
remaining-wider Link Wider level bound wider arc (there, tail, head) = (wider arc there, tail, head)

-- shortcuts within the core may be added
pub hierarchy-grown : (Road Link Wider : RoadArc → Type 0) (level : ℕ → ℕ) (core : ℕ) → IsHierarchy Road Link level core
    → ((arc : RoadArc) → Link arc → Wider arc)
    → ((arc : RoadArc) → Wider arc → Link arc ⊎ (Reaches Link arc.tail arc.head arc.seconds × (core ≤ level arc.tail) × (core ≤ level arc.head)))
    → IsHierarchy Road Wider level core
hierarchy-grown Road Link Wider level core h wider new = record {
  sound = λ arc there. elim (new arc there) [
    | inl old ↦ h.sound arc old
    | inr (reaches, _, _) ↦ reaches-carried Link Road arc.tail arc.head arc.seconds h.sound reaches
  ];
  complete = λ arc there. reaches-mapped Link Wider arc.tail arc.head arc.seconds wider (h.complete arc there);
  distinct = h.distinct;
  filled = h.filled;
  flat = h.flat;
  bypassed = λ node into onward low in_there on_there head tail higher highest.
      let old_in : Link into = elim (new into in_there) [
        | inl old ↦ old
        | inr (_, _, high) ↦ absurd (omega (arith, ap level head))
      ] in
      let old_on : Link onward = elim (new onward on_there) [
        | inl old ↦ old
        | inr (_, high, _) ↦ absurd (omega (arith, ap level tail))
      ] in
      reaches-mapped (IsRemaining Link level (level node + 1)) (IsRemaining Wider level (level node + 1)) into.tail onward.head (into.seconds + onward.seconds)
      (remaining-wider Link Wider level (level node + 1) wider)
      (h.bypassed node into onward low old_in old_on head tail higher highest);
}

-- the level of a node that stays in the core is above that of the node that leaves it
raised-above : (level next : ℕ → ℕ) (core node x : ℕ) → ((x y : ℕ) → core ≤ level x → core ≤ level y → level x ≡ level y)
    → core < level node → IsRaised level next core node → x ≢ node → core ≤ level x → core < next x
raised-above level next core node x flat room raised other high = omega (arith, raised.others x other, flat x node high (omega arith))

-- a node keeps at least its level, or is the one that is contracted
raised-at_least : (level next : ℕ → ℕ) (core node x bound : ℕ) → IsRaised level next core node → bound ≤ core → bound ≤ level x → bound ≤ next x
raised-at_least level next core node x bound raised low high =
    elim (cases_eq x node) [
      | inl same ↦ omega (arith, ap next same, raised.its_level)
      | inr other ↦ omega (arith, raised.others x other)
    ]

-- a node that is bypassed may leave the core
pub hierarchy-taken : (Road Link : RoadArc → Type 0) (level next : ℕ → ℕ) (core node : ℕ) → IsHierarchy Road Link level core
    → core < level node → IsRaised level next core node → IsBypassed Link level core node
    → IsHierarchy Road Link next (core + 1)
hierarchy-taken Road Link level next core node h room raised bypassed = record {
  sound = h.sound;
  complete = h.complete;
  distinct = λ x y low same. elim (cases_eq x node) [
    | inl x_is ↦ elim (cases_eq y node) [
      | inl y_is ↦ x_is ∙ sym y_is
      | inr y_other ↦
          let here : next x ≡ core = ap next x_is ∙ raised.its_level in
          elim (cases_lt (level y) core) [
            | inl below ↦ absurd (omega (arith, raised.others y y_other))
            | inr high ↦ absurd (omega (arith, raised-above level next core node y h.flat room raised y_other high))
          ]
    ]
    | inr x_other ↦ elim (cases_eq y node) [
      | inl y_is ↦
          let here : next y ≡ core = ap next y_is ∙ raised.its_level in
          elim (cases_lt (level x) core) [
            | inl below ↦ absurd (omega (arith, raised.others x x_other))
            | inr high ↦ absurd (omega (arith, raised-above level next core node x h.flat room raised x_other high))
          ]
      | inr y_other ↦ h.distinct x y (lower x x_other low) (sym (raised.others x x_other) ∙ same ∙ raised.others y y_other)
    ]
  ];
  filled = λ k low. elim (cases_lt k core) [
    | inl below ↦
        let (x, is) = h.filled k below in
        let other : x ≢ node = λ same. (let at = ap level same in absurd (omega arith)) in
        (x, raised.others x other ∙ is)
    | inr last ↦ (node, omega (arith, raised.its_level))
  ];
  flat = λ x y x_high y_high.
      let x_other : x ≢ node = λ same. absurd (omega (arith, ap next same, raised.its_level)) in
      let y_other : y ≢ node = λ same. absurd (omega (arith, ap next same, raised.its_level)) in
      raised.others x x_other ∙ h.flat x y (omega (arith, raised.others x x_other)) (omega (arith, raised.others y y_other)) ∙ sym (raised.others y y_other);
  bypassed = λ x into onward low in_there on_there head tail higher highest. elim (cases_eq x node) [
    | inl same ↦
        let here : next x ≡ core = ap next same ∙ raised.its_level in
        let in_other : into.tail ≢ node = λ e. absurd (omega (arith, ap next e, raised.its_level)) in
        let on_other : onward.head ≢ node = λ e. absurd (omega (arith, ap next e, raised.its_level)) in
        let in_head : level into.head ≡ level node = ap level (head ∙ same) in
        let on_tail : level onward.tail ≡ level node = ap level (tail ∙ same) in
        reaches-mapped (IsApart Link level core node) (IsRemaining Link next (next x + 1)) into.tail onward.head (into.seconds + onward.seconds)
        (λ arc apart. apart_remains x here arc apart)
        (bypassed into onward
        (in_there, omega (arith, raised.others into.tail in_other), omega (arith, in_head))
        (on_there, omega (arith, on_tail), omega (arith, raised.others onward.head on_other))
        (head ∙ same) (tail ∙ same) in_other on_other)
    | inr other ↦
        let its : next x ≡ level x = raised.others x other in
        let below = lower x other low in
        reaches-mapped (IsRemaining Link level (level x + 1)) (IsRemaining Link next (next x + 1)) into.tail onward.head (into.seconds + onward.seconds)
        (λ arc remains. (
          remains.0,
          omega (arith, its, raised-at_least level next core node arc.tail (level x + 1) raised (omega arith) remains.1),
          omega (arith, its, raised-at_least level next core node arc.head (level x + 1) raised (omega arith) remains.2),
        ))
        (h.bypassed x into onward below in_there on_there head tail (above x other low into.tail higher) (above x other low onward.head highest))
  ];
}
  where
    -- another node that is below the next core was below the last
    lower : (x : ℕ) → x ≢ node → next x < core + 1 → level x < core
    lower x other low = elim (cases_lt (level x) core) [
      | inl below ↦ below
      | inr high ↦ absurd (omega (arith, raised-above level next core node x h.flat room raised other high))
    ]

    above : (x : ℕ) → x ≢ node → next x < core + 1 → (y : ℕ) → next x < next y → level x < level y
    above x other low y higher = elim (cases_eq y node) [
      | inl same ↦ omega (arith, ap level same, lower x other low)
      | inr differs ↦ omega (arith, raised.others y differs, raised.others x other)
    ]

    apart_remains : (x : ℕ) → next x ≡ core → (arc : RoadArc) → IsApart Link level core node arc → IsRemaining Link next (next x + 1) arc
    apart_remains x here arc (remains, tail, head) = (
      remains.0,
      omega (arith, raised-above level next core node arc.tail h.flat room raised tail remains.1),
      omega (arith, raised-above level next core node arc.head h.flat room raised head remains.2),
    )

-- a hierarchy turned round is one of the map turned round
pub hierarchy-flipped : (Road Link Back Chain : RoadArc → Type 0) (level : ℕ → ℕ) (core : ℕ) → IsHierarchy Road Link level core
    → ((arc : RoadArc) → Road arc → Back (flipped arc)) → ((arc : RoadArc) → Back arc → Road (flipped arc))
    → ((arc : RoadArc) → Link arc → Chain (flipped arc)) → ((arc : RoadArc) → Chain arc → Link (flipped arc))
    → IsHierarchy Back Chain level core
hierarchy-flipped Road Link Back Chain level core h road_back back_road link_back back_link = record {
  sound = λ arc there. reaches-flipped Road Back arc.head arc.tail arc.seconds road_back (h.sound (flipped arc) (back_link arc there));
  complete = λ arc there. reaches-flipped Link Chain arc.head arc.tail arc.seconds link_back (h.complete (flipped arc) (back_road arc there));
  distinct = h.distinct;
  filled = h.filled;
  flat = h.flat;
  bypassed = λ node into onward low in_there on_there head tail higher highest.
      let back = h.bypassed node (flipped onward) (flipped into) low (back_link onward on_there) (back_link into in_there) tail head highest higher in
      let total : onward.seconds + into.seconds ≡ into.seconds + onward.seconds = omega arith in
      subst (λ w. Reaches (IsRemaining Chain level (level node + 1)) into.tail onward.head w) total
      (reaches-flipped (IsRemaining Link level (level node + 1)) (IsRemaining Chain level (level node + 1)) onward.head into.tail (onward.seconds + into.seconds)
      (λ arc remains. (link_back arc remains.0, remains.2, remains.1)) back);
}
