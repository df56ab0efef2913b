-- Up and down reach every pair, by the highest node of a way.
use Rattle.adaptive_roads.proofs.Common.{◌≡◌, ◌≢◌, ℕ, zero, suc, ◌+◌, ◌-◌, ◌<◌, ◌≤◌, inl, inr, List, [], ◌∷◌, refl, sym, ◌∙◌, ap, subst, arith, cases_eq, cases_lt, RoadArc, weight_of, weight-cons, IsWay, Reaches, IsRemaining, IsRising, IsFalling, IsHierarchy, IsUpDown}
use Rattle.adaptive_roads.proofs.hierarchy_laws.Ways.{reaches-same, reaches-more, reaches-append, reaches-mapped, reaches-before, reaches-behind, way-mapped}

-- A way among the nodes from a level upward, to a node above that level, has one by nodes above it: if it begins above the
-- level, and behind an arc from above it that leads to the node of the level.
raised : (Road Link : RoadArc → Type 0) (level : ℕ → ℕ) (core node : ℕ) → IsHierarchy Road Link level core → level node < core
    → (x y : ℕ) (way : List RoadArc) → level node < level y → IsWay (IsRemaining Link level (level node)) x y way
    → (level node < level x → Reaches (IsRemaining Link level (level node + 1)) x y (weight_of way))
    × ((into : RoadArc) → Link into → into.head ≡ node → level node < level into.tail → x ≡ node
    → Reaches (IsRemaining Link level (level node + 1)) into.tail y (into.seconds + weight_of way))
raised Road Link level core node h low x y [] y_high same = (
  λ x_high. reaches-same _ x y 0 same,
  λ into there head high is. absurd (omega (arith, ap level (sym is ∙ same))),
)
raised Road Link level core node h low x y (arc ∷ way) y_high (there, tail, rest) =
    let (from_above, behind) = raised Road Link level core node h low arc.head y way y_high rest in
    elim (cases_lt (level node) (level arc.head)) [
      | inl higher ↦ (
        λ x_high.
            reaches-before (IsRemaining Link level (level node + 1)) arc x y (weight_of way) (weight_of (arc ∷ way)) tail (omega (arith, weight-cons arc way))
            (there.0, omega (arith, ap level tail), omega arith) (from_above higher),
        λ into in_there in_head in_high is.
            reaches-append (IsRemaining Link level (level node + 1)) into.tail arc.head y (into.seconds + arc.seconds) (weight_of way) (into.seconds + weight_of (arc ∷ way))
            (omega (arith, weight-cons arc way))
            (h.bypassed node into arc low in_there there.0 in_head (tail ∙ is) in_high higher) (from_above higher),
      )
      | inr not_higher ↦
          let at : level node ≡ level arc.head = omega (arith, there.2) in
          let here : arc.head ≡ node = sym (h.distinct node arc.head low at) in (
            λ x_high.
                subst (λ n. Reaches (IsRemaining Link level (level node + 1)) n y (weight_of (arc ∷ way))) tail
                (reaches-more _ arc.tail y (arc.seconds + weight_of way) (weight_of (arc ∷ way)) (omega (arith, weight-cons arc way))
                (behind arc there.0 here (omega (arith, ap level tail)) here)),
            λ into in_there in_head in_high is.
                reaches-more _ into.tail y (into.seconds + weight_of way) (into.seconds + weight_of (arc ∷ way)) (omega (arith, weight-cons arc way))
                (behind into in_there in_head in_high here),
          )
    ]

-- A way has one among the nodes from each level upward that its ends are not below.
lifted : (Road Link : RoadArc → Type 0) (level : ℕ → ℕ) (core : ℕ) → IsHierarchy Road Link level core
    → (bound x y limit : ℕ) → bound ≤ core → bound ≤ level x → bound ≤ level y → Reaches Link x y limit
    → Reaches (IsRemaining Link level bound) x y limit
lifted Road Link level core h zero x y limit within x_high y_high r =
    reaches-mapped Link (IsRemaining Link level 0) x y limit (λ arc there. (there, omega arith, omega arith)) r
lifted Road Link level core h (suc bound) x y limit within x_high y_high r =
    let before = lifted Road Link level core h bound x y limit (omega arith) (omega arith) (omega arith) r in
    let (node, is) = h.filled bound (omega arith) in
    let walked = subst (λ k. IsWay (IsRemaining Link level k) x y before.way) (sym is) before.walked in
    let (from_above, _) = raised Road Link level core node h (omega (arith, is)) x y before.way (omega (arith, is)) walked in
    let next : level node + 1 ≡ suc bound = omega (arith, is) in
    subst (λ k. Reaches (IsRemaining Link level k) x y limit) next
    (reaches-more _ x y (weight_of before.way) limit before.lighter (from_above (omega (arith, is))))

-- the first arc of a way that leads up from its beginning, and the rest
record LeadsUp (Link : RoadArc → Type 0) (level : ℕ → ℕ) (x y limit : ℕ) : Type 0 where
  arc : RoadArc
  there : Link arc
  tail : arc.tail ≡ x
  higher : level x < level arc.head
  rest : ℕ
  onward : Reaches Link arc.head y rest
  lighter : arc.seconds + rest ≤ limit

-- a way to a higher node among nodes that are no lower than its beginning leads up
leads_up : (Road Link : RoadArc → Type 0) (level : ℕ → ℕ) (core bound : ℕ) → IsHierarchy Road Link level core
    → (x y : ℕ) (way : List RoadArc) → level x < core → level x ≡ bound → level x < level y → IsWay (IsRemaining Link level bound) x y way
    → LeadsUp Link level x y (weight_of way)
leads_up Road Link level core bound h x y [] low at higher same = absurd (omega (arith, ap level same))
leads_up Road Link level core bound h x y (arc ∷ way) low at higher (there, tail, rest) =
    elim (cases_lt (level x) (level arc.head)) [
      | inl up ↦ record {
        arc = arc;
        there = there.0;
        tail = tail;
        higher = up;
        rest = weight_of way;
        onward = record { way = way; walked = way-mapped _ Link arc.head y way (λ a r. r.0) rest; lighter = omega arith };
        lighter = omega (arith, weight-cons arc way);
      }
      | inr not_up ↦
          let same : x ≡ arc.head = h.distinct x arc.head low (omega (arith, there.2)) in
          let later = leads_up Road Link level core bound h x y way low at higher (subst (λ n. IsWay (IsRemaining Link level bound) n y way) (sym same) rest) in
          record {
            arc = later.arc;
            there = later.there;
            tail = later.tail;
            higher = later.higher;
            rest = later.rest;
            onward = later.onward;
            lighter = omega (arith, later.lighter, weight-cons arc way);
          }
    ]

-- an arc of a way that leads down to its end, and what is before
record LeadsDown (Link : RoadArc → Type 0) (level : ℕ → ℕ) (x y limit : ℕ) : Type 0 where
  arc : RoadArc
  there : Link arc
  head : arc.head ≡ y
  higher : level y < level arc.tail
  front : ℕ
  before : Reaches Link x arc.tail front
  lighter : front + arc.seconds ≤ limit

-- a way from a higher node among nodes that are no lower than its end leads down
leads_down : (Road Link : RoadArc → Type 0) (level : ℕ → ℕ) (core bound : ℕ) → IsHierarchy Road Link level core
    → (x y : ℕ) (way : List RoadArc) → level y < core → level y ≡ bound → level y < level x → IsWay (IsRemaining Link level bound) x y way
    → LeadsDown Link level x y (weight_of way)
leads_down Road Link level core bound h x y [] low at higher same = absurd (omega (arith, ap level same))
leads_down Road Link level core bound h x y (arc ∷ way) low at higher (there, tail, rest) =
    elim (cases_lt (level y) (level arc.head)) [
      | inl up ↦
          let later = leads_down Road Link level core bound h arc.head y way low at up rest in
          record {
            arc = later.arc;
            there = later.there;
            head = later.head;
            higher = later.higher;
            front = arc.seconds + later.front;
            before = reaches-before Link arc x later.arc.tail later.front (arc.seconds + later.front) tail (omega arith) there.0 later.before;
            lighter = omega (arith, later.lighter, weight-cons arc way);
          }
      | inr not_up ↦ record {
        arc = arc;
        there = there.0;
        head = sym (h.distinct y arc.head low (omega (arith, there.2)));
        higher = omega (arith, ap level tail);
        front = 0;
        before = reaches-same Link x arc.tail 0 (sym tail);
        lighter = omega (arith, weight-cons arc way);
      }
    ]

-- the way up and down after an arc up, and before an arc down
up_down-before : (Link : RoadArc → Type 0) (level : ℕ → ℕ) (x y limit : ℕ) (up : LeadsUp Link level x y limit)
    → IsUpDown Link level up.arc.head y up.rest → IsUpDown Link level x y limit
up_down-before Link level x y limit up on = record {
  peak = on.peak;
  climb = up.arc.seconds + on.climb;
  descent = on.descent;
  rises = reaches-before (IsRising Link level) up.arc x on.peak on.climb (up.arc.seconds + on.climb) up.tail (omega arith)
      (up.there, omega (arith, ap level up.tail, up.higher)) on.rises;
  falls = on.falls;
  lighter = omega (arith, on.lighter, up.lighter);
}

pub up_down-behind : (Link : RoadArc → Type 0) (level : ℕ → ℕ) (x y front limit : ℕ) (arc : RoadArc) → IsFalling Link level arc
    → arc.head ≡ y → front + arc.seconds ≤ limit → IsUpDown Link level x arc.tail front → IsUpDown Link level x y limit
up_down-behind Link level x y front limit arc falls head below on = record {
  peak = on.peak;
  climb = on.climb;
  descent = on.descent + arc.seconds;
  rises = on.rises;
  falls = reaches-behind (IsFalling Link level) arc on.peak y on.descent (on.descent + arc.seconds) head (omega arith) falls on.falls;
  lighter = omega (arith, on.lighter);
}

-- how far the ends are below the core
abbrev depth : ℕ → ℕ → ℕ
depth core k = core - k

-- a way has one up and down, if each way has whose ends are higher together
climbs-by : (Road Link : RoadArc → Type 0) (level : ℕ → ℕ) (core : ℕ) → IsHierarchy Road Link level core → (most : ℕ)
    → ((x y limit : ℕ) → depth core (level x) + depth core (level y) < most → Reaches Link x y limit → IsUpDown Link level x y limit)
    → (x y limit : ℕ) → depth core (level x) + depth core (level y) ≤ most → Reaches Link x y limit → IsUpDown Link level x y limit
climbs-by Road Link level core h most higher_ends x y limit fuel r =
    elim (cases_eq x y) [
      | inl same ↦ record {
        peak = y;
        climb = 0;
        descent = 0;
        rises = reaches-same _ x y 0 same;
        falls = reaches-same _ y y 0 refl;
        lighter = omega arith;
      }
      | inr differ ↦ elim (cases_lt (level x) core) [
        | inl x_low ↦ elim (cases_lt (level y) (level x)) [
          | inl y_lower ↦ lower_end y_lower (omega arith)
          | inr y_higher ↦
              let apart : level x ≢ level y = λ same. absurd (differ (h.distinct x y x_low same)) in
              let among = lifted Road Link level core h (level x) x y limit (omega arith) (omega arith) (omega arith) r in
              let first = leads_up Road Link level core (level x) h x y among.way x_low refl (omega (arith, apart)) among.walked in
              let up : LeadsUp Link level x y limit = record {
                arc = first.arc;
                there = first.there;
                tail = first.tail;
                higher = first.higher;
                rest = first.rest;
                onward = first.onward;
                lighter = omega (arith, first.lighter, among.lighter);
              } in
              climb_on x_low up
        ]
        | inr x_core ↦ elim (cases_lt (level y) core) [
          | inl y_low ↦ lower_end (omega arith) y_low
          | inr y_core ↦
              let among = lifted Road Link level core h core x y limit (omega arith) x_core y_core r in
              record {
                peak = y;
                climb = limit;
                descent = 0;
                rises = reaches-mapped (IsRemaining Link level core) (IsRising Link level) x y limit
                    (λ arc remains. (remains.0, omega (arith, h.flat arc.tail arc.head remains.1 remains.2))) among;
                falls = reaches-same _ y y 0 refl;
                lighter = omega arith;
              }
        ]
      ]
    ]
  where
    climb_on : level x < core → (up : LeadsUp Link level x y limit) → IsUpDown Link level x y limit
    climb_on low up = up_down-before Link level x y limit up (higher_ends up.arc.head y up.rest (omega (arith, up.higher)) up.onward)

    lower_end : level y < level x → level y < core → IsUpDown Link level x y limit
    lower_end lower low =
        let among = lifted Road Link level core h (level y) x y limit (omega arith) (omega arith) (omega arith) r in
        let down = leads_down Road Link level core (level y) h x y among.way low refl lower among.walked in
        up_down-behind Link level x y down.front limit down.arc (down.there, omega (arith, ap level down.head, down.higher)) down.head
        (omega (arith, down.lighter, among.lighter))
        (higher_ends x down.arc.tail down.front (omega (arith, down.higher)) down.before)

climbs-within : (Road Link : RoadArc → Type 0) (level : ℕ → ℕ) (core : ℕ) → IsHierarchy Road Link level core
    → (most x y limit : ℕ) → depth core (level x) + depth core (level y) ≤ most → Reaches Link x y limit → IsUpDown Link level x y limit
climbs-within Road Link level core h zero = climbs-by Road Link level core h zero (λ x y limit fuel r. absurd (omega arith))
climbs-within Road Link level core h (suc most) =
    climbs-by Road Link level core h (suc most) (λ x y limit fuel r. climbs-within Road Link level core h most x y limit (omega arith) r)

-- each way has one up and down that weighs no more
pub climbs : (Road Link : RoadArc → Type 0) (level : ℕ → ℕ) (core x y limit : ℕ) → IsHierarchy Road Link level core
    → Reaches Link x y limit → IsUpDown Link level x y limit
climbs Road Link level core x y limit h r = climbs-within Road Link level core h (depth core (level x) + depth core (level y)) x y limit (omega arith) r

-- a way up and down is a way
pub reaches-up_down : (Link : RoadArc → Type 0) (level : ℕ → ℕ) (x y limit : ℕ) → IsUpDown Link level x y limit → Reaches Link x y limit
reaches-up_down Link level x y limit on =
    reaches-append Link x on.peak y on.climb on.descent limit on.lighter
    (reaches-mapped (IsRising Link level) Link x on.peak on.climb (λ arc rising. rising.0) on.rises)
    (reaches-mapped (IsFalling Link level) Link on.peak y on.descent (λ arc falling. falling.0) on.falls)
