-- Walks, and the least weights of short ones.
use Rattle.model_laws.proofs.Common.{◌≡◌, ℕ, zero, suc, ◌+◌, ◌≤◌, min, ◌⊎◌, inl, inr, true, false, cond, List, [], ◌∷◌, ◌++◌, length, eqb, refl, sym, ◌∙◌, ap, subst, arith, map, Option, Some, None, option_map, ◌==◌, sum_by-cons, eqb-true, eq-eqb, RoadArc, RoadMap, lesser, least_of, arcs_from, travel_within, IsWalk, weight_of}
use Rattle.model_laws.proofs.plain.Among.{Among, among_from_contains, contains_from_among, among_map, among_map_back, among_filter, among_filter_back}

-- the first arc's seconds and the rest's weight
pub weight-cons : (arc : RoadArc) (walk : List RoadArc) → weight_of (arc ∷ walk) ≡ arc.seconds + weight_of walk
weight-cons arc walk = sum_by-cons _ arc walk

-- the least of weights is one of them
pub least_is_among : (weights : List (Option ℕ)) (t : ℕ) → least_of weights ≡ Some t → Among (Some t) weights
least_is_among [] t h = absurd (cc h)
least_is_among (None ∷ weights) t h = inr (least_is_among weights t h)
least_is_among (Some a ∷ weights) t h =
    elim (least_of weights) as (λ o. least_of weights ≡ o → lesser (Some a) o ≡ Some t → Among (Some t) (Some a ∷ weights)) [
      | None ↦ λ _ is. inl is
      | Some b ↦ λ found is. elim (lesser_cases a b) [
        | inl first ↦ inl (ap Some (sym first) ∙ is)
        | inr second ↦ inr (least_is_among weights t (found ∙ ap Some (sym second) ∙ is))
      ]
    ] refl h
  where
    lesser_cases : (a b : ℕ) → (min a b ≡ a) ⊎ (min a b ≡ b)
    lesser_cases a b = grind arith

-- no weight is below the least
pub least_is_least : (weights : List (Option ℕ)) (w : ℕ) → Among (Some w) weights
    → (t : ℕ) × (least_of weights ≡ Some t) × (t ≤ w)
least_is_least [] w h = absurd h
least_is_least (None ∷ weights) w (inl is) = absurd (cc is)
least_is_least (None ∷ weights) w (inr later) = least_is_least weights w later
least_is_least (Some a ∷ weights) w (inl is) =
    elim (least_of weights) as (λ o. (t : ℕ) × (lesser (Some a) o ≡ Some t) × (t ≤ w)) [
      | None ↦ (a, refl, first)
      | Some b ↦ (min a b, refl, omega (arith, first))
    ]
  where
    same : a ≡ w
    same = cc is

    first : a ≤ w
    first = omega (arith, same)
least_is_least (Some a ∷ weights) w (inr later) =
    let (t, found, below) = least_is_least weights w later in
    (min a t, ap (lesser (Some a)) found, omega arith)

-- x and y are one node, or a walk begins with an arc from x
pub within-same : (arcs : List RoadArc) (most x y : ℕ) → x ≡ y → travel_within arcs most x y ≡ Some 0
unfolding travel_within
within-same arcs zero x y same = rw (eq-eqb x y same) refl
within-same arcs (suc most) x y same = rw (eq-eqb x y same) refl

-- the weights of the walks that begin with each arc from x
abbrev pub onward : List RoadArc → ℕ → ℕ → ℕ → List (Option ℕ)
onward arcs most x y =
    map (λ (arc : RoadArc). option_map (λ t. arc.seconds + t) (travel_within arcs most arc.head y)) (arcs_from arcs x)

pub within-other : (arcs : List RoadArc) (most x y : ℕ) → eqb x y ≡ false
    → travel_within arcs (suc most) x y ≡ least_of (onward arcs most x y)
unfolding travel_within
within-other arcs most x y other = rw other refl

-- a weight that is found is that of a walk
pub within_is_walked : (roads : RoadMap) (most x y t : ℕ) → travel_within roads.arcs most x y ≡ Some t
    → (walk : List RoadArc) × IsWalk roads x y walk × (weight_of walk ≡ t)
unfolding travel_within
within_is_walked roads zero x y t h =
    elim (eqb x y) as (λ b. eqb x y ≡ b → cond b (Some 0) None ≡ Some t
    → (walk : List RoadArc) × IsWalk roads x y walk × (weight_of walk ≡ t)) [
      | true ↦ λ same is. ([], eqb-true x y same, cc is)
      | false ↦ λ _ is. absurd (cc is)
    ] refl h
within_is_walked roads (suc most) x y t h =
    elim (eqb x y) as (λ b. eqb x y ≡ b → cond b (Some 0) (least_of (onward roads.arcs most x y)) ≡ Some t
    → (walk : List RoadArc) × IsWalk roads x y walk × (weight_of walk ≡ t)) [
      | true ↦ λ same is. ([], eqb-true x y same, cc is)
      | false ↦ λ _ is.
          let (arc, from_x, weighs) = among_map_back _ (arcs_from roads.arcs x) (Some t) (least_is_among (onward roads.arcs most x y) t is) in
          let (among, tail) = among_filter_back _ roads.arcs arc from_x in
          elim (travel_within roads.arcs most arc.head y)
          as (λ o. travel_within roads.arcs most arc.head y ≡ o → option_map (λ s. arc.seconds + s) o ≡ Some t
          → (walk : List RoadArc) × IsWalk roads x y walk × (weight_of walk ≡ t)) [
            | None ↦ λ _ none. absurd (cc none)
            | Some s ↦ λ found some.
                let (walk, walked, weight) = within_is_walked roads most arc.head y s found in (
                  arc ∷ walk,
                  (contains_from_among roads.arcs arc among, eqb-true arc.tail x tail, walked),
                  weight-cons arc walk ∙ ap (λ w. arc.seconds + w) weight ∙ cc some,
                )
          ] refl weighs
    ] refl h

-- a walk of at most so many arcs is not lighter than what is found
pub within_is_least : (roads : RoadMap) (most x y : ℕ) (walk : List RoadArc) → IsWalk roads x y walk → length walk ≤ most
    → (t : ℕ) × (travel_within roads.arcs most x y ≡ Some t) × (t ≤ weight_of walk)
within_is_least roads most x y [] walked short = (0, within-same roads.arcs most x y walked, omega arith)
within_is_least roads zero x y (arc ∷ walk) walked short = absurd (omega arith)
within_is_least roads (suc most) x y (arc ∷ walk) (there, tail, rest) short =
    elim (eqb x y) as (λ b. eqb x y ≡ b → (t : ℕ) × (travel_within roads.arcs (suc most) x y ≡ Some t) × (t ≤ weight_of (arc ∷ walk))) [
      | true ↦ λ same. (0, within-same roads.arcs (suc most) x y (eqb-true x y same), omega arith)
      | false ↦ λ other.
          let (s, found, below) = within_is_least roads most arc.head y walk rest (omega arith) in
          let among = among_filter (λ (a : RoadArc). a.tail == x) roads.arcs arc (among_from_contains roads.arcs arc there) (eq-eqb arc.tail x tail) in
          let image = among_map (λ (a : RoadArc). option_map (λ t. a.seconds + t) (travel_within roads.arcs most a.head y)) (arcs_from roads.arcs x) arc among in
          let weighs : option_map (λ t. arc.seconds + t) (travel_within roads.arcs most arc.head y) ≡ Some (arc.seconds + s)
          = ap (option_map (λ t. arc.seconds + t)) found in
          let (t, least, lighter) = least_is_least (onward roads.arcs most x y) (arc.seconds + s) (subst (λ o. Among o (onward roads.arcs most x y)) weighs image) in
          (t, within-other roads.arcs most x y other ∙ least, omega (arith, weight-cons arc walk))
    ] refl

-- one walk after another
pub walk-append : (roads : RoadMap) (x y z : ℕ) (first second : List RoadArc) → IsWalk roads x y first → IsWalk roads y z second
    → IsWalk roads x z (first ++ second)
walk-append roads x y z [] second same walked = subst (λ node. IsWalk roads node z second) (sym same) walked
walk-append roads x y z (arc ∷ first) second (there, tail, rest) walked =
    (there, tail, walk-append roads arc.head y z first second rest walked)
