-- Two climbs meet at the highest node of a least way.
use Rattle.adaptive_roads.proofs.Common.{◌≡◌, ℕ, ◌+◌, ◌<◌, ◌≤◌, inl, inr, List, [], ◌∷◌, length, ◌∙◌, ap, subst, arith, Contains, cases_eq, cases_lt, RoadArc, RoadMap, IsRoadMap, travel, travel-le, Out, Back, IsWay, Reaches, IsRising, IsFalling, flipped, IsLabel, time_of, level_in, Contracted, IsContractionOf, IsFitContraction, IsLinkBy, node_at, IsWhole, never, label_for, AreClimbs, IsMeeting}
use Rattle.adaptive_roads.proofs.hierarchy_laws.Ways.{reaches-append, reaches-carried, reaches-mapped, reaches-flipped}
use Rattle.adaptive_roads.proofs.hierarchy_laws.Climbing.{climbs}
use Rattle.adaptive_roads.proofs.road_hierarchy.Marking.{link-inside}
use Rattle.adaptive_roads.proofs.road_hierarchy.Sweeping.{label-unique, label-of_travel, label_for-le, time-of_label}

-- the sum of one level more is passed
pub meeting-more : (ups downs : List ℕ) (count up down label least : ℕ) → up ≡ node_at ups count → down ≡ node_at downs count
    → least ≤ label → least ≤ up + down → (least < label → least ≡ up + down)
    → IsMeeting ups downs count label → IsMeeting ups downs (count + 1) least
meeting-more ups downs count up down label least up_is down_is under over either m = record {
  low = omega (arith, m.low);
  least = λ level below. elim (cases_eq level count) [
    | inl same ↦ omega (arith, ap (node_at ups) same, ap (node_at downs) same)
    | inr earlier ↦ omega (arith, m.least level (omega arith))
  ];
  attained = λ low. elim (cases_lt least label) [
    | inl lowered ↦ (count, omega arith, either lowered ∙ ap (λ n. n + down) up_is ∙ ap (λ n. node_at ups count + n) down_is)
    | inr kept ↦
        let same : least ≡ label = omega arith in
        let (level, below, is) = m.attained (omega arith) in
        (level, omega arith, same ∙ is)
  ];
}

-- a way leads to a node, if it begins at one
way-inside : (h : Contracted) → IsFitContraction h → (x y : ℕ) (way : List RoadArc) → 1 ≤ x → x ≤ h.nodes
    → IsWay (IsRising (Contains h.arcs) (level_in h.levels)) x y way → (1 ≤ y) × (y ≤ h.nodes)
way-inside h fit x y [] one high same = (omega (arith, same), omega (arith, same))
way-inside h fit x y (arc ∷ way) one high (up, tail, rest) =
    let inside = link-inside Out h fit arc up.0 in
    way-inside h fit arc.head y way inside.1.0 inside.1.1 rest

-- the label where two climbs meet is the travel time
pub meeting-is_travel : (roads : RoadMap) (h : Contracted) (x y : ℕ) (ups downs : List ℕ) (label : ℕ) → IsRoadMap roads → IsContractionOf roads h
    → IsFitContraction h → IsWhole h → 1 ≤ x → x ≤ h.nodes → AreClimbs Out h x ups → AreClimbs Back h y downs
    → IsMeeting ups downs (length h.order) label → time_of never label ≡ travel roads x y
meeting-is_travel roads h x y ups downs label fits is fit whole one high up down m =
    ap (time_of never)
    (label-unique never label (label_for (travel roads x y)) (Reaches Road x y) labelled (label-of_travel roads x y fits) m.low
    (label_for-le (travel roads x y) (λ time. travel-le roads x y time fits)))
    ∙ time-of_label (travel roads x y) (λ time. travel-le roads x y time fits)
  where
    Road : RoadArc → Type 0
    Road = Contains roads.arcs

    Link : RoadArc → Type 0
    Link = Contains h.arcs

    level : ℕ → ℕ
    level = level_in h.levels

    core : ℕ
    core = length h.order

    -- the two ways that meet at a node are one
    joined : (node first second : ℕ) → Reaches (IsRising Link level) x node first → Reaches (IsRising (IsLinkBy Back h.arcs) level) y node second
        → Reaches Link x y (first + second)
    joined node first second rises falls =
        reaches-append Link x node y first second (first + second) (omega arith)
        (reaches-mapped (IsRising Link level) Link x node first (λ arc r. r.0) rises)
        (reaches-flipped (IsRising (IsLinkBy Back h.arcs) level) Link y node second (λ arc r. r.0) falls)

    -- an arc down is one up, the other way round
    turned-falling : (arc : RoadArc) → IsFalling Link level arc → IsRising (IsLinkBy Back h.arcs) level (flipped arc)
    turned-falling arc (there, lower) = (there, omega arith)

    labelled : IsLabel never (Reaches Road x y) label
    labelled = record {
      reached = λ low.
          let (k, k_low, sum) = m.attained low in
          let node = node_at h.order k in
          let (node_one, node_high, its) = fit.ordered.listed k k_low in
          let first = up node node_one node_high in
          let second = down node node_one node_high in
          let up_is : node_at ups (level node) ≡ node_at ups k = ap (node_at ups) its in
          let down_is : node_at downs (level node) ≡ node_at downs k = ap (node_at downs) its in
          let way = joined node (node_at ups (level node)) (node_at downs (level node)) (first.reached (omega arith)) (second.reached (omega arith)) in
          let weighs : node_at ups (level node) + node_at downs (level node) ≡ label = omega arith in
          reaches-carried Link Road x y label is.sound (subst (Reaches Link x y) weighs way);
      least = λ weight r.
          let on = climbs Road Link level core x y weight is (reaches-carried Road Link x y weight is.complete r) in
          let (node_one, node_high) = way-inside h fit x on.peak on.rises.way one high on.rises.walked in
          let back = reaches-flipped (IsFalling Link level) (IsRising (IsLinkBy Back h.arcs) level) on.peak y on.descent turned-falling on.falls in
          let first = (up on.peak node_one node_high).least on.climb on.rises in
          let second = (down on.peak node_one node_high).least on.descent back in
          omega (arith, first, second, m.least (level on.peak) (whole on.peak node_one node_high), on.lighter);
    }
