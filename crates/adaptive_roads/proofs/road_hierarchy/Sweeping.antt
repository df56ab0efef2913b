-- The labels of a sweep are travel times.
use Rattle.adaptive_roads.proofs.Common.{◌≡◌, ℕ, zero, suc, ◌+◌, ◌<◌, ◌≤◌, inl, inr, true, false, cond, ltb, List, length, get_or, refl, sym, ◌∙◌, ap, subst, arith, Option, Some, None, Contains, map, All, get_or-map, length-map, same_lists, RoadArc, RoadMap, IsRoadMap, travel, IsTravel, travel_is_least, travel-le, Side, Out, Back, travel_by, Reaches, IsRising, IsHierarchy, IsUpDown, IsLabel, IsGathered, time_of, level_in, Contracted, IsContractionOf, Step, IsLinkBy, IsIn, node_at, AreClimbs, step_at, arc_of, AreStepsOf, ComeEarlier, never, label_for, climb_to, through, IsSwept}
use Rattle.adaptive_roads.proofs.hierarchy_laws.Ways.{reaches-carried, reaches-flipped, way-from_walk, walk-from_way}
use Rattle.adaptive_roads.proofs.hierarchy_laws.Climbing.{climbs, reaches-up_down}
use Rattle.adaptive_roads.proofs.hierarchy_laws.Growing.{hierarchy-flipped}
use Rattle.adaptive_roads.proofs.hierarchy_laws.Sweeping.{gathered}

-- a label of the same weights
label-same : (limit label : ℕ) (Weighs Others : ℕ → Type 0) → ((weight : ℕ) → Weighs weight → Others weight) → ((weight : ℕ) → Others weight → Weighs weight)
    → IsLabel limit Weighs label → IsLabel limit Others label
label-same limit label Weighs Others there back is = record {
  reached = λ low. there label (is.reached low);
  least = λ weight weighs. is.least weight (back weight weighs);
}

-- there is one label that is not above the limit
pub label-unique : (limit a b : ℕ) (Weighs : ℕ → Type 0) → IsLabel limit Weighs a → IsLabel limit Weighs b → a ≤ limit → b ≤ limit → a ≡ b
label-unique limit a b Weighs first second a_low b_low =
    elim (ltb a limit) as (λ t. ltb a limit ≡ t → a ≡ b) [
      | true ↦ λ e.
          let low : a < limit = below a e in
          let under : b ≤ a = second.least a (first.reached low) in
          let over : a ≤ b = first.least b (second.reached (omega arith)) in
          omega arith
      | false ↦ λ e.
          let high : limit ≤ a = above a e in
          elim (ltb b limit) as (λ t. ltb b limit ≡ t → a ≡ b) [
            | true ↦ λ f. (let under : b < limit = below b f in let over : a ≤ b = first.least b (second.reached under) in omega arith)
            | false ↦ λ f. (let over : limit ≤ b = above b f in omega arith)
          ] refl
    ] refl
  where
    below : (n : ℕ) → ltb n limit ≡ true → n < limit
    below n e = grind arith

    above : (n : ℕ) → ltb n limit ≡ false → limit ≤ n
    above n e = grind arith

-- travel times are below the label for no way
pub label_for-le : (o : Option ℕ) → ((time : ℕ) → o ≡ Some time → time ≤ 500000000000000) → label_for o ≤ never
label_for-le None low = omega arith
label_for-le (Some time) low = (let h = low time refl in omega arith)

pub time-of_label : (o : Option ℕ) → ((time : ℕ) → o ≡ Some time → time ≤ 500000000000000) → time_of never (label_for o) ≡ o
time-of_label None low = refl
time-of_label (Some time) low = (let h = low time refl in let below : ltb time never ≡ true = grind arith in ap (λ b. cond b (Some time) None) below)

pub travel_by-le : (side : Side) (roads : RoadMap) (x y : ℕ) → IsRoadMap roads → (time : ℕ) → travel_by side roads x y ≡ Some time → time ≤ 500000000000000
travel_by-le Out roads x y fits time is = travel-le roads x y time fits is
travel_by-le Back roads x y fits time is = travel-le roads y x time fits is

-- the travel time is the label of the ways over the arcs of a map
pub label-of_travel : (roads : RoadMap) (x y : ℕ) → IsRoadMap roads → IsLabel never (Reaches (Contains roads.arcs) x y) (label_for (travel roads x y))
label-of_travel roads x y fits = of_time (travel roads x y) (travel_is_least roads x y fits)
  where
    of_time : (time : Option ℕ) → IsTravel roads x y time → IsLabel never (Reaches (Contains roads.arcs) x y) (label_for time)
    of_time None none = record {
      reached = λ low. absurd (omega arith);
      least = λ weight r. absurd (none r.way (walk-from_way roads x y r.way r.walked));
    }
    of_time (Some time) is = record {
      reached = λ low.
          let (walk, walked, weighs) = is.walked in
          record { way = walk; walked = way-from_walk roads x y walk walked; lighter = omega arith };
      least = λ weight r.
          let least = is.least r.way (walk-from_way roads x y r.way r.walked) in
          let lighter = r.lighter in
          omega arith;
    }

-- the travel time is the label of the ways that a search on a side meets
label-by : (side : Side) (roads : RoadMap) (x y : ℕ) → IsRoadMap roads
    → IsLabel never (Reaches (IsLinkBy side roads.arcs) x y) (label_for (travel_by side roads x y))
label-by Out roads x y fits = label-of_travel roads x y fits
label-by Back roads x y fits =
    label-same never (label_for (travel roads y x)) (Reaches (Contains roads.arcs) y x) (Reaches (IsLinkBy Back roads.arcs) x y)
    (λ weight. reaches-flipped (Contains roads.arcs) (IsLinkBy Back roads.arcs) y x weight (λ arc there. there))
    (λ weight. reaches-flipped (IsLinkBy Back roads.arcs) (Contains roads.arcs) x y weight (λ arc there. there))
    (label-of_travel roads y x fits)

-- a hierarchy as a search on a side meets it
hierarchy-by : (side : Side) (roads : RoadMap) (arcs : List RoadArc) (level : ℕ → ℕ) (core : ℕ) → IsHierarchy (Contains roads.arcs) (Contains arcs) level core
    → IsHierarchy (IsLinkBy side roads.arcs) (IsLinkBy side arcs) level core
hierarchy-by Out roads arcs level core h = h
hierarchy-by Back roads arcs level core h =
    hierarchy-flipped (Contains roads.arcs) (Contains arcs) (IsLinkBy Back roads.arcs) (IsLinkBy Back arcs) level core h
    (λ arc there. there) (λ arc there. there) (λ arc there. there) (λ arc there. there)

-- the travel time is the label of the ways up and down
label-up_down : (side : Side) (roads : RoadMap) (hierarchy : Contracted) (x y : ℕ) → IsRoadMap roads → IsContractionOf roads hierarchy
    → IsLabel never (IsUpDown (IsLinkBy side hierarchy.arcs) (level_in hierarchy.levels) x y) (label_for (travel_by side roads x y))
label-up_down side roads hierarchy x y fits is =
    label-same never (label_for (travel_by side roads x y)) (Reaches Road x y) (IsUpDown Link level x y)
    (λ weight r. climbs Road Link level core x y weight h (reaches-carried Road Link x y weight h.complete r))
    (λ weight u. reaches-carried Link Road x y weight h.sound (reaches-up_down Link level x y weight u))
    (label-by side roads x y fits)
  where
    Road : RoadArc → Type 0
    Road = IsLinkBy side roads.arcs

    Link : RoadArc → Type 0
    Link = IsLinkBy side hierarchy.arcs

    level : ℕ → ℕ
    level = level_in hierarchy.levels

    core : ℕ
    core = length hierarchy.order

    h : IsHierarchy (IsLinkBy side roads.arcs) (IsLinkBy side hierarchy.arcs) (level_in hierarchy.levels) (length hierarchy.order)
    h = hierarchy-by side roads hierarchy.arcs (level_in hierarchy.levels) (length hierarchy.order) is

-- one step of the sweep, where the labels of earlier places are travel times
swept-step : (side : Side) (roads : RoadMap) (hierarchy : Contracted) (x : ℕ) (nodes starts : List ℕ) (steps : List Step) (climb : ℕ → ℕ)
    (times : List ℕ) (place : ℕ) → IsRoadMap roads → IsContractionOf roads hierarchy
    → AreStepsOf (IsLinkBy side hierarchy.arcs) (level_in hierarchy.levels) nodes starts steps → ComeEarlier (length nodes) starts steps
    → IsLabel never (Reaches (IsRising (IsLinkBy side hierarchy.arcs) (level_in hierarchy.levels)) x (node_at nodes place)) (climb place)
    → climb place ≤ never → IsSwept starts steps climb times place → place < length nodes
    → ((earlier : ℕ) → earlier < place → node_at times earlier ≡ label_for (travel_by side roads x (node_at nodes earlier)))
    → node_at times place ≡ label_for (travel_by side roads x (node_at nodes place))
swept-step side roads hierarchy x nodes starts steps climb times place fits is are earlier climbed climb_low swept low had =
    label-unique never (node_at times place) (labels (node_at nodes place)) (IsUpDown Link level x (node_at nodes place))
    (gathered never Link level labels x (node_at nodes place) (climb place) (node_at times place) climbed
    (λ arc falls head. label-up_down side roads hierarchy x arc.tail fits is) gather)
    (label-up_down side roads hierarchy x (node_at nodes place) fits is)
    (omega (arith, swept.climbed))
    (label_for-le (travel_by side roads x (node_at nodes place)) (travel_by-le side roads x (node_at nodes place) fits))
  where
    Link : RoadArc → Type 0
    Link = IsLinkBy side hierarchy.arcs

    level : ℕ → ℕ
    level = level_in hierarchy.levels

    labels : ℕ → ℕ
    labels = λ node. label_for (travel_by side roads x node)

    step_label : (k : ℕ) → IsIn starts place k → through steps times k ≡ labels (node_at nodes (step_at steps k).place) + (step_at steps k).seconds
    step_label k at = ap (λ n. n + (step_at steps k).seconds) (had (step_at steps k).place (earlier place k low at))

    gather : IsGathered never Link level labels (node_at nodes place) (climb place) (node_at times place)
    gather = record {
      climbed = swept.climbed;
      stepped = λ arc falls head.
          let (k, at, made) = are.complete place arc low falls head in
          let same : labels (node_at nodes (step_at steps k).place) + (step_at steps k).seconds ≡ labels arc.tail + arc.seconds
          = ap (λ (a : RoadArc). labels a.tail + a.seconds) made in
          omega (arith, swept.stepped k at, step_label k at, same);
      attained = λ below. elim swept.attained [
        | inl is ↦ inl is
        | inr (k, at, made) ↦ inr (arc_of nodes steps place k, are.sound place k low at, refl, made ∙ step_label k at)
      ];
    }

-- the sweep labels each selected node by its travel time
pub swept-is_travel : (side : Side) (roads : RoadMap) (hierarchy : Contracted) (x : ℕ) (nodes starts : List ℕ) (steps : List Step) (climb : ℕ → ℕ)
    (times : List ℕ) → IsRoadMap roads → IsContractionOf roads hierarchy
    → AreStepsOf (IsLinkBy side hierarchy.arcs) (level_in hierarchy.levels) nodes starts steps → ComeEarlier (length nodes) starts steps
    → ((place : ℕ) → place < length nodes
    → IsLabel never (Reaches (IsRising (IsLinkBy side hierarchy.arcs) (level_in hierarchy.levels)) x (node_at nodes place)) (climb place)) → ((place : ℕ) → climb place ≤ never)
    → ((place : ℕ) → place < length nodes → IsSwept starts steps climb times place)
    → (place : ℕ) → place < length nodes → node_at times place ≡ label_for (travel_by side roads x (node_at nodes place))
swept-is_travel side roads hierarchy x nodes starts steps climb times fits is are earlier climbed climb_low swept place low =
    up_to (suc place) place low (omega arith)
  where
    up_to : (bound place : ℕ) → place < length nodes → place < bound → node_at times place ≡ label_for (travel_by side roads x (node_at nodes place))
    up_to zero place low below = absurd (omega arith)
    up_to (suc bound) place low below =
        swept-step side roads hierarchy x nodes starts steps climb times place fits is are earlier (climbed place low) (climb_low place) (swept place low) low
        (λ before less. up_to bound before (omega arith) (omega arith))

-- the wanted nodes' labels are read as travel times
pub read-is_travel : (side : Side) (roads : RoadMap) (x : ℕ) (nodes times places : List ℕ) → IsRoadMap roads
    → ((place : ℕ) → place < length nodes → node_at times place ≡ label_for (travel_by side roads x (node_at nodes place)))
    → All (λ place. place < length nodes) places
    → map (λ place. time_of never (node_at times place)) places ≡ map (travel_by side roads x) (map (node_at nodes) places)
read-is_travel side roads x nodes times places fits labels inside =
    same_lists (map (λ place. time_of never (node_at times place)) places) (map (travel_by side roads x) (map (node_at nodes) places))
    (length-map places (λ place. time_of never (node_at times place))
    ∙ sym (length-map places (node_at nodes)) ∙ sym (length-map (map (node_at nodes) places) (travel_by side roads x)))
    (λ k d below.
    let low : k < length places = omega (arith, length-map places (λ place. time_of never (node_at times place))) in
    let place = get_or places k 0 in
    get_or-map (λ place. time_of never (node_at times place)) places k 0 d low
    ∙ ap (time_of never) (labels place (inside k 0 low))
    ∙ time-of_label (travel_by side roads x (node_at nodes place)) (travel_by-le side roads x (node_at nodes place) fits)
    ∙ sym (ap (travel_by side roads x) (get_or-map (node_at nodes) places k 0 0 low))
    ∙ sym (get_or-map (travel_by side roads x) (map (node_at nodes) places) k 0 d (omega (arith, length-map places (node_at nodes)))))

-- a place that was swept, by equal lists
pub swept-same : (starts more : List ℕ) (steps others : List Step) (climb : ℕ → ℕ) (times labels : List ℕ) (place : ℕ)
    → starts ≡ more → steps ≡ others → times ≡ labels → IsSwept starts steps climb times place → IsSwept more others climb labels place
swept-same starts more steps others climb times labels place same_starts same_steps same_times s =
    subst (λ ss. IsSwept ss others climb labels place) same_starts
    (subst (λ ts. IsSwept starts ts climb labels place) same_steps
    (subst (λ ls. IsSwept starts steps climb ls place) same_times s))

-- labels, from the climb to the end of the sweep
pub labels-are_travel : (side : Side) (roads : RoadMap) (hierarchy : Contracted) (x : ℕ) (nodes ranks starts : List ℕ) (steps : List Step)
    (climbs labels : List ℕ) → IsRoadMap roads → IsContractionOf roads hierarchy
    → AreClimbs side hierarchy x climbs → ((level : ℕ) → node_at climbs level ≤ never)
    → All (λ node. (1 ≤ node) × (node ≤ hierarchy.nodes)) nodes → ranks ≡ map (level_in hierarchy.levels) nodes
    → AreStepsOf (IsLinkBy side hierarchy.arcs) (level_in hierarchy.levels) nodes starts steps → ComeEarlier (length nodes) starts steps
    → ((place : ℕ) → place < length nodes → IsSwept starts steps (climb_to ranks climbs) labels place)
    → (place : ℕ) → place < length nodes → node_at labels place ≡ label_for (travel_by side roads x (node_at nodes place))
labels-are_travel side roads hierarchy x nodes ranks starts steps climbs labels fits is climbed low inside ranked are earlier swept =
    swept-is_travel side roads hierarchy x nodes starts steps (climb_to ranks climbs) labels fits is are earlier
    (λ place below.
    let (one, high) = inside place 0 below in
    let rank : node_at ranks place ≡ level_in hierarchy.levels (node_at nodes place)
    = ap (λ rs. node_at rs place) ranked ∙ get_or-map (level_in hierarchy.levels) nodes place 0 0 below in
    subst (λ level. IsLabel never (Reaches (IsRising (IsLinkBy side hierarchy.arcs) (level_in hierarchy.levels)) x (node_at nodes place)) (node_at climbs level))
    (sym rank) (climbed (node_at nodes place) one high))
    (λ place. low (node_at ranks place))
    swept
