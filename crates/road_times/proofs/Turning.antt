-- A search over the reversed map finds the travel times to a node.
use Rattle.road_times.proofs.Common.{◌≡◌, ℕ, ◌<◌, List, [], ◌∷◌, ◌++◌, length, get_or, refl, sym, ◌∙◌, ap, arith, Option, Some, None, map, Contains, map-id, length-map, get_or-map, All-map, sum_by-append, RoadArc, RoadMap, IsArc, IsRoadMap, travel, IsWalk, IsTravel, weight_of, weight-cons, walk-append, travel-is_travel, travel_is_least, Side, Out, Back, turned_arc, turned_map, travel_by}

-- the arc the other way round
abbrev pub flipped : RoadArc → RoadArc
flipped arc = turned_arc Back arc

-- each arc of the one map is one of the other, the other way round
abbrev pub IsFlipped : RoadMap → RoadMap → Type 0
IsFlipped one other = (arc : RoadArc) → Contains one.arcs arc → Contains other.arcs (flipped arc)

contains-map : (arcs : List RoadArc) (arc : RoadArc) → Contains arcs arc → Contains (map (turned_arc Back) arcs) (flipped arc)
contains-map arcs arc (k, low, is) =
    (k, omega (arith, low, length-map arcs (turned_arc Back)), get_or-map (turned_arc Back) arcs k arc (flipped arc) low ∙ ap flipped is)

contains-map_back : (arcs : List RoadArc) (arc : RoadArc) → Contains (map (turned_arc Back) arcs) arc → Contains arcs (flipped arc)
contains-map_back arcs arc (k, low, is) =
    let k_low : k < length arcs = omega (arith, low, length-map arcs (turned_arc Back)) in
    (k, k_low, ap flipped (sym (get_or-map (turned_arc Back) arcs k (flipped arc) arc k_low) ∙ is))

-- a walk the other way round
pub walk-flipped : (one other : RoadMap) → IsFlipped one other → (x y : ℕ) (walk : List RoadArc) → IsWalk one x y walk
    → (back : List RoadArc) × IsWalk other y x back × (weight_of back ≡ weight_of walk)
walk-flipped one other flips x y [] same = ([], sym same, refl)
walk-flipped one other flips x y (arc ∷ walk) (there, tail, rest) =
    let (back, walked, weighs) = walk-flipped one other flips arc.head y walk rest in
    let last : IsWalk other arc.head x (flipped arc ∷ []) = (flips arc there, refl, tail) in (
      back ++ (flipped arc ∷ []),
      walk-append other y arc.head x back (flipped arc ∷ []) walked last,
      omega (arith, sum_by-append (λ (a : RoadArc). a.seconds) back (flipped arc ∷ []), weight-cons (flipped arc) [], weight-cons arc walk, weighs),
    )

-- a travel time the other way round
travel-flipped : (one other : RoadMap) → IsFlipped one other → IsFlipped other one → (x y : ℕ) (t : Option ℕ) → IsTravel one x y t
    → IsTravel other y x t
travel-flipped one other there back x y None none = λ walk walked.
    let (turned, turned_walked, _) = walk-flipped other one back y x walk walked in none turned turned_walked
travel-flipped one other there back x y (Some t) is = record {
  walked =
      let (walk, walked, weighs) = is.walked in
      let (turned, turned_walked, same) = walk-flipped one other there x y walk walked in
      (turned, turned_walked, same ∙ weighs);
  least = λ walk walked.
      let (turned, turned_walked, same) = walk-flipped other one back y x walk walked in
      omega (arith, is.least turned turned_walked, same);
}

-- a turned map is a map
pub turned-fits : (side : Side) (roads : RoadMap) → IsRoadMap roads → IsRoadMap (turned_map side roads)
turned-fits side roads fits = record {
  some_node = fits.some_node;
  nodes_limit = fits.nodes_limit;
  arcs_limit = omega (arith, fits.arcs_limit, length-map roads.arcs (turned_arc side));
  arcs_fit = All-map (IsArc (turned_map side roads)) (turned_arc side) roads.arcs (λ k d low. turned_fit side (get_or roads.arcs k d) (fits.arcs_fit k d low));
}
  where
    turned_fit : (s : Side) (arc : RoadArc) → IsArc roads arc → IsArc (turned_map side roads) (turned_arc s arc)
    turned_fit Out arc fit = fit
    turned_fit Back arc fit = (fit.1, fit.0, fit.2)

-- a search over a turned map finds the travel times by its side
pub travel-turned : (side : Side) (roads : RoadMap) (x w : ℕ) → IsRoadMap roads → travel (turned_map side roads) x w ≡ travel_by side roads x w
travel-turned Out roads x w fits = ap (λ (arcs : List RoadArc). travel (record { nodes = roads.nodes; arcs = arcs }) x w) (map-id roads.arcs)
travel-turned Back roads x w fits =
    travel-is_travel (turned_map Back roads) x w (travel roads w x) (turned-fits Back roads fits)
    (travel-flipped roads (turned_map Back roads) (contains-map roads.arcs) (contains-map_back roads.arcs) w x (travel roads w x) (travel_is_least roads w x fits))

-- two functions that agree give the same row
pub map-same : (f g : ℕ → Option ℕ) (xs : List ℕ) → ((x : ℕ) → f x ≡ g x) → map f xs ≡ map g xs
map-same f g [] same = refl
map-same f g (x ∷ xs) same = ap (λ y. y ∷ map f xs) (same x) ∙ ap (λ ys. g x ∷ ys) (map-same f g xs same)
