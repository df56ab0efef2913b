-- Costs of offers: never negative, and below 2^42.
use Rattle.model_laws.proofs.Common.{◌≡◌, ℕ, zero, suc, ◌+◌, ◌-◌, ◌*◌, ◌<◌, ◌≤◌, ◌^◌, ◌⊎◌, inl, inr, Bool, true, false, not, cond, ◌&&◌, List, [], ◌∷◌, length, eqb, leb, leb-true, refl, sym, ◌∙◌, ap, subst, arith, mul-le-mul, add-zero, Option, Some, None, option_map, option_and_then, unwrap_or, ◌==◌, Contains, IfSome, slice_index, filter, list_all, last_or, eq-eqb, and_parts, All-contains, same_Some, Offer, Settings, Ride, Stop, Vehicle, RoadMap, IsRoadMap, travel, IsSettings, IsRide, ride_ids, IsRouted, IsFresh, times_from, times_of, drive_of, visits_of, loads_fit, is_pickup_at, is_dropoff_at, keeps_visits, keeps_ride, keeps, routed, stops_with, stops_without, inserted, start_of, is_open, cost_of, joins_of, offer_of_plan, offer_of, AllSooner}
use Rattle.model_laws.proofs.plain.Among.{Among, among_from_contains, contains_from_among, among_filter, among_filter_back, among_map_back}
use Rattle.model_laws.proofs.Routes.{with_leg, routed-own, of_ride, visits_from}
use Rattle.model_laws.proofs.PlanStops.{unlegged, unlegged-routed}
use Rattle.model_laws.proofs.Removal.{is_other, route_without}
use Rattle.model_laws.proofs.Insertions.{stops-with-without, inserted_facts, routed-with}
use Rattle.model_laws.proofs.OfferPrices.{offer_facts}

-- the last arrival is not before any other, nor before what went before
pub last-facts : (dwell leave t : ℕ) (stops : List Stop) → t ≤ leave
    → (l : ℕ) × (last_or (Some t) (times_from dwell leave stops) ≡ Some l) × (t ≤ l)
    × ((u : ℕ) → Among u (times_from dwell leave stops) → u ≤ l)
last-facts dwell leave t [] before = (t, refl, omega arith, λ u h. absurd h)
last-facts dwell leave t (s ∷ stops) before =
    let (l, is, first, others) = last-facts dwell (leave + s.leg + dwell) (leave + s.leg) stops (omega arith) in
    (l, is, omega (arith, first), λ u h. elim h [ inl here ↦ omega (arith, here, first) | inr later ↦ others u later ])

-- each arrival is within the drive
pub arrival-le-drive : (v : Vehicle) (dwell u : ℕ) → Among u (times_of v 0 dwell) → u ≤ drive_of v dwell
arrival-le-drive v dwell u h = by_stops v.stops.items h
  where
    by_stops : (stops : List Stop) → Among u (times_from dwell 0 stops) → u ≤ unwrap_or (last_or None (times_from dwell 0 stops)) 0
    by_stops [] none = absurd none
    by_stops (s ∷ stops) there =
        let (l, is, first, others) = last-facts dwell (0 + s.leg + dwell) (0 + s.leg) stops (omega arith) in
        subst (λ o. u ≤ unwrap_or o 0) (sym is) (elim there [ inl here ↦ omega (arith, here, first) | inr later ↦ others u later ])

-- the last of a list is one of it
pub last-among : (t : ℕ) (ts : List ℕ) → (l : ℕ) × (last_or (Some t) ts ≡ Some l) × ((l ≡ t) ⊎ Among l ts)
last-among t [] = (t, refl, inl refl)
last-among t (u ∷ ts) =
    let (l, is, where_it_is) = last-among u ts in
    (l, is, elim where_it_is [ inl here ↦ inr (inl (sym here)) | inr later ↦ inr (inr later) ])

-- the drive is 0, or an arrival
pub drive-among : (v : Vehicle) (dwell : ℕ) → (drive_of v dwell ≡ 0) ⊎ Among (drive_of v dwell) (times_of v 0 dwell)
drive-among v dwell = by_stops v.stops.items
  where
    by_stops : (stops : List Stop) → (unwrap_or (last_or None (times_from dwell 0 stops)) 0 ≡ 0)
        ⊎ Among (unwrap_or (last_or None (times_from dwell 0 stops)) 0) (times_from dwell 0 stops)
    by_stops [] = inl refl
    by_stops (s ∷ stops) =
        let (l, is, where_it_is) = last-among (0 + s.leg) (times_from dwell (0 + s.leg + dwell) stops) in
        inr (subst (λ o. Among (unwrap_or o 0) (times_from dwell 0 (s ∷ stops))) (sym is)
        (elim where_it_is [ inl here ↦ inl (sym here) | inr later ↦ inr later ]))

-- an arrival is that of a visit, and a visit's time is an arrival
pub visit-of-arrival : (dwell leave u : ℕ) (stops : List Stop) → Among u (times_from dwell leave stops)
    → (s : Stop) × Among (s, u) (visits_from dwell leave stops)
visit-of-arrival dwell leave u [] h = absurd h
visit-of-arrival dwell leave u (s ∷ stops) (inl is) = (s, inl (ap (λ n. (s, n)) is))
visit-of-arrival dwell leave u (s ∷ stops) (inr later) =
    let (t, there) = visit-of-arrival dwell (leave + s.leg + dwell) u stops later in (t, inr there)

pub arrival-of-visit : (dwell leave : ℕ) (stops : List Stop) (visit : Stop × ℕ) → Among visit (visits_from dwell leave stops)
    → Among visit.1 (times_from dwell leave stops) × Among visit.0 stops
arrival-of-visit dwell leave [] visit h = absurd h
arrival-of-visit dwell leave (s ∷ stops) visit (inl is) = (inl (ap (λ (w : Stop × ℕ). w.1) is), inl (ap (λ (w : Stop × ℕ). w.0) is))
arrival-of-visit dwell leave (s ∷ stops) visit (inr later) =
    let (time, there) = arrival-of-visit dwell (leave + s.leg + dwell) stops visit later in (inr time, inr there)

-- a visit that comes sooner has one that comes no sooner
pub later-visit : (gain : ℕ) (xs ys : List (Stop × ℕ)) (visit : Stop × ℕ) → AllSooner gain xs ys → Among visit xs
    → (other : Stop × ℕ) × Among other ys × (visit.1 ≤ other.1)
later-visit gain [] ys visit s h = absurd h
later-visit gain (a ∷ xs) [] visit s h = absurd s
later-visit gain (a ∷ xs) (b ∷ ys) visit (more, enough, here, rest) (inl is) =
    (b, inl refl, omega (arith, here.time_is, ap (λ (w : Stop × ℕ). w.1) is))
later-visit gain (a ∷ xs) (b ∷ ys) visit (more, enough, here, rest) (inr later) =
    let (other, there, below) = later-visit more xs ys visit rest later in (other, inr there, below)

-- arrivals from a later start are as much later
pub arrival-shifted : (dwell start leave u : ℕ) (stops : List Stop) → Among u (times_from dwell leave stops)
    → Among (start + u) (times_from dwell (start + leave) stops)
arrival-shifted dwell start leave u [] h = absurd h
arrival-shifted dwell start leave u (s ∷ stops) (inl is) =
    inl (shift is)
  where
    shift : leave + s.leg ≡ u → start + leave + s.leg ≡ start + u
    shift e = omega (arith, e)
arrival-shifted dwell start leave u (s ∷ stops) (inr later) =
    inr (subst (λ n. Among (start + u) (times_from dwell n stops)) (assoc start leave s.leg dwell)
    (arrival-shifted dwell start (leave + s.leg + dwell) u stops later))
  where
    assoc : (a b c d : ℕ) → a + (b + c + d) ≡ a + b + c + d
    assoc a b c d = omega arith

-- a route depends on the stops' nodes alone
pub routed-unlegged : (roads : RoadMap) (at : ℕ) (stops : List Stop) → routed roads at (unlegged stops) ≡ routed roads at stops
routed-unlegged roads at [] = refl
routed-unlegged roads at (s ∷ stops) =
    ap (λ o. option_and_then (λ leg. option_map (λ rest. with_leg leg s ∷ rest) o) (travel roads at s.node)) (routed-unlegged roads s.node stops)

-- stops without legs, of a filter by rides
pub unlegged-without : (id : ℕ) (stops : List Stop) → unlegged (stops_without id stops) ≡ stops_without id (unlegged stops)
unlegged-without id [] = refl
unlegged-without id (s ∷ stops) =
    elim (eqb s.ride id) as (λ b. unlegged (cond (not b) (s ∷ stops_without id stops) (stops_without id stops))
    ≡ cond (not b) (with_leg 0 s ∷ stops_without id (unlegged stops)) (stops_without id (unlegged stops))) [
      | true ↦ unlegged-without id stops
      | false ↦ ap (λ rest. with_leg 0 s ∷ rest) (unlegged-without id stops)
    ]

-- the route of a plan with a ride more, without the ride, is the old one
pub route-back : (roads : RoadMap) (v : Vehicle) (ride : Ride) (i j : ℕ) (out : List Stop) → IsRouted roads v → IsFresh v.rides.items ride.id
    → i ≤ j → j ≤ length v.stops.items → routed roads v.at (stops_with ride i j v.stops.items) ≡ Some out
    → routed roads v.at (stops_without ride.id out) ≡ Some v.stops.items
route-back roads v ride i j out r fresh in_order in_range route =
    sym (routed-unlegged roads v.at (stops_without ride.id out))
    ∙ ap (routed roads v.at) (unlegged-without ride.id out
    ∙ ap (stops_without ride.id) (unlegged-routed roads v.at (stops_with ride i j v.stops.items) out route)
    ∙ sym (unlegged-without ride.id (stops_with ride i j v.stops.items))
    ∙ ap unlegged (stops-with-without v.rides.items v.stops.items ride i j r.planned fresh in_order in_range))
    ∙ routed-unlegged roads v.at v.stops.items
    ∙ routed-own roads v.at v.stops.items r.legs

-- a plan with a ride more drives no less
pub drive-inserted : (roads : RoadMap) (v : Vehicle) (ride : Ride) (i j dwell : ℕ) (new : Vehicle) → IsRoadMap roads → IsRouted roads v
    → IsRide roads ride → IsFresh v.rides.items ride.id → ride.picked ≡ None → i ≤ j → j ≤ length v.stops.items
    → inserted roads v ride i j ≡ Some new → drive_of v dwell ≤ drive_of new dwell
drive-inserted roads v ride i j dwell new fits r ride_fits fresh waits in_order in_range is =
    elim (drive-among v dwell) [
      | inl none ↦ omega (arith, none)
      | inr last ↦
          let facts = inserted_facts roads v ride i j new is in
          let new_routed = routed-with roads v ride i j new r ride_fits fresh waits in_order in_range is in
          let out_is : new.stops.items ≡ facts.out = ap (λ (w : Vehicle). w.stops.items) facts.new_is in
          let at_is : new.at ≡ v.at = ap (λ (w : Vehicle). w.at) facts.new_is in
          let left = route_without roads new ride.id 0 dwell fits new_routed.legs in
          let back : routed roads new.at (stops_without ride.id new.stops.items) ≡ Some v.stops.items
          = subst (λ node. routed roads node (stops_without ride.id new.stops.items) ≡ Some v.stops.items) (sym at_is)
          (subst (λ stops. routed roads v.at (stops_without ride.id stops) ≡ Some v.stops.items) (sym out_is)
          (route-back roads v ride i j facts.out r fresh in_order in_range facts.route)) in
          let old_is : left.out ≡ v.stops.items = same_Some left.out v.stops.items (sym left.route ∙ back) in
          let sooner = subst (λ stops. AllSooner 0 (visits_from dwell 0 stops) (filter (of_ride (is_other ride.id)) (visits_from dwell 0 new.stops.items))) old_is left.sooner in
          let (s, there) = visit-of-arrival dwell 0 (drive_of v dwell) v.stops.items last in
          let (other, among, below) = later-visit 0 (visits_from dwell 0 v.stops.items) (filter (of_ride (is_other ride.id)) (visits_from dwell 0 new.stops.items)) (s, drive_of v dwell) sooner there in
          let (in_new, _) = among_filter_back (of_ride (is_other ride.id)) (visits_from dwell 0 new.stops.items) other among in
          let (time, _) = arrival-of-visit dwell 0 new.stops.items other in_new in
          omega (arith, below, arrival-le-drive new dwell other.1 time)
    ]

-- the latest moment at which a promise may be kept
abbrev pub last_moment : ℕ
last_moment = 1001003600

-- a visit that keeps the limits of a ride is not after the last moment
kept-visit : (ride : Ride) (picked : Option ℕ) (visits : List (Stop × ℕ)) (visit : Stop × ℕ) → ride.latest ≤ 1000000000 → ride.longest ≤ 1000000
    → IfSome picked (λ at. at ≤ 1000003600) → keeps_visits ride picked visits ≡ true → Among visit visits → visit.1 ≤ last_moment
kept-visit ride None (p ∷ d ∷ []) visit latest longest before keeps there =
    let (three, within) = and_parts (is_pickup_at ride.from p.0 && is_dropoff_at ride.to d.0 && leb p.1 ride.latest) (leb d.1 (p.1 + ride.longest)) keeps in
    let (places, in_time) = and_parts (is_pickup_at ride.from p.0 && is_dropoff_at ride.to d.0) (leb p.1 ride.latest) three in
    elim there [
      | inl first ↦ omega (arith, leb-true p.1 ride.latest in_time, ap (λ (w : Stop × ℕ). w.1) first)
      | inr later ↦ elim later [
        | inl second ↦ omega (arith, leb-true p.1 ride.latest in_time, leb-true d.1 (p.1 + ride.longest) within, ap (λ (w : Stop × ℕ). w.1) second)
        | inr none ↦ absurd none
      ]
    ]
kept-visit ride (Some at) (d ∷ []) visit latest longest before keeps there =
    let (place, within) = and_parts (is_dropoff_at ride.to d.0) (leb d.1 (at + ride.longest)) keeps in
    elim there [
      | inl first ↦ omega (arith, before, leb-true d.1 (at + ride.longest) within, ap (λ (w : Stop × ℕ). w.1) first)
      | inr none ↦ absurd none
    ]
kept-visit ride None [] visit latest longest before keeps there = absurd there
kept-visit ride None (p ∷ []) visit latest longest before keeps there = absurd (cc keeps)
kept-visit ride None (p ∷ d ∷ e ∷ visits) visit latest longest before keeps there = absurd (cc keeps)
kept-visit ride (Some at) [] visit latest longest before keeps there = absurd there
kept-visit ride (Some at) (d ∷ e ∷ visits) visit latest longest before keeps there = absurd (cc keeps)

-- each of a list passes
each-passes : {X : Type 0} (p : X → Bool) (xs : List X) (x : X) → list_all p xs ≡ true → Among x xs → p x ≡ true
each-passes p [] x all h = absurd h
each-passes p (y ∷ ys) x all (inl is) = ap p (sym is) ∙ (and_parts (p y) (list_all p ys) all).0
each-passes p (y ∷ ys) x all (inr later) = each-passes p ys x (and_parts (p y) (list_all p ys) all).1 later

-- a vehicle that keeps its promises from a start has no arrival after the last moment
pub arrival-kept : (roads : RoadMap) (v : Vehicle) (start dwell u : ℕ) → IsRouted roads v → keeps v start dwell ≡ true
    → Among u (times_of v start dwell) → u ≤ last_moment
arrival-kept roads v start dwell u r keeps_all there =
    let (s, visit) = visit-of-arrival dwell start u v.stops.items there in
    let (_, stop_there) = arrival-of-visit dwell start v.stops.items (s, u) visit in
    let of_some = All-contains (λ (stop : Stop). Contains (ride_ids v.rides.items) stop.ride) v.stops.items s r.planned.each_stop (contains_from_among v.stops.items s stop_there) in
    let (ride, ride_there, id_is) = among_map_back (λ (q : Ride). q.id) v.rides.items s.ride (among_from_contains (ride_ids v.rides.items) s.ride of_some) in
    let ride_fits = All-contains (IsRide roads) v.rides.items ride r.rides_fit (contains_from_among v.rides.items ride ride_there) in
    let picked = All-contains (λ (q : Ride). IfSome q.picked (λ at. at ≤ v.ready)) v.rides.items ride r.picked_before (contains_from_among v.rides.items ride ride_there) in
    let (two, _) = and_parts (leb (length v.stops.items) 16 && list_all (keeps_ride v start dwell) v.rides.items) (loads_fit v) keeps_all in
    let (_, each) = and_parts (leb (length v.stops.items) 16) (list_all (keeps_ride v start dwell) v.rides.items) two in
    let kept = each-passes (keeps_ride v start dwell) v.rides.items ride each ride_there in
    let among = among_filter (λ (w : Stop × ℕ). w.0.ride == ride.id) (visits_from dwell start v.stops.items) (s, u) visit (eq-eqb s.ride ride.id (sym id_is)) in
    kept-visit ride ride.picked (visits_of v start dwell ride.id) (s, u) ride_fits.latest_limit ride_fits.longest_limit
    (weaker ride.picked picked r.ready_limit) kept among
  where
    weaker : (o : Option ℕ) → IfSome o (λ at. at ≤ v.ready) → v.ready ≤ 1000003600 → IfSome o (λ at. at ≤ 1000003600)
    weaker None h limit = tt
    weaker (Some at) h limit = omega (arith, h, limit)

-- the drive of a vehicle that keeps its promises from a start
pub drive-kept : (roads : RoadMap) (v : Vehicle) (start dwell : ℕ) → IsRouted roads v → keeps v start dwell ≡ true → drive_of v dwell ≤ last_moment
drive-kept roads v start dwell r kept =
    elim (drive-among v dwell) [
      | inl none ↦ omega (arith, none)
      | inr last ↦
          let shifted = subst (λ n. Among (start + drive_of v dwell) (times_from dwell n v.stops.items)) (add-zero start)
          (arrival-shifted dwell start 0 (drive_of v dwell) v.stops.items last) in
          omega (arith, arrival-kept roads v start dwell (start + drive_of v dwell) r kept shifted)
    ]

-- a number of a list that is bounded
index-le : (m : ℕ) (xs : List ℕ) (i : ℕ) → ((u : ℕ) → Among u xs → u ≤ m) → slice_index xs i ≤ m
index-le m [] i h = omega arith
index-le m (x ∷ xs) zero h = h x (inl refl)
index-le m (x ∷ xs) (suc i) h = index-le m xs i (λ u there. h u (inr there))

-- the parts of an offer's plan
pub record PlanFacts (settings : Settings) (old : Vehicle) (i j time : ℕ) (new : Vehicle) (offer : Offer) : Type 0 where
  pub kept : keeps new (start_of old settings.lead time) settings.dwell ≡ true
  pub offer_is : offer ≡ record { i = i; j = j; cost = cost_of settings old new i (start_of old settings.lead time) time; start = start_of old settings.lead time; joins = joins_of new i j }

pub plan_facts : (settings : Settings) (old : Vehicle) (i j time : ℕ) (new : Vehicle) (offer : Offer) → offer_of_plan settings old i j time new ≡ Some offer
    → PlanFacts settings old i j time new offer
plan_facts settings old i j time new offer is =
    elim (keeps new (start_of old settings.lead time) settings.dwell)
    as (λ b. keeps new (start_of old settings.lead time) settings.dwell ≡ b
    → cond b (Some made) None ≡ Some offer → PlanFacts settings old i j time new offer) [
      | true ↦ λ kept some. record { kept = kept; offer_is = sym (same_Some made offer some) }
      | false ↦ λ _ none. absurd (cc none)
    ] refl is
  where
    made : Offer
    made = record { i = i; j = j; cost = cost_of settings old new i (start_of old settings.lead time) time; start = start_of old settings.lead time; joins = joins_of new i j }

-- the plan of an offer
pub record OfferPlan (roads : RoadMap) (settings : Settings) (v : Vehicle) (ride : Ride) (time i j : ℕ) (offer : Offer) : Type 0 where
  pub new : Vehicle
  pub in_order : i ≤ j
  pub in_range : j ≤ length v.stops.items
  pub is_open_then : is_open v time ≡ true
  pub inserted_is : inserted roads v ride i j ≡ Some new
  pub plan : PlanFacts settings v i j time new offer

pub offer_plan : (roads : RoadMap) (settings : Settings) (v : Vehicle) (ride : Ride) (time i j : ℕ) (offer : Offer)
    → offer_of roads settings v ride time i j ≡ Some offer → OfferPlan roads settings v ride time i j offer
offer_plan roads settings v ride time i j offer is =
    let facts = offer_facts roads settings v ride time i j offer is in
    elim (inserted roads v ride i j) as (λ o. inserted roads v ride i j ≡ o
    → option_and_then (offer_of_plan settings v i j time) o ≡ Some offer → OfferPlan roads settings v ride time i j offer) [
      | None ↦ λ _ none. absurd (cc none)
      | Some new ↦ λ new_is some. record {
        new = new;
        in_order = facts.in_order;
        in_range = facts.in_range;
        is_open_then = facts.is_open_then;
        inserted_is = new_is;
        plan = plan_facts settings v i j time new offer some;
      }
    ] refl facts.of_plan

-- an offer costs less than 2^42
pub cost-lt : (roads : RoadMap) (settings : Settings) (v : Vehicle) (ride : Ride) (time i j : ℕ) (offer : Offer) → IsRoadMap roads → IsSettings settings
    → IsRouted roads v → IsRide roads ride → IsFresh v.rides.items ride.id → ride.picked ≡ None
    → offer_of roads settings v ride time i j ≡ Some offer → offer.cost < 2 ^ 42
cost-lt roads settings v ride time i j offer fits ranges r ride_fits fresh waits is =
    let plan = offer_plan roads settings v ride time i j offer is in
    let start : ℕ = start_of v settings.lead time in
    let new_routed = routed-with roads v ride i j plan.new r ride_fits fresh waits plan.in_order plan.in_range plan.inserted_is in
    let drive = drive-kept roads plan.new start settings.dwell new_routed plan.plan.kept in
    let pickup = index-le last_moment (times_of plan.new start settings.dwell) i
    (λ u there. arrival-kept roads plan.new start settings.dwell u new_routed plan.plan.kept there) in
    let first : settings.drive * (drive_of plan.new settings.dwell - drive_of v settings.dwell) ≤ 1000 * last_moment
    = mul-le settings.drive 1000 _ last_moment ranges.drive_limit (omega (arith, drive)) in
    let second : settings.wait * (slice_index (times_of plan.new start settings.dwell) i - time) ≤ 1000 * last_moment
    = mul-le settings.wait 1000 _ last_moment ranges.wait_limit (omega (arith, pickup)) in
    let cost_is : offer.cost ≡ cost_of settings v plan.new i start time = ap (λ (o : Offer). o.cost) plan.plan.offer_is in
    omega (arith, first, second, cost_is)
  where
    mul-le : (a b c d : ℕ) → a ≤ b → c ≤ d → a * c ≤ b * d
    mul-le a b c d h k = mul-le-mul h k
