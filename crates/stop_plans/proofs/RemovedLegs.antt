-- The legs of a plan with a ride less.
use Rattle.stop_plans.proofs.Common.{◌≡◌, ℕ, zero, suc, ◌+◌, ◌<◌, ◌≤◌, ◌⊎◌, inl, inr, Bool, true, false, not, cond, ◌&&◌, List, [], ◌∷◌, ◌++◌, length, get_or, eqb, refl, sym, ◌∙◌, ap, subst, append_assoc, length-append, arith, length-map, map, Option, Some, None, remove, ◌==◌, Contains, AllByRecursion, eq-eqb, cases_order, filter-append, All-contains, same_Some, Kind, Pickup, Dropoff, Ride, Stop, Vehicle, RoadMap, HasLegs, IsPlanFor, visit_of, visits_due, stops_of, ride_ids, routed, with_plan, stops_without, rides_without, without_ride, leg_at, all-kept, route_without, without_ride-is, RemovesFrom, is_kind, is_visit, IsFirst, with_leg, relegged}
use Rattle.model_laws.proofs.plain.Among.{Among, among_from_contains, contains_from_among, among_map_back}
use Rattle.model_laws.proofs.AboardLoads.{filter-kept, filter-skipped}
use Rattle.stop_plans.proofs.InsertedLegs.{route_head, behind-new}

-- one stop out of a list, by its place
pub remove-at : (xs : List Stop) (y : Stop) (ys : List Stop) → remove (xs ++ y ∷ ys) (length xs) ≡ xs ++ ys
remove-at [] y ys = refl
remove-at (x ∷ xs) y ys = ap (λ rest. x ∷ rest) (remove-at xs y ys)

-- another leg behind some stops
pub relegged-at : (xs : List Stop) (leg : ℕ) (ys : List Stop) → relegged (length xs) leg (xs ++ ys) ≡ xs ++ relegged 0 leg ys
relegged-at [] leg ys = refl
relegged-at (x ∷ xs) leg ys = ap (λ rest. x ∷ rest) (relegged-at xs leg ys)

-- a second leg at the front covers a first
relegged-twice : (a b : ℕ) (xs : List Stop) → relegged 0 a (relegged 0 b xs) ≡ relegged 0 a xs
relegged-twice a b [] = refl
relegged-twice a b (x ∷ xs) = refl

-- the legs behind stops that stay
pub leg-behind : (xs ys : List Stop) → leg_at (xs ++ ys) (length xs) ≡ leg_at ys 0
leg-behind [] ys = refl
leg-behind (x ∷ xs) ys = leg-behind xs ys

leg-beyond : (xs ys : List Stop) (n : ℕ) → leg_at (xs ++ ys) (length xs + n) ≡ leg_at ys n
leg-beyond [] ys n = ap (leg_at ys) (zero-plus n)
  where
    zero-plus : (m : ℕ) → 0 + m ≡ m
    zero-plus m = omega arith
leg-beyond (x ∷ xs) ys n = ap (leg_at (x ∷ (xs ++ ys))) (suc-plus (length xs) n) ∙ leg-beyond xs ys n
  where
    suc-plus : (a b : ℕ) → suc a + b ≡ suc (a + b)
    suc-plus a b = omega arith

-- a route whose first stops have their legs
pub route-front : (roads : RoadMap) (at : ℕ) (front back rest out : List Stop) → HasLegs roads at (front ++ rest)
    → routed roads at (front ++ back) ≡ Some out
    → (end : ℕ) × (more : List Stop) × HasLegs roads end rest × (routed roads end back ≡ Some more) × (out ≡ front ++ more)
route-front roads at [] back rest out legs is = (at, out, legs, is, refl)
route-front roads at (s ∷ front) back rest out (there, legs) is =
    let head = route_head roads at s (front ++ back) out is in
    let (end, more, rest_legs, route, rest_is) = route-front roads s.node front back rest head.rest legs head.on in
    let leg_is : head.leg ≡ s.leg = same_Some head.leg s.leg (sym head.there ∙ there) in
    (end, more, rest_legs, route, head.out_is ∙ ap (λ leg. with_leg leg s ∷ head.rest) leg_is ∙ ap (λ xs. s ∷ xs) rest_is)

-- the legs of a plan with two stops less
pub two-less : (roads : RoadMap) (at : ℕ) (before : List Stop) (p : Stop) (between : List Stop) (d : Stop) (after out : List Stop)
    → HasLegs roads at (before ++ p ∷ (between ++ d ∷ after)) → routed roads at (before ++ (between ++ after)) ≡ Some out
    → out ≡ before ++ relegged 0 (leg_at out (length before)) (between ++ relegged 0 (leg_at out (length before + length between)) after)
two-less roads at before p between d after out legs is =
    let (end, more, (there, rest_legs), route, out_is) = route-front roads at before (between ++ after) (p ∷ (between ++ d ∷ after)) out legs is in
    let rest = by_between end p.node between more rest_legs route in
    out_is ∙ ap (λ xs. before ++ xs) rest
    ∙ ap (λ n. before ++ relegged 0 n (between ++ relegged 0 (leg_at more (length between)) after)) (sym (ap (λ xs. leg_at xs (length before)) out_is ∙ leg-behind before more))
    ∙ ap (λ n. before ++ relegged 0 (leg_at out (length before)) (between ++ relegged 0 n after))
    (sym (ap (λ xs. leg_at xs (length before + length between)) out_is ∙ leg-beyond before more (length between)))
  where
    by_between : (from at_pickup : ℕ) (middle more : List Stop) → HasLegs roads at_pickup (middle ++ d ∷ after) → routed roads from (middle ++ after) ≡ Some more
        → more ≡ relegged 0 (leg_at more 0) (middle ++ relegged 0 (leg_at more (length middle)) after)
    by_between from at_pickup [] more (there, rest) route =
        behind-new roads d.node from after more rest route ∙ sym (relegged-twice (leg_at more 0) (leg_at more 0) after)
    by_between from at_pickup (x ∷ middle) more (there, rest) route =
        let head = route_head roads from x (middle ++ after) more route in
        let (end, tail, (d_there, after_legs), tail_route, tail_is) = route-front roads x.node middle after (d ∷ after) head.rest rest head.on in
        let behind = behind-new roads d.node end after tail after_legs tail_route in
        let more_is : more ≡ with_leg head.leg x ∷ (middle ++ tail) = head.out_is ∙ ap (λ xs. with_leg head.leg x ∷ xs) tail_is in
        more_is ∙ ap (λ xs. with_leg head.leg x ∷ (middle ++ xs)) behind
        ∙ ap (λ n. with_leg head.leg x ∷ (middle ++ relegged 0 n after)) (sym (leg-behind middle tail))
        ∙ ap (λ xs. with_leg (leg_at xs 0) x ∷ (middle ++ relegged 0 (leg_at xs (suc (length middle))) after)) (sym more_is)

-- no stop of the parts is of the ride
pub record PartsApart (id : ℕ) (before between after : List Stop) : Type 0 where
  pub none_before : AllByRecursion (λ (s : Stop). eqb s.ride id ≡ false) before
  pub none_between : AllByRecursion (λ (s : Stop). eqb s.ride id ≡ false) between
  pub none_after : AllByRecursion (λ (s : Stop). eqb s.ride id ≡ false) after

none-of : (id : ℕ) (xs : List Stop) → stops_of id xs ≡ [] → AllByRecursion (λ (s : Stop). eqb s.ride id ≡ false) xs
none-of id [] h = tt
none-of id (x ∷ xs) h =
    elim (eqb x.ride id) as (λ b. eqb x.ride id ≡ b → cond b (x ∷ stops_of id xs) (stops_of id xs) ≡ []
    → (eqb x.ride id ≡ false) × AllByRecursion (λ (s : Stop). eqb s.ride id ≡ false) xs) [
      | true ↦ λ _ is. absurd (cc is)
      | false ↦ λ other is. (other, none-of id xs is)
    ] refl h

-- the ride of a stop, and the visits that it needs
visits-there : (rides : List Ride) (stops : List Stop) (id : ℕ) (s : Stop) → IsPlanFor rides stops → Among s stops → s.ride ≡ id
    → (ride : Ride) × (map visit_of (stops_of id stops) ≡ visits_due ride ride.picked)
visits-there rides stops id s plan there is =
    let of_some = All-contains (λ (stop : Stop). Contains (ride_ids rides) stop.ride) stops s plan.each_stop (contains_from_among stops s there) in
    let (ride, ride_there, id_is) = among_map_back (λ (q : Ride). q.id) rides s.ride (among_from_contains (ride_ids rides) s.ride of_some) in
    let needs = All-contains (λ (q : Ride). map visit_of (stops_of q.id stops) ≡ visits_due q q.picked) rides ride plan.each_ride (contains_from_among rides ride ride_there) in
    (ride, subst (λ n. map visit_of (stops_of n stops) ≡ visits_due ride ride.picked) (id_is ∙ is) needs)

-- at most two visits are due
few-visits : (ride : Ride) (picked : Option ℕ) → length (visits_due ride picked) ≤ 2
few-visits ride None = omega arith
few-visits ride (Some at) = omega arith

pub parts-apart : (rides : List Ride) (stops : List Stop) (id : ℕ) (before : List Stop) (p : Stop) (between : List Stop) (d : Stop) (after : List Stop)
    → IsPlanFor rides stops → stops ≡ before ++ p ∷ (between ++ d ∷ after) → p.ride ≡ id → d.ride ≡ id → PartsApart id before between after
parts-apart rides stops id before p between d after plan is p_is d_is = record {
  none_before = none-of id before (empty (stops_of id before) (omega (arith, total)));
  none_between = none-of id between (empty (stops_of id between) (omega (arith, total)));
  none_after = none-of id after (empty (stops_of id after) (omega (arith, total)));
}
  where
    empty : (xs : List Stop) → length xs ≤ 0 → xs ≡ []
    empty [] h = refl
    empty (x ∷ xs) h = absurd (omega arith)

    there : Among p stops
    there = subst (Among p) (sym is) (among-middle before p (between ++ d ∷ after))
      where
        among-middle : (xs : List Stop) (x : Stop) (ys : List Stop) → Among x (xs ++ x ∷ ys)
        among-middle [] x ys = inl refl
        among-middle (y ∷ xs) x ys = inr (among-middle xs x ys)

    split : stops_of id stops ≡ stops_of id before ++ p ∷ (stops_of id between ++ d ∷ stops_of id after)
    split =
        ap (stops_of id) is
        ∙ filter-append (λ (s : Stop). s.ride == id) before (p ∷ (between ++ d ∷ after))
        ∙ ap (λ xs. stops_of id before ++ xs)
        (filter-kept (λ (s : Stop). s.ride == id) p (between ++ d ∷ after) (eq-eqb p.ride id p_is)
        ∙ ap (λ xs. p ∷ xs) (filter-append (λ (s : Stop). s.ride == id) between (d ∷ after)
        ∙ ap (λ xs. stops_of id between ++ xs) (filter-kept (λ (s : Stop). s.ride == id) d after (eq-eqb d.ride id d_is))))

    total : length (stops_of id before) + length (stops_of id between) + length (stops_of id after) ≤ 0
    total =
        let (ride, needs) = visits-there rides stops id p plan there p_is in
        omega (
          arith,
          ap length needs,
          few-visits ride ride.picked,
          length-map (stops_of id stops) visit_of,
          ap length split,
          length-append (stops_of id before) (p ∷ (stops_of id between ++ d ∷ stops_of id after)),
          length-append (stops_of id between) (d ∷ stops_of id after),
        )

-- the stops without the ride
pub without-parts : (id : ℕ) (before : List Stop) (p : Stop) (between : List Stop) (d : Stop) (after : List Stop) → PartsApart id before between after
    → p.ride ≡ id → d.ride ≡ id → stops_without id (before ++ p ∷ (between ++ d ∷ after)) ≡ before ++ (between ++ after)
without-parts id before p between d after apart p_is d_is =
    filter-append (λ (s : Stop). not (s.ride == id)) before (p ∷ (between ++ d ∷ after))
    ∙ ap (λ xs. xs ++ stops_without id (p ∷ (between ++ d ∷ after))) (all-kept id before apart.none_before)
    ∙ ap (λ xs. before ++ xs)
    (filter-skipped (λ (s : Stop). not (s.ride == id)) p (between ++ d ∷ after) (ap not (eq-eqb p.ride id p_is))
    ∙ filter-append (λ (s : Stop). not (s.ride == id)) between (d ∷ after)
    ∙ ap (λ xs. xs ++ stops_without id (d ∷ after)) (all-kept id between apart.none_between)
    ∙ ap (λ xs. between ++ xs)
    (filter-skipped (λ (s : Stop). not (s.ride == id)) d after (ap not (eq-eqb d.ride id d_is)) ∙ all-kept id after apart.none_after))

-- the first place of a visit, where the parts before it have none
pub first-place : (test : Stop → Bool) (xs : List Stop) (y : Stop) (ys : List Stop) (place : ℕ) → IsFirst test (xs ++ y ∷ ys) place
    → AllByRecursion (λ s. test s ≡ false) xs → test y ≡ true → place ≡ length xs
first-place test xs y ys place first none here =
    elim (cases_order place (length xs)) [
      | inl is ↦ is
      | inr other ↦ elim other [
        | inl below ↦ absurd (cc (first.passes y (omega (arith, below, length-append xs (y ∷ ys))), at_front xs place none below))
        | inr above ↦ absurd (cc (first.none_before (length xs) y above, at_middle xs))
      ]
    ]
  where
    at_front : (zs : List Stop) (n : ℕ) → AllByRecursion (λ s. test s ≡ false) zs → n < length zs → test (get_or (zs ++ y ∷ ys) n y) ≡ false
    at_front [] n h k = absurd (omega arith)
    at_front (z ∷ zs) zero (first_fails, rest) k = first_fails
    at_front (z ∷ zs) (suc n) (first_fails, rest) k = at_front zs n rest (omega arith)

    at_middle : (zs : List Stop) → test (get_or (zs ++ y ∷ ys) (length zs) y) ≡ true
    at_middle [] = here
    at_middle (z ∷ zs) = at_middle zs

-- a stop that is not of the ride is no visit of it
pub no-visits : (id : ℕ) (kind : Kind) (xs : List Stop) → AllByRecursion (λ (s : Stop). eqb s.ride id ≡ false) xs
    → AllByRecursion (λ s. is_visit id kind s ≡ false) xs
no-visits id kind [] h = tt
no-visits id kind (x ∷ xs) (first, rest) = (ap (λ b. b && is_kind x.kind kind) first, no-visits id kind xs rest)

-- where the pickup and the drop-off stand
pub record RemovalPlaces (roads : RoadMap) (v : Vehicle) (id first second : ℕ) (h : RemovesFrom roads v id first second) (pickup dropoff : ℕ) : Type 0 where
  pub apart : PartsApart id h.before h.between h.after
  pub pickup_place : pickup ≡ length h.before
  pub dropoff_place : dropoff ≡ length (h.before ++ h.pickup ∷ h.between)

regroup : (before : List Stop) (p : Stop) (between : List Stop) (d : Stop) (after : List Stop)
    → before ++ p ∷ (between ++ d ∷ after) ≡ (before ++ p ∷ between) ++ d ∷ after
regroup before p between d after = sym (append_assoc before (p ∷ between) (d ∷ after))

pub removal_places : (roads : RoadMap) (v : Vehicle) (id first second : ℕ) (h : RemovesFrom roads v id first second) (pickup dropoff : ℕ)
    → IsFirst (is_visit id Pickup) v.stops.items pickup → IsFirst (is_visit id Dropoff) v.stops.items dropoff
    → RemovalPlaces roads v id first second h pickup dropoff
removal_places roads v id first second h pickup dropoff first_pickup first_dropoff =
    let apart = parts-apart v.rides.items v.stops.items id h.before h.pickup h.between h.dropoff h.after h.lawful.routed.planned h.stops_are h.pickup_is.0 h.dropoff_is.0 in
    record {
      apart = apart;
      pickup_place = first-place (is_visit id Pickup) h.before h.pickup (h.between ++ h.dropoff ∷ h.after) pickup
          (subst (λ stops. IsFirst (is_visit id Pickup) stops pickup) h.stops_are first_pickup)
          (no-visits id Pickup h.before apart.none_before) (pickup_passes h.pickup h.pickup_is);
      dropoff_place = first-place (is_visit id Dropoff) (h.before ++ h.pickup ∷ h.between) h.dropoff h.after dropoff
          (subst (λ stops. IsFirst (is_visit id Dropoff) stops dropoff) (h.stops_are ∙ regroup h.before h.pickup h.between h.dropoff h.after) first_dropoff)
          (each-append h.before (h.pickup ∷ h.between) (no-visits id Dropoff h.before apart.none_before)
          (pickup_fails h.pickup h.pickup_is, no-visits id Dropoff h.between apart.none_between))
          (dropoff_passes h.dropoff h.dropoff_is);
    }
  where
    pickup_passes : (s : Stop) → (s.ride ≡ id) × (s.kind ≡ Pickup) → is_visit id Pickup s ≡ true
    pickup_passes s (ride_is, kind_is) = rw (eq-eqb s.ride id ride_is, kind_is) refl

    pickup_fails : (s : Stop) → (s.ride ≡ id) × (s.kind ≡ Pickup) → is_visit id Dropoff s ≡ false
    pickup_fails s (ride_is, kind_is) = rw (eq-eqb s.ride id ride_is, kind_is) refl

    dropoff_passes : (s : Stop) → (s.ride ≡ id) × (s.kind ≡ Dropoff) → is_visit id Dropoff s ≡ true
    dropoff_passes s (ride_is, kind_is) = rw (eq-eqb s.ride id ride_is, kind_is) refl

    each-append : (xs ys : List Stop) → AllByRecursion (λ s. is_visit id Dropoff s ≡ false) xs → AllByRecursion (λ s. is_visit id Dropoff s ≡ false) ys
        → AllByRecursion (λ s. is_visit id Dropoff s ≡ false) (xs ++ ys)
    each-append [] ys a b = b
    each-append (x ∷ xs) ys (head, rest) b = (head, each-append xs ys rest b)

-- the stops after the two were taken out and the two legs behind them set
abbrev pub taken_out : ℕ → ℕ → ℕ → ℕ → List Stop → List Stop
taken_out pickup dropoff first second stops = relegged pickup first (remove (relegged dropoff second (remove stops dropoff)) pickup)

pub removes-from : (roads : RoadMap) (v : Vehicle) (id first second : ℕ) (h : RemovesFrom roads v id first second) (pickup dropoff : ℕ)
    → RemovalPlaces roads v id first second h pickup dropoff
    → with_plan v (rides_without id v.rides.items) (taken_out pickup dropoff first second v.stops.items) ≡ without_ride roads v id
removes-from roads v id first second h pickup dropoff places =
    let left = route_without roads v id 0 0 h.map_fits h.lawful.routed.legs in
    let stops_left : stops_without id v.stops.items ≡ h.before ++ (h.between ++ h.after)
    = ap (stops_without id) h.stops_are ∙ without-parts id h.before h.pickup h.between h.dropoff h.after places.apart h.pickup_is.0 h.dropoff_is.0 in
    let route : routed roads v.at (h.before ++ (h.between ++ h.after)) ≡ Some left.out
    = ap (routed roads v.at) (sym stops_left) ∙ left.route in
    let legs : HasLegs roads v.at (h.before ++ h.pickup ∷ (h.between ++ h.dropoff ∷ h.after)) = subst (HasLegs roads v.at) h.stops_are h.lawful.routed.legs in
    let less = two-less roads v.at h.before h.pickup h.between h.dropoff h.after left.out legs route in
    let vehicle_is = without_ride-is roads v id left.out left.route in
    let first_is : first ≡ leg_at left.out (length h.before) = h.first_is ∙ ap (λ (w : Vehicle). leg_at w.stops.items (length h.before)) vehicle_is in
    let second_is : second ≡ leg_at left.out (length h.before + length h.between)
    = h.second_is ∙ ap (λ (w : Vehicle). leg_at w.stops.items (length h.before + length h.between)) vehicle_is in
    let made : taken_out pickup dropoff first second v.stops.items ≡ h.before ++ relegged 0 first (h.between ++ relegged 0 second h.after)
    = ap (λ n. taken_out n dropoff first second v.stops.items) places.pickup_place
    ∙ ap (λ n. taken_out (length h.before) n first second v.stops.items) places.dropoff_place
    ∙ ap (taken_out (length h.before) (length (h.before ++ h.pickup ∷ h.between)) first second) (h.stops_are ∙ regroup h.before h.pickup h.between h.dropoff h.after)
    ∙ ap (λ xs. relegged (length h.before) first (remove (relegged (length (h.before ++ h.pickup ∷ h.between)) second xs) (length h.before)))
    (remove-at (h.before ++ h.pickup ∷ h.between) h.dropoff h.after)
    ∙ ap (λ xs. relegged (length h.before) first (remove xs (length h.before)))
    (relegged-at (h.before ++ h.pickup ∷ h.between) second h.after ∙ append_assoc h.before (h.pickup ∷ h.between) (relegged 0 second h.after))
    ∙ ap (relegged (length h.before) first) (remove-at h.before h.pickup (h.between ++ relegged 0 second h.after))
    ∙ relegged-at h.before first (h.between ++ relegged 0 second h.after) in
    ap (with_plan v (rides_without id v.rides.items))
    (made
    ∙ ap (λ n. h.before ++ relegged 0 n (h.between ++ relegged 0 second h.after)) first_is
    ∙ ap (λ n. h.before ++ relegged 0 (leg_at left.out (length h.before)) (h.between ++ relegged 0 n h.after)) second_is
    ∙ sym less)
    ∙ sym vehicle_is

-- lengths of the stops at the removals
pub dropoff-within : (roads : RoadMap) (v : Vehicle) (id first second : ℕ) (h : RemovesFrom roads v id first second) (pickup dropoff : ℕ)
    → RemovalPlaces roads v id first second h pickup dropoff → dropoff < length v.stops.items
dropoff-within roads v id first second h pickup dropoff places =
    omega (
      arith,
      places.dropoff_place,
      ap length (h.stops_are ∙ regroup h.before h.pickup h.between h.dropoff h.after),
      length-append (h.before ++ h.pickup ∷ h.between) (h.dropoff ∷ h.after),
    )

pub pickup-within : (roads : RoadMap) (v : Vehicle) (id first second : ℕ) (h : RemovesFrom roads v id first second) (pickup dropoff : ℕ)
    → RemovalPlaces roads v id first second h pickup dropoff → pickup < length (relegged dropoff second (remove v.stops.items dropoff))
pickup-within roads v id first second h pickup dropoff places =
    let made = ap (λ n. relegged n second (remove v.stops.items n)) places.dropoff_place
    ∙ ap (λ xs. relegged (length (h.before ++ h.pickup ∷ h.between)) second (remove xs (length (h.before ++ h.pickup ∷ h.between))))
    (h.stops_are ∙ regroup h.before h.pickup h.between h.dropoff h.after)
    ∙ ap (relegged (length (h.before ++ h.pickup ∷ h.between)) second) (remove-at (h.before ++ h.pickup ∷ h.between) h.dropoff h.after)
    ∙ relegged-at (h.before ++ h.pickup ∷ h.between) second h.after in
    omega (
      arith,
      places.pickup_place,
      ap length made,
      length-append (h.before ++ h.pickup ∷ h.between) (relegged 0 second h.after),
      length-append h.before (h.pickup ∷ h.between),
    )
