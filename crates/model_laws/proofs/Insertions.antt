-- A plan with one ride more: the other stops keep their order, exactly two are added, and the plan is what the rides need.
use Rattle.model_laws.proofs.Common.{◌≡◌, ℕ, zero, suc, ◌+◌, ◌≤◌, inl, inr, Bool, true, false, not, List, [], ◌∷◌, ◌++◌, length, take, drop, eqb, refl, sym, ◌∙◌, ap, subst, arith, length-append, append_assoc, map, Some, None, option_map, ◌==◌, Contains, IfSome, filter, AllByRecursion, eqb-true, eq-eqb, All-from_recursion, recursion_from_All, All-push, filter-append, Contains-append_left, Contains-push, same_Some, Ride, Stop, Vehicle, RoadMap, IsRide, visits_due, visit_of, stops_of, ride_ids, IsPlanFor, IsRouted, IsFresh, routed, pickup_of, dropoff_of, stops_with, with_plan, inserted, stops_without}
use Rattle.std.specs.List.{IsDistinct}
use Rattle.model_laws.proofs.plain.Among.{Among, among_from_contains, contains_from_among}
use Rattle.model_laws.proofs.plain.Each.{each-append, each-take, each-drop}
use Rattle.model_laws.proofs.Routes.{routed-has_legs}
use Rattle.model_laws.proofs.PlanStops.{unlegged-routed, plan-same}
use Rattle.model_laws.proofs.AboardLoads.{filter-kept, filter-skipped}

-- the stops before the pickup, between the two new stops and after the drop-off
pub stops_with-split : (ride : Ride) (i j : ℕ) (stops : List Stop) → i ≤ j → j ≤ length stops
    → stops_with ride i j stops ≡ take i stops ++ pickup_of ride ∷ (drop i (take j stops) ++ dropoff_of ride ∷ drop j stops)
stops_with-split ride zero j stops in_order in_range = refl
stops_with-split ride (suc i) zero stops in_order in_range = absurd (omega arith)
stops_with-split ride (suc i) (suc j) [] in_order in_range = absurd (omega arith)
stops_with-split ride (suc i) (suc j) (s ∷ stops) in_order in_range =
    ap (λ rest. s ∷ rest) (stops_with-split ride i j stops (omega arith) (omega arith))

-- the three parts of the old stops
pub parts-join : (i j : ℕ) (stops : List Stop) → i ≤ j → j ≤ length stops → take i stops ++ (drop i (take j stops) ++ drop j stops) ≡ stops
parts-join zero j stops in_order in_range = take-drop j stops
  where
    take-drop : (n : ℕ) (xs : List Stop) → take n xs ++ drop n xs ≡ xs
    take-drop zero xs = refl
    take-drop (suc n) [] = refl
    take-drop (suc n) (x ∷ xs) = ap (λ rest. x ∷ rest) (take-drop n xs)
parts-join (suc i) zero stops in_order in_range = absurd (omega arith)
parts-join (suc i) (suc j) [] in_order in_range = absurd (omega arith)
parts-join (suc i) (suc j) (s ∷ stops) in_order in_range = ap (λ rest. s ∷ rest) (parts-join i j stops (omega arith) (omega arith))

-- a test of stops that keeps neither new stop, and one that keeps both
pub filter-parts : (p : Stop → Bool) (i j : ℕ) (stops : List Stop) → i ≤ j → j ≤ length stops
    → filter p (take i stops) ++ (filter p (drop i (take j stops)) ++ filter p (drop j stops)) ≡ filter p stops
filter-parts p i j stops in_order in_range =
    ap (λ rest. filter p (take i stops) ++ rest) (sym (filter-append p (drop i (take j stops)) (drop j stops)))
    ∙ sym (filter-append p (take i stops) (drop i (take j stops) ++ drop j stops))
    ∙ ap (filter p) (parts-join i j stops in_order in_range)

pub filter-with : (p : Stop → Bool) (ride : Ride) (i j : ℕ) (stops : List Stop) → i ≤ j → j ≤ length stops
    → filter p (stops_with ride i j stops)
    ≡ filter p (take i stops) ++ filter p (pickup_of ride ∷ []) ++ (filter p (drop i (take j stops)) ++ filter p (dropoff_of ride ∷ []) ++ filter p (drop j stops))
filter-with p ride i j stops in_order in_range =
    ap (filter p) (stops_with-split ride i j stops in_order in_range)
    ∙ filter-append p (take i stops) (pickup_of ride ∷ (drop i (take j stops) ++ dropoff_of ride ∷ drop j stops))
    ∙ ap (λ rest. filter p (take i stops) ++ rest)
    (filter-append p (pickup_of ride ∷ []) (drop i (take j stops) ++ dropoff_of ride ∷ drop j stops)
    ∙ ap (λ rest. filter p (pickup_of ride ∷ []) ++ rest)
    (filter-append p (drop i (take j stops)) (dropoff_of ride ∷ drop j stops)
    ∙ ap (λ rest. filter p (drop i (take j stops)) ++ rest) (filter-append p (dropoff_of ride ∷ []) (drop j stops)
    ∙ refl)
    ∙ sym (append_assoc (filter p (drop i (take j stops))) (filter p (dropoff_of ride ∷ [])) (filter p (drop j stops)))))
    ∙ sym (append_assoc (filter p (take i stops)) (filter p (pickup_of ride ∷ [])) _)

-- a test that passes neither new stop keeps what it kept
pub filter-with-neither : (p : Stop → Bool) (ride : Ride) (i j : ℕ) (stops : List Stop) → i ≤ j → j ≤ length stops
    → p (pickup_of ride) ≡ false → p (dropoff_of ride) ≡ false → filter p (stops_with ride i j stops) ≡ filter p stops
filter-with-neither p ride i j stops in_order in_range no_pickup no_dropoff =
    filter-with p ride i j stops in_order in_range
    ∙ ap (λ xs. filter p (take i stops) ++ xs ++ (filter p (drop i (take j stops)) ++ filter p (dropoff_of ride ∷ []) ++ filter p (drop j stops)))
    (filter-skipped p (pickup_of ride) [] no_pickup)
    ∙ ap (λ xs. filter p (take i stops) ++ [] ++ (filter p (drop i (take j stops)) ++ xs ++ filter p (drop j stops)))
    (filter-skipped p (dropoff_of ride) [] no_dropoff)
    ∙ simp append_nil refl
    ∙ filter-parts p i j stops in_order in_range
  where
    append_nil : (xs : List Stop) → xs ++ [] ≡ xs
    append_nil [] = refl
    append_nil (x ∷ xs) = ap (λ rest. x ∷ rest) (append_nil xs)

-- parts of nothing are nothing
nothing-appended : (xs ys : List Stop) → xs ++ ys ≡ [] → (xs ≡ []) × (ys ≡ [])
nothing-appended [] ys h = (refl, h)
nothing-appended (x ∷ xs) ys h = absurd (cc h)

-- a test that passes both new stops and no old one keeps the two
pub filter-with-both : (p : Stop → Bool) (ride : Ride) (i j : ℕ) (stops : List Stop) → i ≤ j → j ≤ length stops
    → p (pickup_of ride) ≡ true → p (dropoff_of ride) ≡ true → filter p stops ≡ []
    → filter p (stops_with ride i j stops) ≡ pickup_of ride ∷ dropoff_of ride ∷ []
filter-with-both p ride i j stops in_order in_range keeps_pickup keeps_dropoff none =
    let (first, others) = nothing-appended (filter p (take i stops)) (filter p (drop i (take j stops)) ++ filter p (drop j stops))
    (filter-parts p i j stops in_order in_range ∙ none) in
    let (second, third) = nothing-appended (filter p (drop i (take j stops))) (filter p (drop j stops)) others in
    filter-with p ride i j stops in_order in_range
    ∙ ap (λ xs. xs ++ filter p (pickup_of ride ∷ []) ++ (filter p (drop i (take j stops)) ++ filter p (dropoff_of ride ∷ []) ++ filter p (drop j stops))) first
    ∙ ap (λ xs. [] ++ xs ++ (filter p (drop i (take j stops)) ++ filter p (dropoff_of ride ∷ []) ++ filter p (drop j stops))) (filter-kept p (pickup_of ride) [] keeps_pickup)
    ∙ ap (λ xs. pickup_of ride ∷ (xs ++ filter p (dropoff_of ride ∷ []) ++ filter p (drop j stops))) second
    ∙ ap (λ xs. pickup_of ride ∷ (xs ++ filter p (drop j stops))) (filter-kept p (dropoff_of ride) [] keeps_dropoff)
    ∙ ap (λ xs. pickup_of ride ∷ dropoff_of ride ∷ xs) third

-- no stop is of a ride that is not there
fresh-stops : (rides : List Ride) (id : ℕ) (stops : List Stop) → IsFresh rides id
    → AllByRecursion (λ (s : Stop). Contains (ride_ids rides) s.ride) stops → AllByRecursion (λ (s : Stop). eqb s.ride id ≡ false) stops
fresh-stops rides id [] fresh h = tt
fresh-stops rides id (s ∷ stops) fresh (first, rest) = (differs (eqb s.ride id) refl, fresh-stops rides id stops fresh rest)
  where
    differs : (b : Bool) → eqb s.ride id ≡ b → b ≡ false
    differs true is = absurd (fresh (subst (Contains (ride_ids rides)) (eqb-true s.ride id is) first))
    differs false is = refl

pub none-kept : (id : ℕ) (stops : List Stop) → AllByRecursion (λ (s : Stop). eqb s.ride id ≡ false) stops → stops_of id stops ≡ []
none-kept id [] h = refl
none-kept id (s ∷ stops) (first, rest) = filter-skipped (λ (t : Stop). t.ride == id) s stops first ∙ none-kept id stops rest

pub all-kept : (id : ℕ) (stops : List Stop) → AllByRecursion (λ (s : Stop). eqb s.ride id ≡ false) stops → stops_without id stops ≡ stops
all-kept id [] h = refl
all-kept id (s ∷ stops) (first, rest) =
    filter-kept (λ (t : Stop). not (t.ride == id)) s stops (ap not first) ∙ ap (λ more. s ∷ more) (all-kept id stops rest)

-- no stop of the plan is of a ride that is not there
pub plan-fresh : (rides : List Ride) (stops : List Stop) (id : ℕ) → IsPlanFor rides stops → IsFresh rides id
    → AllByRecursion (λ (s : Stop). eqb s.ride id ≡ false) stops
plan-fresh rides stops id plan fresh = fresh-stops rides id stops fresh (recursion_from_All _ stops plan.each_stop)

-- the other stops keep their order
pub stops-with-without : (rides : List Ride) (stops : List Stop) (ride : Ride) (i j : ℕ) → IsPlanFor rides stops → IsFresh rides ride.id
    → i ≤ j → j ≤ length stops → stops_without ride.id (stops_with ride i j stops) ≡ stops
stops-with-without rides stops ride i j plan fresh in_order in_range =
    filter-with-neither (λ (s : Stop). not (s.ride == ride.id)) ride i j stops in_order in_range
    (ap not (eq-eqb ride.id ride.id refl)) (ap not (eq-eqb ride.id ride.id refl))
    ∙ all-kept ride.id stops (plan-fresh rides stops ride.id plan fresh)

-- exactly two stops are added
pub length-stops_with : (ride : Ride) (i j : ℕ) (stops : List Stop) → i ≤ j → j ≤ length stops
    → length (stops_with ride i j stops) ≡ length stops + 2
length-stops_with ride i j stops in_order in_range =
    omega (
      arith,
      ap length (stops_with-split ride i j stops in_order in_range),
      ap length (parts-join i j stops in_order in_range),
      length-append (take i stops) (pickup_of ride ∷ (drop i (take j stops) ++ dropoff_of ride ∷ drop j stops)),
      length-append (drop i (take j stops)) (dropoff_of ride ∷ drop j stops),
      length-append (take i stops) (drop i (take j stops) ++ drop j stops),
      length-append (drop i (take j stops)) (drop j stops),
    )

-- the ids of rides with one more at the end
pub ids-push : (rides : List Ride) (ride : Ride) → ride_ids (rides ++ ride ∷ []) ≡ ride_ids rides ++ ride.id ∷ []
ids-push [] ride = refl
ids-push (r ∷ rides) ride = ap (λ rest. r.id ∷ rest) (ids-push rides ride)

distinct-push : (xs : List ℕ) (x : ℕ) → IsDistinct eqb xs → (Contains xs x → ⊥) → IsDistinct eqb (xs ++ x ∷ [])
unfolding IsDistinct
distinct-push [] x distinct fresh = (tt, tt)
distinct-push (y ∷ ys) x (head, tail) fresh =
    (pushed ys head, distinct-push ys x tail (λ there. fresh (contains_from_among (y ∷ ys) x (inr (among_from_contains ys x there)))))
  where
    differs : (b : Bool) → eqb y x ≡ b → b ≡ false
    differs true is = absurd (fresh (contains_from_among (y ∷ ys) x (inl (eqb-true y x is))))
    differs false is = refl

    pushed : (zs : List ℕ) → AllByRecursion (λ z. eqb y z ≡ false) zs → AllByRecursion (λ z. eqb y z ≡ false) (zs ++ x ∷ [])
    pushed [] h = (differs (eqb y x) refl, tt)
    pushed (z ∷ zs) (first, rest) = (first, pushed zs rest)

-- the stops with a ride more are what the rides with it need
pub plan-with : (rides : List Ride) (stops : List Stop) (ride : Ride) (i j : ℕ) → IsPlanFor rides stops → IsFresh rides ride.id
    → ride.picked ≡ None → i ≤ j → j ≤ length stops → IsPlanFor (rides ++ ride ∷ []) (stops_with ride i j stops)
plan-with rides stops ride i j plan fresh waits in_order in_range = record {
  ids_differ = subst (IsDistinct eqb) (sym (ids-push rides ride)) (distinct-push (ride_ids rides) ride.id plan.ids_differ fresh);
  each_ride = All-push needs rides ride (All-from_recursion needs rides (each rides (λ r there. there) (recursion_from_All _ rides plan.each_ride))) new;
  each_stop = All-from_recursion _ (stops_with ride i j stops)
      (subst (AllByRecursion (λ (s : Stop). Contains (ride_ids (rides ++ ride ∷ [])) s.ride)) (sym (stops_with-split ride i j stops in_order in_range))
      (each-append _ (take i stops) _ (each-take _ i stops old)
      (newest, each-append _ (drop i (take j stops)) _ (each-drop _ i (take j stops) (each-take _ j stops old)) (newest, each-drop _ j stops old))));
}
  where
    needs : Ride → Type 0
    needs r = map visit_of (stops_of r.id (stops_with ride i j stops)) ≡ visits_due r r.picked

    newest : Contains (ride_ids (rides ++ ride ∷ [])) ride.id
    newest = subst (λ ids. Contains ids ride.id) (sym (ids-push rides ride)) (Contains-push (ride_ids rides) ride.id)

    kept_ids : (ss : List Stop) → AllByRecursion (λ (s : Stop). Contains (ride_ids rides) s.ride) ss
        → AllByRecursion (λ (s : Stop). Contains (ride_ids (rides ++ ride ∷ [])) s.ride) ss
    kept_ids [] h = tt
    kept_ids (s ∷ ss) (first, rest) =
        (subst (λ ids. Contains ids s.ride) (sym (ids-push rides ride)) (Contains-append_left (ride_ids rides) (ride.id ∷ []) s.ride first), kept_ids ss rest)

    old : AllByRecursion (λ (s : Stop). Contains (ride_ids (rides ++ ride ∷ [])) s.ride) stops
    old = kept_ids stops (recursion_from_All _ stops plan.each_stop)

    differs : (q : ℕ) → Contains (ride_ids rides) q → (b : Bool) → eqb ride.id q ≡ b → b ≡ false
    differs q there true is = absurd (fresh (subst (Contains (ride_ids rides)) (sym (eqb-true ride.id q is)) there))
    differs q there false is = refl

    each : (rs : List Ride) → ((r : Ride) → Among r rs → Among r rides)
        → AllByRecursion (λ (r : Ride). map visit_of (stops_of r.id stops) ≡ visits_due r r.picked) rs
        → AllByRecursion (λ (r : Ride). map visit_of (stops_of r.id (stops_with ride i j stops)) ≡ visits_due r r.picked) rs
    each [] part h = tt
    each (r ∷ rs) part (first, rest) =
        let other : eqb ride.id r.id ≡ false = differs r.id (id_there r (part r (inl refl))) (eqb ride.id r.id) refl in (
          ap (map visit_of) (filter-with-neither (λ (s : Stop). s.ride == r.id) ride i j stops in_order in_range other other) ∙ first,
          each rs (λ q there. part q (inr there)) rest,
        )
      where
        id_there : (q : Ride) → Among q rides → Contains (ride_ids rides) q.id
        id_there q there = contains_from_among (ride_ids rides) q.id (among-ids rides q there)
          where
            among-ids : (qs : List Ride) (x : Ride) → Among x qs → Among x.id (ride_ids qs)
            among-ids [] x h = absurd h
            among-ids (y ∷ ys) x (inl is) = inl (ap (λ (z : Ride). z.id) is)
            among-ids (y ∷ ys) x (inr later) = inr (among-ids ys x later)

    new : map visit_of (stops_of ride.id (stops_with ride i j stops)) ≡ visits_due ride ride.picked
    new =
        ap (map visit_of) (filter-with-both (λ (s : Stop). s.ride == ride.id) ride i j stops in_order in_range
        (eq-eqb ride.id ride.id refl) (eq-eqb ride.id ride.id refl) (none-kept ride.id stops (plan-fresh rides stops ride.id plan fresh)))
        ∙ ap (visits_due ride) (sym waits)

-- what an insertion gives: a route of the stops with the ride more
pub record InsertedFacts (roads : RoadMap) (v : Vehicle) (ride : Ride) (i j : ℕ) (new : Vehicle) : Type 0 where
  pub out : List Stop
  pub route : routed roads v.at (stops_with ride i j v.stops.items) ≡ Some out
  pub new_is : new ≡ with_plan v (v.rides.items ++ ride ∷ []) out

pub inserted_facts : (roads : RoadMap) (v : Vehicle) (ride : Ride) (i j : ℕ) (new : Vehicle) → inserted roads v ride i j ≡ Some new
    → InsertedFacts roads v ride i j new
inserted_facts roads v ride i j new is =
    elim (routed roads v.at (stops_with ride i j v.stops.items))
    as (λ o. routed roads v.at (stops_with ride i j v.stops.items) ≡ o
    → option_map (with_plan v (v.rides.items ++ ride ∷ [])) o ≡ Some new → InsertedFacts roads v ride i j new) [
      | None ↦ λ _ none. absurd (cc none)
      | Some out ↦ λ route some. record { out = out; route = route; new_is = sym (same_Some _ _ some) }
    ] refl is

-- a vehicle in order stays so with a ride more
pub routed-with : (roads : RoadMap) (v : Vehicle) (ride : Ride) (i j : ℕ) (new : Vehicle) → IsRouted roads v → IsRide roads ride
    → IsFresh v.rides.items ride.id → ride.picked ≡ None → i ≤ j → j ≤ length v.stops.items → inserted roads v ride i j ≡ Some new
    → IsRouted roads new
routed-with roads v ride i j new r ride_fits fresh waits in_order in_range is =
    let facts = inserted_facts roads v ride i j new is in
    let made : IsRouted roads (with_plan v (v.rides.items ++ ride ∷ []) facts.out) = record {
      some_seat = r.some_seat;
      seats_limit = r.seats_limit;
      chairs_limit = r.chairs_limit;
      at_node = r.at_node;
      ready_limit = r.ready_limit;
      rides_fit = All-push (IsRide roads) v.rides.items ride r.rides_fit ride_fits;
      picked_before = All-push (λ (q : Ride). IfSome q.picked (λ picked. picked ≤ v.ready)) v.rides.items ride r.picked_before
          (subst (λ o. IfSome o (λ picked. picked ≤ v.ready)) (sym waits) tt);
      planned = plan-same (v.rides.items ++ ride ∷ []) (stops_with ride i j v.stops.items) facts.out
          (unlegged-routed roads v.at (stops_with ride i j v.stops.items) facts.out facts.route)
          (plan-with v.rides.items v.stops.items ride i j r.planned fresh waits in_order in_range);
      legs = routed-has_legs roads v.at (stops_with ride i j v.stops.items) facts.out facts.route;
    } in
    subst (IsRouted roads) (sym facts.new_is) made
