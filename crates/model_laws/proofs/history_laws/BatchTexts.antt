-- Openings, commits and abandons have a text.
use Rattle.model_laws.proofs.Common.{◌≡◌, ℕ, ◌<◌, ◌≤◌, ◌^◌, ◌&&◌, Bool, true, false, not, cond, inl, inr, List, [], ◌∷◌, length, eqb, leb, ltb-true, refl, sym, ◌∙◌, ap, subst, arith, Option, Some, None, is_some, ◌==◌, nat_lt, All, IsSome, list_all, AllByRecursion, length-map, recursion_from_All, sum_by-cons, Desk, Outcome, Confirmed, Moved, Behind, Seat, Ride, Vehicle, may_open, next_batch, seat_of, version_of, priced_start, was_cancelled, outcome_by, outcome_of, outcomes_of, stops_with, NamesBatch, CommitsBatch, versions_of, start_of, keeps, keeps_ride, loads_fit, BatchCopy, Certifies, has_amount, find_vehicle, vehicle_ids, seat_offer, State, AcceptedRequest, has_ended, open_batch_of, IsSpelled, IsSpelledSeat, IsSpelledPair, IsSpelledOutcome, IsLawful, ride_ids, IsStart, IsInBatch, IsOpenBatch, leb-true, and_parts}
use Rattle.std.specs.Prelude.{sum_by}
use Rattle.model_laws.proofs.plain.Among.{Among, among_map, among_map_back, among_filter_back, found_among}
use Rattle.model_laws.proofs.AboardLoads.{length-same}
use Rattle.model_laws.proofs.BatchSums.{seating_cost-lt}
use Rattle.model_laws.proofs.Certificates.{seat_facts}
use Rattle.model_laws.proofs.Costs.{offer_plan}
use Rattle.model_laws.proofs.Insertions.{length-stops_with, inserted_facts}
use Rattle.model_laws.proofs.PlanStops.{unlegged-routed}
use Rattle.model_laws.proofs.plain.Sums.{sum_by-le-times}
use Rattle.model_laws.proofs.plain.Each.{of_all, all_of}
use Rattle.model_laws.proofs.history_laws.Lookups.{found_by}
use Rattle.model_laws.proofs.history_laws.Earlier.{later_of}
use Rattle.model_laws.proofs.history_laws.Invariant.{Inv, map_of}
use Rattle.model_laws.proofs.history_laws.Opening.{waits_in}
use Rattle.model_laws.proofs.history_laws.Confirming.{start-fits, priced_start-found}
use Rattle.model_laws.proofs.history_laws.Replies.{vehicle_spelled}

-- a term of a sum is at most the sum
term-le : {X : Type 0} (f : X → ℕ) (xs : List X) (x : X) → Among x xs → f x ≤ sum_by f xs
term-le f [] x there = absurd there
term-le f (y ∷ xs) x (inl is) = omega (arith, ap f is, sum_by-cons f y xs)
term-le f (y ∷ xs) x (inr there) = omega (arith, term-le f xs x there, sum_by-cons f y xs)

module _ (desks fed : ℕ) (start s : State) (begins : IsStart start) (inv : Inv desks fed IsSpelled start s)
    (few : fed ≤ 2000000000) where
  -- the version of a vehicle has a text
  version_spelled : (v : Vehicle) → Among v s.vehicles → v.version ≤ 2000002000
  version_spelled v there = omega (arith, inv.versions_fit v there, inv.few_opened, inv.few_asked, few)

  -- an opening has a text
  pub opened_said : (desk number time : ℕ) (requests : List ℕ) (plans : List (ℕ × ℕ)) → may_open s desk ≡ true
      → NamesBatch (next_batch s desk) number time requests plans
      → IsSpelled number × IsSpelled time × All IsSpelled requests × All IsSpelledPair plans
  opened_said desk number time requests plans may names =
      let (_, fewer) = and_parts (not (has_ended s (Desk desk)) && not (is_some (open_batch_of s desk))) (nat_lt s.opened s.asked) may in (
        omega (arith, names.number_is, ltb-true s.opened s.asked fewer, inv.few_asked),
        omega (arith, names.time_is, inv.clock_fits),
        subst (All IsSpelled) (sym names.requests_are) (all_of IsSpelled (ride_ids (next_batch s desk).requests) (λ id there.
            let (ride, ride_there, is) = among_map_back (λ (r : Ride). r.id) (next_batch s desk).requests id there in
            let w = waits_in s s.settings.batch ride ride_there in
            subst IsSpelled (ap (λ (r : Ride). r.id) w.ride_is ∙ is) (inv.ids_ok w.request w.there))),
        subst (All IsSpelledPair) (sym names.plans_are) (all_of IsSpelledPair (versions_of s.vehicles) (λ plan there.
            let (v, v_there, is) = among_map_back (λ (w : Vehicle). (w.id, w.version)) s.vehicles plan there in
            subst IsSpelledPair is (vehicle_spelled desks fed start s v begins inv v_there, omega (arith, version_spelled v v_there)))),
      )

  module _ (batch : BatchCopy) (there : Among batch s.batches) where
    opened : IsOpenBatch desks s batch
    opened = inv.batches_fit batch there

    -- the number of an open batch has a text
    pub number_said : IsSpelled batch.number
    number_said = omega (arith, opened.number_in.1, inv.few_opened, inv.few_asked)

    -- the ids of its requests have a text
    request_spelled : (ride : Ride) → Among ride batch.requests → IsSpelled ride.id
    request_spelled ride ride_there =
        let within = of_all (IsInBatch s batch.number) batch.requests ride opened.requests_are ride_there in
        inv.ids_ok (record { ride = ride; state = within.state })
        (found_among (λ (r : AcceptedRequest). r.ride.id == ride.id) s.requests
        (record { ride = ride; state = within.state }) within.accepted).0

    id_spelled : (id : ℕ) → Among id (ride_ids batch.requests) → IsSpelled id
    id_spelled id id_there =
        let (ride, ride_there, is) = among_map_back (λ (r : Ride). r.id) batch.requests id id_there in
        subst IsSpelled is (request_spelled ride ride_there)

    copy_spelled : (v : Vehicle) → Among v batch.vehicles → IsSpelled v.id
    copy_spelled v v_there = of_all (λ (w : Vehicle). w.id < 10 ^ 18) batch.vehicles v opened.fleet_fits.ids_fit v_there

    -- a seat has a text
    seat_said : (seat : Seat) → IsSome (seat_offer s.roads batch seat) → IsSpelledSeat seat
    seat_said seat offered =
        let facts = seat_facts s.roads batch seat offered in
        let plan = offer_plan s.roads batch.settings facts.vehicle facts.ride batch.time seat.i seat.j facts.offer facts.offered in
        let made = inserted_facts s.roads facts.vehicle facts.ride seat.i seat.j plan.new plan.inserted_is in
        let old = facts.vehicle.stops.items in
        let many = length-same (stops_with facts.ride seat.i seat.j old) made.out
        (unlegged-routed s.roads facts.vehicle.at (stops_with facts.ride seat.i seat.j old) made.out made.route) in
        let more = length-stops_with facts.ride seat.i seat.j old plan.in_order plan.in_range in
        let kept = few_kept plan.new (start_of facts.vehicle batch.settings.lead batch.time) batch.settings.dwell plan.plan.kept in
        let few_new = ap (λ (v : Vehicle). length v.stops.items) made.new_is in (
          subst IsSpelled facts.ride_id (request_spelled facts.ride facts.ride_there),
          subst IsSpelled facts.vehicle_id (copy_spelled facts.vehicle facts.vehicle_there),
          omega (arith, plan.in_order, plan.in_range, many, more, kept, few_new),
          omega (arith, plan.in_range, many, more, kept, few_new),
        )
      where
        few_kept : (new : Vehicle) (leave dwell : ℕ) → keeps new leave dwell ≡ true → length new.stops.items ≤ 16
        few_kept new leave dwell h =
            let (both, _) = and_parts (leb (length new.stops.items) 16 && list_all (keeps_ride new leave dwell) new.rides.items)
            (loads_fit new) h in
            leb-true (length new.stops.items) 16 (and_parts (leb (length new.stops.items) 16)
            (list_all (keeps_ride new leave dwell) new.rides.items) both).0

    -- a price has a text
    price_said : (seats : List Seat) (prices pays : List (ℕ × ℕ)) → Certifies s.roads batch seats prices pays → (item : ℕ × ℕ)
        → Among item prices
        → IsSpelledPair item
    price_said seats prices pays certified item item_there = (
      id_spelled item.0 (subst (Among item.0) certified.each_priced (among_map (λ (x : ℕ × ℕ). x.0) prices item item_there)),
      omega (
        arith,
        of_all (λ (x : ℕ × ℕ). x.1 ≤ batch.settings.penalty) prices item certified.capped item_there,
        opened.over_map.settings_fit.penalty_limit,
      ),
    )

    -- the prices together
    prices-le : (seats : List Seat) (prices pays : List (ℕ × ℕ)) → Certifies s.roads batch seats prices pays
        → sum_by (λ (x : ℕ × ℕ). x.1) prices ≤ 128000000000000
    prices-le seats prices pays certified =
        let each = sum_by-le-times (λ (x : ℕ × ℕ). x.1) 1000000000000 prices
        (capped prices (recursion_from_All _ prices certified.capped)) in
        omega (
          arith,
          each,
          ap length certified.each_priced,
          length-map prices (λ (x : ℕ × ℕ). x.0),
          length-map batch.requests (λ (r : Ride). r.id),
          opened.over_map.few,
        )
      where
        capped : (xs : List (ℕ × ℕ)) → AllByRecursion (λ (x : ℕ × ℕ). x.1 ≤ batch.settings.penalty) xs
            → AllByRecursion (λ (x : ℕ × ℕ). x.1 ≤ 1000000000000) xs
        capped [] h = tt
        capped (x ∷ xs) (first, rest) = (omega (arith, first, opened.over_map.settings_fit.penalty_limit), capped xs rest)

    -- a payment has a text
    pay_said : (seats : List Seat) (prices pays : List (ℕ × ℕ)) → Certifies s.roads batch seats prices pays → (item : ℕ × ℕ)
        → Among item pays
        → IsSpelledPair item
    pay_said seats prices pays certified item item_there =
        let id_there = (among_filter_back (has_amount pays) (vehicle_ids batch.vehicles) item.0
        (subst (Among item.0) certified.paying (among_map (λ (x : ℕ × ℕ). x.0) pays item item_there))).0 in
        let (v, v_there, is) = among_map_back (λ (w : Vehicle). w.id) batch.vehicles item.0 id_there in (
          subst IsSpelled is (copy_spelled v v_there),
          omega (arith, term-le (λ (x : ℕ × ℕ). x.1) pays item item_there, prices-le seats prices pays certified, certified.balanced),
        )

    -- versions and starts of vehicles, 0 where there is none
    copy-le : (v : Vehicle) → Among v batch.vehicles → v.version ≤ 2000002000
    copy-le v v_there =
        let found = found_by (λ (w : Vehicle). w.id) batch.vehicles v opened.fleet_fits.ids_differ v_there in
        let (w, w_found, goes_on) = later_of batch.vehicles s.vehicles v.id v opened.copies found in
        omega (arith, goes_on.no_newer, version_spelled w (found_among (λ (x : Vehicle). x.id == v.id) s.vehicles w w_found).0)

    version-le : (vehicles : List Vehicle) → ((v : Vehicle) → Among v vehicles → v.version ≤ 2000002000) → (id : ℕ)
        → version_of vehicles id ≤ 2000002000
    version-le vehicles each id = by_found (find_vehicle vehicles id) refl
      where
        by_found : (o : Option Vehicle) → find_vehicle vehicles id ≡ o → version_of vehicles id ≤ 2000002000
        by_found None is = rw is (omega arith)
        by_found (Some v) is = rw is (each v (found_among (λ (w : Vehicle). w.id == id) vehicles v is).0)

    priced-le : (id : ℕ) → priced_start batch id ≤ 1000003600
    priced-le id = by_found (find_vehicle batch.vehicles id) refl
      where
        by_found : (o : Option Vehicle) → find_vehicle batch.vehicles id ≡ o → priced_start batch id ≤ 1000003600
        by_found None is = rw is (omega arith)
        by_found (Some v) is =
            let v_there = (found_among (λ (w : Vehicle). w.id == id) batch.vehicles v is).0 in
            let low = start-fits v batch.settings.lead batch.time
            (of_all (IsLawful s.roads) batch.vehicles v opened.lawful v_there).routed.ready_limit
            (omega (arith, opened.in_time, inv.clock_fits)) opened.over_map.settings_fit.lead_limit in
            omega (arith, low, priced_start-found batch id v is)

    -- an outcome has a text
    outcome_said : (id : ℕ) → IsSpelled id → (c : Bool) (o : Option Seat) → IsSpelledOutcome (id, outcome_by batch s c o)
    outcome_said id fine true o = fine
    outcome_said id fine false None = fine
    outcome_said id fine false (Some seat) =
        by_tests (eqb (version_of batch.vehicles seat.vehicle) (version_of s.vehicles seat.vehicle))
        (nat_lt (priced_start batch seat.vehicle) s.clock)
      where
        by_tests : (a b : Bool)
            → IsSpelledOutcome (
              id,
              cond (not a) (Moved (version_of batch.vehicles seat.vehicle) (version_of s.vehicles seat.vehicle))
                  (cond b (Behind (priced_start batch seat.vehicle) s.clock) Confirmed),
            )
        by_tests false b = (
          fine,
          omega (arith, version-le batch.vehicles copy-le seat.vehicle),
          omega (arith, version-le s.vehicles version_spelled seat.vehicle),
        )
        by_tests true true = (fine, omega (arith, priced-le seat.vehicle), omega (arith, inv.clock_fits))
        by_tests true false = fine

    -- a commit has a text
    pub committed_said : (cost : ℕ) (seats : List Seat) (prices pays : List (ℕ × ℕ)) (outcomes : List (ℕ × Outcome))
        → CommitsBatch s batch cost seats prices pays outcomes
        → IsSpelled cost × All IsSpelledSeat seats × All IsSpelledPair prices × All IsSpelledPair pays × All IsSpelledOutcome outcomes
    committed_said cost seats prices pays outcomes commits = (
      omega (
        arith,
        commits.cost_is,
        seating_cost-lt s.roads batch seats (map_of desks fed IsSpelled start s begins inv) opened.over_map
            commits.least.seating,
      ),
      all_of IsSpelledSeat seats (λ seat seat_there. seat_said seat
          (of_all (λ (x : Seat). IsSome (seat_offer s.roads batch x)) seats seat commits.least.seating.offered seat_there)),
      all_of IsSpelledPair prices (price_said seats prices pays commits.certified),
      all_of IsSpelledPair pays (pay_said seats prices pays commits.certified),
      subst (All IsSpelledOutcome) (sym commits.outcomes_are) (all_of IsSpelledOutcome (outcomes_of batch seats s) (λ item item_there.
          let (id, id_there, is) = among_map_back (λ id. (id, outcome_of batch seats s id)) (ride_ids batch.requests) item item_there in
          subst IsSpelledOutcome is (outcome_said id (id_spelled id id_there) (was_cancelled s id) (seat_of seats id)))),
    )
