-- What is kept is kept where a request is accepted; and by each command.
use Rattle.model_laws.proofs.Common.{◌≡◌, ℕ, ◌+◌, ◌≤◌, ◌&&◌, ◌||◌, ◌⊎◌, Bool, true, false, not, cond, inl, inr, List, [], ◌∷◌, ◌++◌, length, eqb, ltb-false, refl, sym, ap, subst, arith, length-append, map, max, Some, None, is_some, find, ◌==◌, nat_le, nat_lt, nat_eq, ⊤, IsDistinct, AllByRecursion, eqb-false, leb-false, or_parts, not-false, and_parts, IsDistinct-head, IsDistinct-tail, IsDistinct-cons, map-append, Command, Request, Cancel, At, Done, On, Off, Clock, Ask, Bad, Ride, Vehicle, find_vehicle, State, AcceptedRequest, accepted_request, placed_vehicle, is_node, with_accepted, request_step, clock_step, ask_step, step, IsRide, ride_ids, IsStart, request_ids, promised_as, vehicle_of_request}
use Rattle.ride_model.specs.declared.reply.RequestState.TheVariants.{Waiting as WaitingState}
use Rattle.model_laws.proofs.plain.Among.{Among, among_push_back}
use Rattle.model_laws.proofs.plain.Lists.{distinct-push}
use Rattle.model_laws.proofs.history_laws.Lookups.{fresh_by}
use Rattle.model_laws.proofs.history_laws.Earlier.{all_earlier-same}
use Rattle.model_laws.proofs.history_laws.Invariant.{find_request, Inv, Goes}
use Rattle.model_laws.proofs.history_laws.Changes.{open_batch-later}
use Rattle.model_laws.proofs.history_laws.Raised.{node_is}
use Rattle.model_laws.proofs.history_laws.Fed.{cond_goes, refused_goes, still_goes, duty_goes, at_goes, cancel_goes, done_goes}

-- what was found is found with more behind it
pub find-push : {X : Type 0} (p : X → Bool) (xs : List X) (x y : X) → find p xs ≡ Some y → find p (xs ++ x ∷ []) ≡ Some y
find-push p [] x y h = absurd (cc h)
find-push {X} p (z ∷ xs) x y h = by_test (λ later. find-push p xs x y later) (p z) h
  where
    by_test : (find p xs ≡ Some y → find p (xs ++ x ∷ []) ≡ Some y) → (b : Bool) → cond b (Some z) (find p xs) ≡ Some y
        → cond b (Some z) (find p (xs ++ x ∷ [])) ≡ Some y
    by_test later true is = is
    by_test later false is = later is

-- a request is accepted
pub accepted_goes : (desks fed : ℕ) (ok : ℕ → Type 0) (start s : State) (ride : Ride) → Inv desks fed ok start s
    → is_some (accepted_request s ride.id) ≡ false → length s.requests + 1 ≤ 100000 → IsRide s.roads ride → ride.picked ≡ None
    → ok ride.id
    → Goes desks (fed + 1) ok start s (with_accepted s ride)
accepted_goes desks fed ok start s ride inv none few fits waits fine =
    let kept : (id : ℕ) (r : AcceptedRequest) → find_request s.requests id ≡ Some r
    → find_request (s.requests ++ new ∷ []) id ≡ Some r
    = λ id r is. find-push (λ (q : AcceptedRequest). q.ride.id == id) s.requests new r is in
    record {
      inv = record {
        roads_stay = inv.roads_stay;
        settings_stay = inv.settings_stay;
        fleet_stays = inv.fleet_stays;
        clock_fits = inv.clock_fits;
        few_asked = inv.few_asked;
        few_opened = inv.few_opened;
        few_requests = omega (arith, few, length-append s.requests (new ∷ []));
        requests_differ = subst (IsDistinct nat_eq) (sym (map-append (λ (r : AcceptedRequest). r.ride.id) s.requests (new ∷ [])))
            (distinct-push (request_ids s.requests) ride.id inv.requests_differ
            (fresh_by (λ (r : AcceptedRequest). r.ride.id) s.requests ride.id none));
        requests_fit = λ r there. of_push (λ (q : AcceptedRequest). IsRide s.roads q.ride) inv.requests_fit fits r there;
        requests_wait = λ r there. of_push (λ (q : AcceptedRequest). q.ride.picked ≡ None) inv.requests_wait waits r there;
        ids_ok = λ r there. of_push (λ (q : AcceptedRequest). ok q.ride.id) inv.ids_ok fine r there;
        lawful = inv.lawful;
        few_stops = inv.few_stops;
        promised = λ v there other other_there. kept other.id (promised_as v.id other) (inv.promised v there other other_there);
        with_vehicles = λ r there. of_push (λ (q : AcceptedRequest). (k : ℕ) → vehicle_of_request q.state ≡ Some k
            → (v : Vehicle) × (find_vehicle s.vehicles k ≡ Some v) × Among q.ride.id (ride_ids v.rides.items)) inv.with_vehicles
            (λ k is. absurd (cc is)) r there;
        versions_fit = λ v there. omega (arith, inv.versions_fit v there);
        batches_fit = λ b there.
            open_batch-later desks s (with_accepted s ride) b refl refl (omega arith) (omega arith) (all_earlier-same s.vehicles)
            (λ other within. record {
              state = within.state;
              accepted = kept other.id (record { ride = other; state = within.state }) within.accepted;
              in_or_cancelled = within.in_or_cancelled;
            }) (inv.batches_fit b there);
        numbers_differ = inv.numbers_differ;
        desks_differ = inv.desks_differ;
      };
      earlier = all_earlier-same s.vehicles;
      closed_stay = λ id r found is. kept id r found;
    }
  where
    new : AcceptedRequest
    new = record { ride = ride; state = WaitingState }

    of_push : (P : AcceptedRequest → Type 0) → ((r : AcceptedRequest) → Among r s.requests → P r) → P new
        → (r : AcceptedRequest)
        → Among r (s.requests ++ new ∷ []) → P r
    of_push P each last r there = by_place (among_push_back s.requests new r there)
      where
        by_place : Among r s.requests ⊎ (new ≡ r) → P r
        by_place (inl h) = each r h
        by_place (inr is) = subst P is last

-- a command asks for a ride only under an id that is fine
abbrev pub IsFine : (ℕ → Type 0) → Command → Type 0
IsFine ok (Request id _ _ _ _ _ _) = ok id
IsFine ok _ = ⊤

-- a command that asks for a ride
request_goes : (desks fed : ℕ) (ok : ℕ → Type 0) (start s : State) (id from to seats latest longest chairs : ℕ)
    → Inv desks fed ok start s → ok id
    → Goes desks (fed + 1) ok start s (request_step s id from to seats latest longest chairs).state
unfolding request_step
request_goes desks fed ok start s id from to seats latest longest chairs inv fine =
    let refuses = refused_goes desks fed ok start s inv in
    let Keeps = Goes desks (fed + 1) ok start s in
    cond_goes Keeps (is_some (accepted_request s id)) _ _ (λ _. refuses) (λ none.
    cond_goes Keeps (not (is_node s.roads from && is_node s.roads to)) _ _ (λ _. refuses) (λ nodes.
    cond_goes Keeps (eqb from to) _ _ (λ _. refuses) (λ differ.
    cond_goes Keeps (nat_lt 8 seats || nat_lt 4 chairs || eqb (seats + chairs) 0) _ _ (λ _. refuses) (λ load.
    cond_goes Keeps (nat_lt 1000000000 latest || eqb longest 0 || nat_lt 1000000 longest) _ _ (λ _. refuses) (λ limits.
    cond_goes Keeps (nat_le 100000 (length s.requests)) _ _ (λ _. refuses) (λ few.
    let (from_in, to_in) = and_parts (is_node s.roads from) (is_node s.roads to)
    (not-false (is_node s.roads from && is_node s.roads to) nodes) in
    let (loads, some) = or_parts (nat_lt 8 seats || nat_lt 4 chairs) (eqb (seats + chairs) 0) load in
    let (seat_limit, chair_limit) = or_parts (nat_lt 8 seats) (nat_lt 4 chairs) loads in
    let (times, long) = or_parts (nat_lt 1000000000 latest || eqb longest 0) (nat_lt 1000000 longest) limits in
    let (late, short) = or_parts (nat_lt 1000000000 latest) (eqb longest 0) times in
    accepted_goes desks fed ok start s
    (record { id = id; from = from; to = to; seats = seats; chairs = chairs; latest = latest; longest = longest; picked = None })
    inv none (omega (arith, leb-false 100000 (length s.requests) few)) (record {
      from_node = node_is s.roads from from_in;
      to_node = node_is s.roads to to_in;
      nodes_differ = eqb-false from to differ;
      seats_limit = ltb-false 8 seats seat_limit;
      chairs_limit = ltb-false 4 chairs chair_limit;
      some_load = at_least_one (seats + chairs) some;
      latest_limit = ltb-false 1000000000 latest late;
      some_seconds = at_least_one longest short;
      longest_limit = ltb-false 1000000 longest long;
    }) refl fine))))))
  where
    at_least_one : (n : ℕ) → eqb n 0 ≡ false → 1 ≤ n
    at_least_one n h = grind (arith, eqb-false n 0 h)

-- a command that sets the clock
clock_goes : (desks fed : ℕ) (ok : ℕ → Type 0) (start s : State) (time : ℕ) → Inv desks fed ok start s
    → Goes desks (fed + 1) ok start s (clock_step s time).state
unfolding clock_step
clock_goes desks fed ok start s time inv =
    cond_goes (Goes desks (fed + 1) ok start s) (nat_lt 1000000000 time) _ _ (λ _. refused_goes desks fed ok start s inv) (λ fits.
    still_goes desks fed ok start s (max time s.clock) s.asked inv (omega arith)
    (omega (arith, ltb-false 1000000000 time fits, inv.clock_fits))
    (omega arith) inv.few_asked)

-- a command that asks for a batch
ask_goes : (desks fed : ℕ) (ok : ℕ → Type 0) (start s : State) → Inv desks fed ok start s
    → Goes desks (fed + 1) ok start s (ask_step s).state
unfolding ask_step
ask_goes desks fed ok start s inv =
    cond_goes (Goes desks (fed + 1) ok start s) (nat_le 2000 s.asked) _ _ (λ _. refused_goes desks fed ok start s inv) (λ few.
    still_goes desks fed ok start s s.clock (s.asked + 1) inv (omega arith) inv.clock_fits (omega arith)
    (omega (arith, leb-false 2000 s.asked few)))

-- each command
pub step_goes : (desks fed : ℕ) (ok : ℕ → Type 0) (start s : State) (command : Command) → IsStart start → Inv desks fed ok start s
    → IsFine ok command
    → Goes desks (fed + 1) ok start s (step s command).state
step_goes desks fed ok start s (Request id from to seats latest longest chairs) begins inv fine =
    request_goes desks fed ok start s id from to seats latest longest chairs inv fine
step_goes desks fed ok start s (Cancel id) begins inv fine = cancel_goes desks fed ok start s id begins inv (accepted_request s id) refl
step_goes desks fed ok start s (At vehicle node time) begins inv fine =
    at_goes desks fed ok start s node time vehicle begins inv (placed_vehicle s vehicle) refl
step_goes desks fed ok start s (Done vehicle) begins inv fine = done_goes desks fed ok start s vehicle begins inv
    (placed_vehicle s vehicle) refl
step_goes desks fed ok start s (On vehicle) begins inv fine = duty_goes desks fed ok start s true vehicle begins inv
    (placed_vehicle s vehicle) refl
step_goes desks fed ok start s (Off vehicle) begins inv fine = duty_goes desks fed ok start s false vehicle begins inv
    (placed_vehicle s vehicle) refl
step_goes desks fed ok start s (Clock time) begins inv fine = clock_goes desks fed ok start s time inv
step_goes desks fed ok start s Ask begins inv fine = ask_goes desks fed ok start s inv
step_goes desks fed ok start s (Bad line) begins inv fine = refused_goes desks fed ok start s inv
