-- A state that takes new rides as requests.
use Rattle.fleet_league.proofs.Common.{◌≡◌, ℕ, ◌+◌, ◌≤◌, ◌&&◌, ◌||◌, true, false, not, cond, inl, inr, List, [], ◌∷◌, ◌++◌, length, eqb, Some, None, refl, sym, ap, subst, ◌∙◌, arith, append_assoc, append-nil, length-append, map, find, is_some, nat_lt, nat_le, ◌==◌, filter, AllByRecursion, option_or, ne_eqb, filter-append, find-append, IsDistinct-head, IsDistinct-tail, Ride, is_waiting, replay, RoadMap, IsNode, State, AcceptedRequest, accepted_request, Answered, is_node, with_accepted, request_step, step, ride_ids, Among, among_map, of_all, all_of, Win, IsNewRide, won_rides, request_of, request_entries, AreNew, requests_of, requested_state}
use Rattle.ride_model.specs.declared.reply.Reply.TheVariants.{Waiting}
use Rattle.ride_model.specs.declared.reply.RequestState.TheVariants.{Waiting as WaitingState}

-- tests that a ride of the map passes
node-test : (roads : RoadMap) (x : ℕ) → IsNode roads x → is_node roads x ≡ true
node-test roads x (low, high) = grind (arith, low, high)

load-test : (seats chairs : ℕ) → seats ≤ 8 → chairs ≤ 4 → 1 ≤ seats + chairs
    → (nat_lt 8 seats || nat_lt 4 chairs || (seats + chairs == 0)) ≡ false
load-test seats chairs a b c = grind (arith, a, b, c)

limit-test : (latest longest : ℕ) → latest ≤ 1000000000 → 1 ≤ longest → longest ≤ 1000000
    → (nat_lt 1000000000 latest || (longest == 0) || nat_lt 1000000 longest) ≡ false
limit-test latest longest a b c = grind (arith, a, b, c)

few-test : (n : ℕ) → n + 1 ≤ 100000 → nat_le 100000 n ≡ false
few-test n a = grind (arith, a)

-- a new ride is accepted, and waits
pub request-taken : (s : State) (ride : Ride) → IsNewRide s ride → length s.requests + 1 ≤ 100000
    → step s (request_of ride) ≡ record { state = with_accepted s ride; reply = Waiting }
unfolding request_step
request-taken s ride new room =
    let fits = new.fits in
    let one : is_some (accepted_request s ride.id) ≡ false = ap is_some new.not_accepted in
    let two : not (is_node s.roads ride.from && is_node s.roads ride.to) ≡ false
    = (λ i. not (node-test s.roads ride.from fits.from_node i && node-test s.roads ride.to fits.to_node i)) in
    let three : (ride.from == ride.to) ≡ false = ne_eqb ride.from ride.to fits.nodes_differ in
    let four = load-test ride.seats ride.chairs fits.seats_limit fits.chairs_limit fits.some_load in
    let five = limit-test ride.latest ride.longest fits.latest_limit fits.some_seconds fits.longest_limit in
    let six = few-test (length s.requests) room in
    rw (one, two, three, four, five, six)
    (ap (λ p. record { state = with_accepted s (record ride { picked = p }); reply = Waiting }) (sym new.waits))

-- a ride of another id is new after one was accepted
new-after : (s : State) (ride other : Ride) → eqb ride.id other.id ≡ false → IsNewRide s other → IsNewRide (with_accepted s ride) other
new-after s ride other differs new = record {
  fits = new.fits;
  waits = new.waits;
  not_accepted = find-append (λ (r : AcceptedRequest). r.ride.id == other.id) s.requests (record { ride = ride; state = WaitingState } ∷ [])
      ∙ ap (λ o. option_or o (find (λ (r : AcceptedRequest). r.ride.id == other.id) (record { ride = ride; state = WaitingState } ∷ [])))
      new.not_accepted
      ∙ ap (λ b. cond b (Some (record { ride = ride; state = WaitingState })) None) differs;
}

-- of each by recursion to one of them
each_of : (P : ℕ → Type 0) (xs : List ℕ) (x : ℕ) → AllByRecursion P xs → Among x xs → P x
each_of P [] x each there = absurd there
each_of P (y ∷ ys) x (first, rest) (inl is) = subst P is first
each_of P (y ∷ ys) x (first, rest) (inr there) = each_of P ys x rest there

-- the first of new rides, and the others after it was accepted
pub new-first : (s : State) (ride : Ride) (rides : List Ride) → AreNew s (ride ∷ rides) → IsNewRide s ride
new-first s ride rides new = of_all (IsNewRide s) (ride ∷ rides) ride new.each (inl refl)

pub new-room : (s : State) (ride : Ride) (rides : List Ride) → AreNew s (ride ∷ rides) → length s.requests + 1 ≤ 100000
new-room s ride rides new = omega (arith, new.room)

pub new-rest : (s : State) (ride : Ride) (rides : List Ride) → AreNew s (ride ∷ rides) → AreNew (with_accepted s ride) rides
new-rest s ride rides new = record {
  each = all_of (IsNewRide (with_accepted s ride)) rides (λ other there.
      new-after s ride other
      (each_of (λ id. eqb ride.id id ≡ false) (ride_ids rides) other.id (IsDistinct-head eqb ride.id (ride_ids rides) new.differ)
      (among_map (λ (r : Ride). r.id) rides other there))
      (of_all (IsNewRide s) (ride ∷ rides) other new.each (inr there)));
  differ = IsDistinct-tail eqb ride.id (ride_ids rides) new.differ;
  room = omega (arith, new.room, length-append s.requests (record { ride = ride; state = WaitingState } ∷ []));
}

-- the state after the rides of wins were requested
pub requested : (s : State) (wins : List Win) → AreNew s (won_rides wins)
    → replay s (request_entries wins) ≡ requested_state s wins
unfolding replay
requested s [] new = ap (λ rs. record s { requests = rs }) (sym (append-nil s.requests))
requested s (win ∷ wins) new =
    let taken = request-taken s win.ride (new-first s win.ride (won_rides wins) new) (new-room s win.ride (won_rides wins) new) in
    ap (λ (a : Answered). replay a.state (request_entries wins)) taken
    ∙ requested (with_accepted s win.ride) wins (new-rest s win.ride (won_rides wins) new)
    ∙ ap (λ rs. record s { requests = rs }) (append_assoc s.requests (record { ride = win.ride; state = WaitingState } ∷ []) (requests_of wins))

-- the requests of wins wait
all-wait : (wins : List Win) → filter (λ (r : AcceptedRequest). is_waiting r.state) (requests_of wins) ≡ requests_of wins
all-wait [] = refl
all-wait (win ∷ wins) = ap (λ rest. record { ride = win.ride; state = WaitingState } ∷ rest) (all-wait wins)

rides-of : (wins : List Win) → map (λ (r : AcceptedRequest). r.ride) (requests_of wins) ≡ won_rides wins
rides-of [] = refl
rides-of (win ∷ wins) = ap (λ rest. win.ride ∷ rest) (rides-of wins)

-- they are just those that wait, where none did before
pub waiting-are : (requests : List AcceptedRequest) (wins : List Win) → filter (λ (r : AcceptedRequest). is_waiting r.state) requests ≡ []
    → map (λ (r : AcceptedRequest). r.ride) (filter (λ (r : AcceptedRequest). is_waiting r.state) (requests ++ requests_of wins)) ≡ won_rides wins
waiting-are requests wins none =
    ap (map (λ (r : AcceptedRequest). r.ride)) (filter-append (λ (r : AcceptedRequest). is_waiting r.state) requests (requests_of wins)
    ∙ (λ i. none i ++ all-wait wins i))
    ∙ rides-of wins
