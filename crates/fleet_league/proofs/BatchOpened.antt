-- A batch of all that wait was opened.
use Rattle.fleet_league.proofs.Common.{◌≡◌, ℕ, Bool, true, false, cond, inl, inr, List, [], ◌∷◌, refl, sym, subst, map, filter, RequestState, InBatch, is_waiting, waiting_rides, after_opening, BatchCopy, State, AcceptedRequest, is_of, Among, among_map, among_filter, marked, opening-is, is_of-among}
use Rattle.fleet_league.proofs.Reports.{NoneWaits}

-- none waits where each that waited was marked
marked-all : (test : ℕ → Bool) (state : RequestState) (requests : List AcceptedRequest) → is_waiting state ≡ false
    → ((r : AcceptedRequest) → Among r requests → is_waiting r.state ≡ true → test r.ride.id ≡ true)
    → NoneWaits (map (marked test state) requests)
marked-all test state [] fine each = refl
marked-all test state (r ∷ requests) fine each =
    by_tests (test r.ride.id) (is_waiting r.state) refl refl (marked-all test state requests fine (λ q there. each q (inr there)))
  where
    by_tests : (b c : Bool) → test r.ride.id ≡ b → is_waiting r.state ≡ c → NoneWaits (map (marked test state) requests)
        → filter (λ (q : AcceptedRequest). is_waiting q.state) (cond b (record r { state = state }) r ∷ map (marked test state) requests) ≡ []
    by_tests true c passes is rest = rw fine rest
    by_tests false true fails is rest = absurd (cc (fails, each r (inl refl) is))
    by_tests false false fails is rest = rw is rest

-- no request waits after all that did are in the batch
pub opened-none : (s : State) (batch : BatchCopy) → batch.requests ≡ waiting_rides s → NoneWaits (after_opening s batch).requests
opened-none s batch all =
    subst (λ (t : State). NoneWaits t.requests) (sym (opening-is s batch))
    (marked-all (is_of batch.requests) (InBatch batch.number) s.requests refl (λ r there waits.
    subst (λ rides. is_of rides r.ride.id ≡ true) (sym all)
    (is_of-among (waiting_rides s) r.ride
    (among_map (λ (q : AcceptedRequest). q.ride) (filter (λ (q : AcceptedRequest). is_waiting q.state) s.requests) r
    (among_filter (λ (q : AcceptedRequest). is_waiting q.state) s.requests r there waits)))))
