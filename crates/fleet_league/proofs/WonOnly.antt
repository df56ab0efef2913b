-- An award adds the requests of its wins alone, and one batch.
use Rattle.fleet_league.proofs.Common.{◌≡◌, ℕ, ◌+◌, ◌≤◌, Bool, true, false, cond, not, List, [], ◌∷◌, ◌++◌, eqb, Option, Some, None, refl, ap, ◌∙◌, arith, ◌==◌, ◌&&◌, ◌||◌, map, nat_le, nat_lt, length, find, is_some, option_or, find-append, or_parts, Feed, Desk, Ask, Entry, Fed, Committed, Outcome, Confirmed, Gone, Moved, Behind, Seat, Reply, InBatch, Ride, Vehicle, after_opening, after_outcome, after_outcomes, confirm, next_batch, outcome_of, seat_of, after_event, replay, BatchCopy, State, AcceptedRequest, accepted_request, open_batch_numbered, placed_vehicle, Answered, ask_step, is_node, request_step, step, with_accepted, is_of, replay-append, opening-is, stays-outcomes, pairing_cost, Brief, Win, asking_entries, confirming_entry, opening_entry, price_list, request_entries, request_of, won_columns, won_rides, prices_of}
use Rattle.ride_model.specs.declared.entry.Outcome.TheVariants.{Away}
use Rattle.ride_model.specs.declared.reply.RequestState.TheVariants.{Waiting as WaitingState, Confirmed as ConfirmedState, Away as AwayState}
use Rattle.fleet_league.proofs.Reports.{none-found}

-- a state after which at most so many more batches were asked for, and, if it is another, a request that was not accepted is not
pub record Grows (other : Type 0) (id : ℕ) (s t : State) (asks : ℕ) : Type 0 where
  pub no_other : other → accepted_request s id ≡ None → accepted_request t id ≡ None
  pub few_asked : t.asked ≤ s.asked + asks

same : (P : Type 0) (id : ℕ) (s : State) → Grows P id s s 0
same P id s = record { no_other = λ other none. none; few_asked = omega arith }

then : (P : Type 0) (id : ℕ) (s t u : State) (a b : ℕ) → Grows P id s t a → Grows P id t u b → Grows P id s u (a + b)
then P id s t u a b first second = record {
  no_other = λ other none. second.no_other other (first.no_other other none);
  few_asked = omega (arith, first.few_asked, second.few_asked);
}

either : (P : Type 0) (id : ℕ) (s : State) (asks : ℕ) (b : Bool) (x y : Answered) → Grows P id s x.state asks → Grows P id s y.state asks
    → Grows P id s (cond b x y).state asks
either P id s asks true x y h k = h
either P id s asks false x y h k = k

-- the request of another ride
accepted : (P : Type 0) (id : ℕ) (s : State) (ride : Ride) → (P → eqb ride.id id ≡ false) → Grows P id s (with_accepted s ride) 0
accepted P id s ride other =
    let new : AcceptedRequest = record { ride = ride; state = WaitingState } in
    record {
      no_other = λ is_other none. find-append (λ (r : AcceptedRequest). r.ride.id == id) s.requests (new ∷ [])
          ∙ ap (λ o. option_or o (find (λ (r : AcceptedRequest). r.ride.id == id) (new ∷ []))) none
          ∙ ap (λ b. cond b (Some new) None) (other is_other);
      few_asked = omega arith;
    }

requested : (P : Type 0) (id : ℕ) (s : State) (ride : Ride) → (P → eqb ride.id id ≡ false) → Grows P id s (step s (request_of ride)).state 0
unfolding request_step
requested P id s ride other =
    either P id s 0 (is_some (accepted_request s ride.id)) _ _ (same P id s)
    (either P id s 0 (not (is_node s.roads ride.from && is_node s.roads ride.to)) _ _ (same P id s)
    (either P id s 0 (ride.from == ride.to) _ _ (same P id s)
    (either P id s 0 (nat_lt 8 ride.seats || nat_lt 4 ride.chairs || (ride.seats + ride.chairs == 0)) _ _ (same P id s)
    (either P id s 0 (nat_lt 1000000000 ride.latest || (ride.longest == 0) || nat_lt 1000000 ride.longest) _ _ (same P id s)
    (either P id s 0 (nat_le 100000 (length s.requests)) _ _ (same P id s)
    (accepted P id s (record ride { picked = None }) other))))))

asked : (P : Type 0) (id : ℕ) (s : State) → Grows P id s (step s Ask).state 1
unfolding ask_step
asked P id s =
    either P id s 1 (nat_le 2000 s.asked) _ _ (record { no_other = λ other none. none; few_asked = omega arith })
    (record { no_other = λ other none. none; few_asked = omega arith })

-- the wins' requests and the asking
asking : (P : Type 0) (id : ℕ) (s : State) (wins : List Win) (reply : Reply) → (P → is_of (won_rides wins) id ≡ false)
    → Grows P id s (replay s (request_entries wins ++ record { actor = Feed 1; event = Fed Ask reply } ∷ [])) 1
unfolding replay
asking P id s [] reply others = asked P id s
asking P id s (win ∷ wins) reply others =
    let after : State = (step s (request_of win.ride)).state in
    let each : P → (eqb win.ride.id id ≡ false) × (is_of (won_rides wins) id ≡ false) = λ other. or_parts (eqb win.ride.id id) (is_of (won_rides wins) id) (others other) in
    then P id s after (replay after (request_entries wins ++ record { actor = Feed 1; event = Fed Ask reply } ∷ [])) 0 1
    (requested P id s win.ride (λ other. (each other).0)) (asking P id after wins reply (λ other. (each other).1))

opened : (P : Type 0) (id : ℕ) (s : State) (batch : BatchCopy) → Grows P id s (after_opening s batch) 0
opened P id s batch =
    let is = opening-is s batch in
    record {
      no_other = λ other none. ap (λ (t : State). accepted_request t id) is
          ∙ none-found (is_of batch.requests) (InBatch batch.number) s.requests id none;
      few_asked = omega (arith, ap (λ (t : State). t.asked) is);
    }

-- an outcome
placed : (id : ℕ) (s : State) (batch : BatchCopy) (ride : Ride) (seat : Seat) (vehicle : Option (ℕ × Vehicle))
    → accepted_request s id ≡ None → accepted_request (confirm batch ride seat vehicle s) id ≡ None
placed id s batch ride seat None none = none
placed id s batch ride seat (Some p) none = none-found (λ q. q == ride.id) (ConfirmedState seat.vehicle) s.requests id none

outcome : (id : ℕ) (s : State) (batch : BatchCopy) (ride : Ride) (seat : Option Seat) (o : Outcome)
    → accepted_request s id ≡ None → accepted_request (after_outcome batch ride seat o s) id ≡ None
outcome id s batch ride seat Gone none = none
outcome id s batch ride seat Away none = none-found (λ q. q == ride.id) (AwayState batch.number) s.requests id none
outcome id s batch ride seat (Moved n m) none = none-found (λ q. q == ride.id) WaitingState s.requests id none
outcome id s batch ride seat (Behind n m) none = none-found (λ q. q == ride.id) WaitingState s.requests id none
outcome id s batch ride None Confirmed none = none
outcome id s batch ride (Some seat) Confirmed none = placed id s batch ride seat (placed_vehicle s seat.vehicle) none

outcomes : (id : ℕ) (batch : BatchCopy) (seats : List Seat) (moment : State) (rides : List Ride) (s : State)
    → accepted_request s id ≡ None → accepted_request (after_outcomes batch seats moment rides s) id ≡ None
outcomes id batch seats moment [] s none = none
outcomes id batch seats moment (ride ∷ rides) s none =
    outcomes id batch seats moment rides (after_outcome batch ride (seat_of seats ride.id) (outcome_of batch seats moment ride.id) s)
    (outcome id s batch ride (seat_of seats ride.id) (outcome_of batch seats moment ride.id) none)

-- a commit
committed : (P : Type 0) (id : ℕ) (s : State) (desk number cost : ℕ) (seats : List Seat) (prices pays : List (ℕ × ℕ)) (list : List (ℕ × Outcome))
    → Grows P id s (after_event s (Desk desk) (Committed number cost seats prices pays list)) 0
committed P id s desk number cost seats prices pays list = by_found (open_batch_numbered s desk number) refl
  where
    by_found : (found : Option BatchCopy) → open_batch_numbered s desk number ≡ found
        → Grows P id s (after_event s (Desk desk) (Committed number cost seats prices pays list)) 0
    by_found None is = rw is (same P id s)
    by_found (Some batch) is = rw is (record {
      no_other = λ other. outcomes id batch seats s batch.requests s;
      few_asked = omega (arith, (stays-outcomes batch seats s batch.requests s).asked);
    })

-- the entries of an award
pub won-only : (id : ℕ) (s : State) (brief : Brief) (seats : List Seat)
    → Grows (is_of (won_rides brief.wins) id ≡ false) id s
    (replay s (asking_entries s brief.wins ++ opening_entry s brief.wins ∷ confirming_entry s brief seats ∷ [])) 1
unfolding replay
won-only id s brief seats =
    let P : Type 0 = is_of (won_rides brief.wins) id ≡ false in
    let first : State = replay s (asking_entries s brief.wins) in
    let second : State = after_opening first (next_batch first 1) in
    let last : List Entry = opening_entry s brief.wins ∷ confirming_entry s brief seats ∷ [] in
    let ends : Grows P id first (replay first last) 0
    = then P id first second (replay first last) 0 0 (opened P id first (next_batch first 1)) (committed P id second 1 (s.opened + 1)
    (pairing_cost (prices_of s (won_rides brief.wins)) s.settings.penalty (won_columns s.vehicles brief.wins)) seats (price_list brief.wins)
    brief.pays (map (λ (win : Win). (win.ride.id, Confirmed)) brief.wins)) in
    let all = then P id s first (replay first last) 1 0 (asking P id s brief.wins _ (λ other. other)) ends in
    let is = replay-append s (asking_entries s brief.wins) last in
    record {
      no_other = λ other none. ap (λ (t : State). accepted_request t id) is ∙ all.no_other other none;
      few_asked = omega (arith, ap (λ (t : State). t.asked) is, all.few_asked);
    }
