-- What is kept is kept where an open batch is taken out, and where it is given up.
use Rattle.model_laws.proofs.Common.{◌≡◌, ℕ, ◌+◌, ◌≤◌, ◌||◌, Bool, true, false, not, cond, inl, inr, List, [], ◌∷◌, length, eqb, refl, sym, ◌∙◌, ap, subst, arith, Some, None, option_map, find, ◌==◌, filter, eqb-true, eq-eqb, not-true, and_from, and_parts, same_Some, RequestState, Waiting, InBatch, Aboard, Away, Cancelled, Ride, is_in_batch, standing_rides, without_batch, after_abandon, BatchCopy, State, AcceptedRequest, is_batch, request_state, open_batch_numbered, is_closed, vehicle_of_request, is_of, is_in}
use Rattle.ride_model.specs.declared.reply.RequestState.TheVariants.{Confirmed, Done}
use Rattle.model_laws.proofs.plain.Among.{Among, among_filter_back, found_among}
use Rattle.model_laws.proofs.AboardLoads.{filter-skipped}
use Rattle.model_laws.proofs.RequestStates.{abandon-is}
use Rattle.model_laws.proofs.history_laws.Lookups.{found_by, distinct-filter_by}
use Rattle.model_laws.proofs.history_laws.Earlier.{all_earlier-same}
use Rattle.model_laws.proofs.history_laws.Invariant.{find_request, Inv, Goes}
use Rattle.model_laws.proofs.history_laws.Changes.{stays_in, open_batch-later}
use Rattle.model_laws.proofs.history_laws.Marks.{marks_go}
use Rattle.model_laws.proofs.history_laws.Opening.{of_rides}
use Rattle.model_laws.proofs.history_laws.Raised.{length-filter-le}

-- the batches but this one
abbrev pub others_of : BatchCopy → BatchCopy → Bool
others_of batch other = not (is_batch batch.desk batch.number other)

-- what is kept without a batch
pub without_inv : (desks fed : ℕ) (ok : ℕ → Type 0) (start s : State) (batch : BatchCopy) → Inv desks fed ok start s
    → Inv desks fed ok start (without_batch batch s)
without_inv desks fed ok start s batch inv = record {
  roads_stay = inv.roads_stay;
  settings_stay = inv.settings_stay;
  fleet_stays = inv.fleet_stays;
  clock_fits = inv.clock_fits;
  few_asked = inv.few_asked;
  few_opened = inv.few_opened;
  few_requests = inv.few_requests;
  requests_differ = inv.requests_differ;
  requests_fit = inv.requests_fit;
  requests_wait = inv.requests_wait;
  ids_ok = inv.ids_ok;
  lawful = inv.lawful;
  few_stops = inv.few_stops;
  promised = inv.promised;
  with_vehicles = inv.with_vehicles;
  versions_fit = λ v there. omega (arith, inv.versions_fit v there, length-filter-le (others_of batch) s.batches);
  batches_fit = λ b there.
      open_batch-later desks s (without_batch batch s) b refl refl (omega arith) (omega arith) (all_earlier-same s.vehicles)
      (λ ride within. record { state = within.state; accepted = within.accepted; in_or_cancelled = within.in_or_cancelled })
      (inv.batches_fit b (among_filter_back (others_of batch) s.batches b there).0);
  numbers_differ = distinct-filter_by (λ (b : BatchCopy). b.number) (others_of batch) s.batches inv.numbers_differ;
  desks_differ = distinct-filter_by (λ (b : BatchCopy). b.desk) (others_of batch) s.batches inv.desks_differ;
}

-- a filter that skips an element keeps fewer
pub fewer-filter : {X : Type 0} (p : X → Bool) (xs : List X) (x : X) → Among x xs → p x ≡ false
    → length (filter p xs) + 1 ≤ length xs
fewer-filter p [] x there skips = absurd there
fewer-filter p (y ∷ xs) x (inl is) skips =
    omega (arith, ap length (filter-skipped p y xs (ap p is ∙ skips)), length-filter-le p xs)
fewer-filter p (y ∷ xs) x (inr there) skips =
    elim (p y) as (λ b. length (cond b (y ∷ filter p xs) (filter p xs)) + 1 ≤ length (y ∷ xs)) [
      | true ↦ omega (arith, fewer-filter p xs x there skips)
      | false ↦ omega (arith, fewer-filter p xs x there skips)
    ]

-- an open batch that is found by its number and desk
pub record OpenBatch (s : State) (desk number : ℕ) (batch : BatchCopy) : Type 0 where
  pub there : Among batch s.batches
  pub desk_is : batch.desk ≡ desk
  pub number_is : batch.number ≡ number

-- the batch that was found
pub open_batch : (s : State) (desk number : ℕ) (batch : BatchCopy) → open_batch_numbered s desk number ≡ Some batch
    → OpenBatch s desk number batch
open_batch s desk number batch is =
    let (there, both) = found_among (λ (b : BatchCopy). is_batch desk number b) s.batches batch is in
    let (desk_is, number_is) = and_parts (batch.desk == desk) (batch.number == number) both in
    record { there = there; desk_is = eqb-true batch.desk desk desk_is; number_is = eqb-true batch.number number number_is }

-- a batch is itself
pub is_batch-own : (batch : BatchCopy) → is_batch batch.desk batch.number batch ≡ true
is_batch-own batch = and_from (batch.desk == batch.desk) (batch.number == batch.number) (eq-eqb batch.desk batch.desk refl)
    (eq-eqb batch.number batch.number refl)

-- another open batch has another number
pub other_number : (desks fed : ℕ) (ok : ℕ → Type 0) (start s : State) (batch b : BatchCopy) → Inv desks fed ok start s
    → Among batch s.batches
    → Among b (without_batch batch s).batches → eqb batch.number b.number ≡ false
other_number desks fed ok start s batch b inv there b_there = by_test (eqb batch.number b.number) refl
  where
    by_test : (c : Bool) → eqb batch.number b.number ≡ c → c ≡ false
    by_test false is = refl
    by_test true is =
        let key = λ (x : BatchCopy). x.number in
        let (among, kept) = among_filter_back (others_of batch) s.batches b b_there in
        let both : Some batch ≡ Some b
        = sym (found_by key s.batches batch inv.numbers_differ there) ∙ ap (λ n. find (λ (x : BatchCopy). x.number == n) s.batches)
        (eqb-true batch.number b.number is)
        ∙ found_by key s.batches b inv.numbers_differ among in
        absurd (cc (
          not-true (is_batch batch.desk batch.number b) kept,
          ap (is_batch batch.desk batch.number)
              (same_Some batch b both),
          is_batch-own batch,
        ))

-- a request in the batch of a number is with no vehicle, and open
pub in_batch-none : (number : ℕ) (state : RequestState) → is_in_batch number state ≡ true → (vehicle_of_request state ≡ None)
    × (is_closed state ≡ false)
in_batch-none number (InBatch n) h = (refl, refl)
in_batch-none number Waiting h = absurd (cc h)
in_batch-none number (Confirmed v) h = absurd (cc h)
in_batch-none number (Aboard v) h = absurd (cc h)
in_batch-none number Done h = absurd (cc h)
in_batch-none number (Away n) h = absurd (cc h)
in_batch-none number Cancelled h = absurd (cc h)

-- a request in a batch is in no other
pub in_batch-stays : (number other : ℕ) (state : RequestState) → is_in_batch number state ≡ true → eqb number other ≡ false
    → stays_in other state ≡ false
in_batch-stays number other (InBatch n) h differs = ap (λ b. b || false) (ap (λ k. eqb k other) (eqb-true n number h) ∙ differs)
in_batch-stays number other Waiting h differs = absurd (cc h)
in_batch-stays number other (Confirmed v) h differs = absurd (cc h)
in_batch-stays number other (Aboard v) h differs = absurd (cc h)
in_batch-stays number other Done h differs = absurd (cc h)
in_batch-stays number other (Away n) h differs = absurd (cc h)
in_batch-stays number other Cancelled h differs = absurd (cc h)

-- the standing requests are in the batch
pub standing_in : (desks fed : ℕ) (ok : ℕ → Type 0) (start s : State) (batch : BatchCopy) (r : AcceptedRequest)
    → Inv desks fed ok start s
    → Among r s.requests → is_of (standing_rides batch s) r.ride.id ≡ true → is_in_batch batch.number r.state ≡ true
standing_in desks fed ok start s batch r inv there passes =
    let (ride, ride_there, id_is) = of_rides (standing_rides batch s) r.ride.id passes in
    let (_, still) = among_filter_back (λ (x : Ride). is_in batch.number (request_state s x.id)) batch.requests ride ride_there in
    let found : find_request s.requests ride.id ≡ Some r
    = ap (find_request s.requests) id_is ∙ found_by (λ (x : AcceptedRequest). x.ride.id) s.requests r inv.requests_differ there in
    sym (ap (λ o. is_in batch.number (option_map (λ (x : AcceptedRequest). x.state) o)) found) ∙ still

-- a batch is given up
pub abandoned_goes : (desks fed : ℕ) (ok : ℕ → Type 0) (start s : State) (batch : BatchCopy) → Inv desks fed ok start s
    → Among batch s.batches
    → Goes desks fed ok start s (after_abandon batch s)
abandoned_goes desks fed ok start s batch inv there =
    let without = without_inv desks fed ok start s batch inv in
    let goes = marks_go desks fed fed ok start (without_batch batch s) (is_of (standing_rides batch s)) Waiting (omega arith) without
    (record {
      with_none = refl;
      were_with_none = λ r r_there passes. (in_batch-none batch.number r.state
          (standing_in desks fed ok start s batch r inv r_there passes)).0;
      were_open = λ r r_there passes. (in_batch-none batch.number r.state (standing_in desks fed ok start s batch r inv r_there passes)).1;
      in_batches = λ b b_there r r_there passes is.
          absurd (cc (
            is,
            in_batch-stays batch.number b.number r.state (standing_in desks fed ok start s batch r inv r_there passes)
                (other_number desks fed ok start s batch b inv there b_there),
          ));
    }) in
    subst (Goes desks fed ok start s) (sym (abandon-is s batch))
    (record { inv = goes.inv; earlier = goes.earlier; closed_stay = goes.closed_stay })
