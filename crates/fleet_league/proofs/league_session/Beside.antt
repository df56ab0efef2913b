-- A company's board stays beside the desk, and a round between them may be played.
use Rattle.fleet_league.proofs.Common.{◌≡◌, ℕ, ◌+◌, ◌<◌, ◌≤◌, ◌||◌, inl, inr, Bool, true, false, cond, List, [], ◌∷◌, ◌++◌, length, take, eqb, Option, Some, None, refl, sym, ap, subst, ◌∙◌, arith, append_assoc, append-nil, length-append, length-take, ◌==◌, find, option_map, is_some, nat_eq, IsEquivalence, IsDistinct, eqb-true, eq-eqb, ne_eqb, length-map, IsDistinct-head, IsDistinct-tail, or-true, Command, RequestState, Waiting, InBatch, Aboard, Away, Cancelled, Settings, Ride, is_waiting, waiting_rides, RoadMap, State, AcceptedRequest, accepted_request, request_state, step, IsSpelledCommand, IsRide, ride_ids, is_of, Among, among_map_back, of_each, of_all, all_of, distinct-push, request_state-marked, state_if_there, state_in, with_request_states-is, request_ids, found_by, of_rides, waits_in, Recorded, state_of, request_of, CompanyState, is_report, after_round, MayPlay, IsBeside, IsDesk, IsMember, IsPlayed, is_riders, IsNewRide}
use Rattle.std.specs.Set.{is_member}
use Rattle.std.proofs.lemmas.Map.Made.{length-le_from_is_member}
use Rattle.ride_model.specs.declared.reply.RequestState.TheVariants.{Confirmed, Done}
use Rattle.model_laws.proofs.plain.Numbers.{eqb-comm}
use Rattle.fleet_league.proofs.league_session.Desks.{found-marked, tame-step}
use Rattle.fleet_league.proofs.Legality.{IsLegalBoard, sure}
use Rattle.fleet_league.proofs.PricedQuotes.{among_append_back}
use Rattle.fleet_league.proofs.Reports.{quiet-step}

-- what was accepted now was before, where nothing else was added
was-there : {X : Type 0} (before after : Option X) → (before ≡ None → after ≡ None) → is_some after ≡ true → is_some before ≡ true
was-there None after none some = absurd (cc (ap is_some (none refl), some))
was-there (Some x) after none some = refl

-- a desk that has answered a rider
pub beside-answered : (log : ℕ) (desk board : State) (command : Command) → IsBeside desk board → is_riders command ≡ true
    → IsSpelledCommand log command → IsBeside (step desk command).state board
beside-answered log desk board command beside is spelled =
    let tame = tame-step log desk command is spelled in
    record {
      closed = λ id there. tame.cancelled id (beside.closed id there);
      few_asked = omega (arith, tame.asked, beside.few_asked);
    }

-- a board that has answered a report
pub beside-reported : (desk board : State) (command : Command) → IsBeside desk board → is_report command ≡ true
    → IsBeside desk (step board command).state
beside-reported desk board command beside is =
    let quiet = quiet-step board command is in
    record {
      closed = λ id there. beside.closed id
          (was-there (accepted_request board id) (accepted_request (step board command).state id) (quiet.no_others id) there);
      few_asked = omega (arith, quiet.asked, beside.few_asked);
    }

-- the requests of rides wait
abbrev pub AreWaiting : State → List Ride → Type 0
AreWaiting s rides = (ride : Ride) → Among ride rides → request_state s ride.id ≡ Some Waiting

-- a round was played
pub beside-played : (desk : State) (old new : CompanyState) (rides : List Ride) → IsBeside desk (state_of old.board) → AreWaiting desk rides
    → IsPlayed rides old new → IsBeside (after_round desk rides) (state_of new.board)
beside-played desk old new rides beside waiting played = record {
  closed = λ id there.
      ap (λ (t : State). request_state t id) (with_request_states-is Cancelled rides desk)
      ∙ request_state-marked (is_of rides) Cancelled id desk.requests
      ∙ by_test id there (is_of rides id) refl;
  few_asked = omega (arith, played.few_asked, beside.few_asked);
}
  where
    by_test : (id : ℕ) → is_some (accepted_request (state_of new.board) id) ≡ true → (b : Bool) → is_of rides id ≡ b
        → cond b (state_if_there Cancelled desk.requests id) (state_in desk.requests id) ≡ Some Cancelled
    by_test id there true is =
        let (ride, ride_there, same) = of_rides rides id is in
        found-marked Cancelled desk.requests id Waiting
        (ap (λ (q : ℕ). state_in desk.requests q) (sym same) ∙ waiting ride ride_there)
    by_test id there false is =
        beside.closed id
        (was-there (accepted_request (state_of old.board) id) (accepted_request (state_of new.board) id) (played.others_stay id is) there)

-- equality of numbers
numbers : IsEquivalence eqb
numbers = record {
  refl = λ x. eq-eqb x x refl;
  symm = eqb-comm;
  congr = λ x y z same. ap (λ n. eqb n z) (eqb-true x y same);
}

member-among : (xs : List ℕ) (q : ℕ) → is_member eqb xs q ≡ true → Among q xs
member-among [] q is = absurd (cc is)
member-among (x ∷ xs) q is = by_test (member-among xs q) (eqb q x) refl is
  where
    by_test : (is_member eqb xs q ≡ true → Among q xs) → (b : Bool) → eqb q x ≡ b → (b || is_member eqb xs q) ≡ true → Among q (x ∷ xs)
    by_test later true same is = inl (sym (eqb-true q x same))
    by_test later false other is = inr (later is)

among-member : (xs : List ℕ) (q : ℕ) → Among q xs → is_member eqb xs q ≡ true
among-member [] q there = absurd there
among-member (x ∷ xs) q (inl is) = ap (λ b. b || is_member eqb xs q) (eq-eqb q x (sym is))
among-member (x ∷ xs) q (inr there) = ap (λ b. eqb q x || b) (among-member xs q there) ∙ or-true (eqb q x)

-- different numbers, and after them others
distinct-append : (xs ys : List ℕ) → IsDistinct eqb xs → IsDistinct eqb ys → ((y : ℕ) → Among y xs → Among y ys → ⊥)
    → IsDistinct eqb (xs ++ ys)
distinct-append xs [] first second apart = subst (IsDistinct eqb) (sym (append-nil xs)) first
distinct-append xs (y ∷ ys) first second apart =
    subst (IsDistinct eqb) (append_assoc xs (y ∷ []) ys)
    (distinct-append (xs ++ y ∷ []) ys
    (distinct-push xs y first (λ x there. ne_eqb x y (λ same. apart x there (inl (sym same)))))
    (IsDistinct-tail eqb y ys second)
    (λ z in_xs in_ys. elim (among_append_back xs (y ∷ []) z in_xs) [
      | inl before ↦ apart z before (inr in_ys)
      | inr last ↦ elim last [
        | inl is ↦ differs y ys second z in_ys is
        | inr none ↦ absurd none
      ]
    ]))
  where
    differs : (y : ℕ) (ys : List ℕ) → IsDistinct eqb (y ∷ ys) → (z : ℕ) → Among z ys → y ≡ z → ⊥
    differs y ys distinct z there same =
        let no : eqb y z ≡ false = of_each (λ k. eqb y k ≡ false) ys z (IsDistinct-head eqb y ys distinct) there in
        cc (no, eq-eqb y z same)

-- a request that is there is found, where ids differ
found-there : (requests : List AcceptedRequest) (r : AcceptedRequest) → IsDistinct eqb (request_ids requests) → Among r requests
    → state_in requests r.ride.id ≡ Some r.state
found-there requests r differ there =
    ap (option_map (λ (x : AcceptedRequest). x.state)) (found_by (λ (x : AcceptedRequest). x.ride.id) requests r differ there)

-- a request that is found is there
found-id : (q : ℕ) (requests : List AcceptedRequest) (state : RequestState) → state_in requests q ≡ Some state → Among q (request_ids requests)
found-id q [] state is = absurd (cc is)
found-id q (r ∷ requests) state is = by_test (found-id q requests state) (eqb r.ride.id q) refl is
  where
    by_test : (state_in requests q ≡ Some state → Among q (request_ids requests)) → (b : Bool) → eqb r.ride.id q ≡ b
        → option_map (λ (x : AcceptedRequest). x.state) (cond b (Some r) (find (λ (x : AcceptedRequest). x.ride.id == q) requests)) ≡ Some state
        → Among q (request_ids (r ∷ requests))
    by_test later true same is = inl (eqb-true r.ride.id q same)
    by_test later false other is = inr (later is)

-- the first that wait are waiting
pub first-waiting : (desk : Recorded) (most : ℕ) → IsLegalBoard desk → AreWaiting (state_of desk) (take most (waiting_rides (state_of desk)))
first-waiting desk most legal ride there =
    let s : State = state_of desk in
    let w = waits_in s most ride there in
    ap (λ (r : Ride). request_state s r.id) (sym w.ride_is)
    ∙ found-there s.requests w.request (sure desk legal).requests_differ w.there
    ∙ ap Some (waits w.request.state w.waiting)
  where
    waits : (state : RequestState) → is_waiting state ≡ true → state ≡ Waiting
    waits Waiting is = refl
    waits (InBatch n) is = absurd (cc is)
    waits (Confirmed v) is = absurd (cc is)
    waits (Aboard v) is = absurd (cc is)
    waits Done is = absurd (cc is)
    waits (Away n) is = absurd (cc is)
    waits Cancelled is = absurd (cc is)

module _ (desk : Recorded) (company : CompanyState) (lines : ℕ) (fits : IsDesk desk) (desk_legal : IsLegalBoard desk)
    (member : IsMember desk company lines) (legal : IsLegalBoard company.board) where
  abbrev s : State
  s = state_of desk

  abbrev board : State
  board = state_of company.board

  abbrev rides : List Ride
  rides = take s.settings.batch (waiting_rides s)

  -- a request that waits is new to the company
  not-there : (ride : Ride) → Among ride rides → accepted_request board ride.id ≡ None
  not-there ride there = by_found (accepted_request board ride.id) refl
    where
      by_found : (found : Option AcceptedRequest) → accepted_request board ride.id ≡ found → accepted_request board ride.id ≡ None
      by_found None is = is
      by_found (Some r) is =
          let closed = member.beside.closed ride.id (ap is_some is) in
          absurd (cc (closed, first-waiting desk s.settings.batch desk_legal ride there))

  same-roads : s.roads ≡ board.roads
  same-roads = (sure desk desk_legal).roads_stay ∙ sym member.same_roads ∙ sym (sure company.board legal).roads_stay

  new-ride : (ride : Ride) → Among ride rides → IsNewRide board ride
  new-ride ride there =
      let w = waits_in s s.settings.batch ride there in
      record {
        fits = subst (λ (m : RoadMap). IsRide m ride) same-roads
            (subst (IsRide s.roads) w.ride_is
            (of_all (λ (r : AcceptedRequest). IsRide s.roads r.ride) s.requests w.request (sure desk desk_legal).requests_fit w.there));
        waits = sym (ap (λ (r : Ride). r.picked) w.ride_is)
            ∙ of_all (λ (r : AcceptedRequest). r.ride.picked ≡ None) s.requests w.request (sure desk desk_legal).requests_wait w.there;
        not_accepted = not-there ride there;
      }

  -- what the company has and what waits are different requests of the desk
  has-room : IsDistinct eqb (ride_ids rides) → length board.requests + length rides ≤ 100000
  has-room differ =
      let all : List ℕ = request_ids board.requests ++ ride_ids rides in
      let distinct : IsDistinct eqb all
      = distinct-append (request_ids board.requests) (ride_ids rides) (sure company.board legal).requests_differ differ both in
      let most : length all ≤ length (request_ids s.requests)
      = length-le_from_is_member numbers all (request_ids s.requests) distinct (λ q is.
      among-member (request_ids s.requests) q (at-desk q (member-among all q is))) in
      omega (
        arith,
        most,
        length-append (request_ids board.requests) (ride_ids rides),
        length-map board.requests (λ (r : AcceptedRequest). r.ride.id),
        length-map rides (λ (r : Ride). r.id),
        length-map s.requests (λ (r : AcceptedRequest). r.ride.id),
        (sure desk desk_legal).few_requests,
      )
    where
      accepted : (q : ℕ) → Among q (request_ids board.requests) → is_some (accepted_request board q) ≡ true
      accepted q there =
          let (r, r_there, is) = among_map_back (λ (x : AcceptedRequest). x.ride.id) board.requests q there in
          ap (λ (n : ℕ). is_some (accepted_request board n)) (sym is)
          ∙ ap is_some (found_by (λ (x : AcceptedRequest). x.ride.id) board.requests r (sure company.board legal).requests_differ r_there)

      both : (q : ℕ) → Among q (request_ids board.requests) → Among q (ride_ids rides) → ⊥
      both q first second =
          let (ride, ride_there, is) = among_map_back (λ (x : Ride). x.id) rides q second in
          cc (accepted q first, ap (λ (n : ℕ). is_some (accepted_request board n)) (sym is) ∙ ap is_some (not-there ride ride_there))

      at-desk : (q : ℕ) → Among q (request_ids board.requests ++ ride_ids rides) → Among q (request_ids s.requests)
      at-desk q there = elim (among_append_back (request_ids board.requests) (ride_ids rides) q there) [
        | inl first ↦ found-id q s.requests Cancelled (member.beside.closed q (accepted q first))
        | inr second ↦
            let (ride, ride_there, is) = among_map_back (λ (x : Ride). x.id) rides q second in
            found-id q s.requests Waiting
            (ap (λ (n : ℕ). request_state s n) (sym is) ∙ first-waiting desk s.settings.batch desk_legal ride ride_there)
      ]

  -- the company may play the next round
  pub may-play : IsDistinct nat_eq (ride_ids rides) → s.asked < 2000 → MayPlay company rides
  may-play differ few = record {
    is_open = member.is_open;
    each = all_of (IsNewRide board) rides new-ride;
    differ = differ;
    spelled = all_of (λ (ride : Ride). IsSpelledCommand company.board.start.settings.log (request_of ride)) rides (λ ride there.
        let w = waits_in s s.settings.batch ride there in
        subst (λ (settings : Settings). IsSpelledCommand settings.log (request_of ride)) (sym member.same_settings)
        (subst (λ (r : Ride). IsSpelledCommand desk.start.settings.log (request_of r)) w.ride_is
        (of_all (λ (r : AcceptedRequest). IsSpelledCommand desk.start.settings.log (request_of r.ride)) s.requests w.request fits.spelled w.there)));
    room = record {
      in_batch = omega (
        arith,
        length-take s.settings.batch (waiting_rides s),
        ap (λ (settings : Settings). settings.batch) (sure desk desk_legal).settings_stay,
        ap (λ (settings : Settings). settings.batch) member.same_settings,
      );
      requests = has-room differ;
      batches = omega (arith, member.beside.few_asked, few);
    };
  }
