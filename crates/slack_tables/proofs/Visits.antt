-- Visits of rides in a plan with one stop more, and with later arrivals.
use Rattle.slack_tables.proofs.Common.{◌≡◌, ℕ, zero, suc, ◌+◌, ◌<◌, ◌≤◌, Bool, true, false, cond, ◌&&◌, List, [], ◌∷◌, length, drop, get_or, eqb, leb, leb-true, le-leb, refl, sym, ◌∙◌, ap, arith, add-zero, add-one, map, Some, None, option_map, insert, nat_le, if◌then◌else◌, AllByRecursion, lt-leb, same_Some, Kind, Pickup, Dropoff, Stop, visit_of, stops_of, is_kind, is_visit, relegged, with_stop, arrival_of, Visit, first_visit}
use Rattle.slack_tables.proofs.Delays.{delayed}

-- a stop that is not the visit
pub visit-later : (id : ℕ) (kind : Kind) (stops : List Stop) (times : List ℕ) (i : ℕ) (d : Stop) → i < length stops → length times
    ≡ length stops
    → is_visit id kind (get_or stops i d) ≡ false
    → first_visit (i + 1) id kind (drop (i + 1) stops) (drop (i + 1) times) ≡ first_visit i id kind (drop i stops) (drop i times)
visit-later id kind stops times i d within same other =
    ap (λ n. first_visit (i + 1) id kind (drop n stops) (drop n times)) (add-one i) ∙ later i stops times i within same other
  where
    later : (place : ℕ) (ss : List Stop) (ts : List ℕ) (n : ℕ) → n < length ss → length ts ≡ length ss → is_visit id kind
        (get_or ss n d) ≡ false
        → first_visit (place + 1) id kind (drop (suc n) ss) (drop (suc n) ts) ≡ first_visit place id kind (drop n ss) (drop n ts)
    later place [] ts n h k o = absurd (omega arith)
    later place (s ∷ ss) [] n h k o = absurd (omega (arith, k))
    later place (s ∷ ss) (t ∷ ts) zero h k o =
        sym (ap (λ b. cond b (Some (record { place = place; time = t })) (first_visit (place + 1) id kind ss ts)) o)
    later place (s ∷ ss) (t ∷ ts) (suc n) h k o = later place ss ts n (omega arith) (omega (arith, k)) o

-- an arrival is that of the first visit
pub arrival-visit : (place id : ℕ) (kind : Kind) (stops : List Stop) (times : List ℕ)
    → arrival_of id kind stops times ≡ option_map (λ (visit : Visit). visit.time) (first_visit place id kind stops times)
arrival-visit place id kind [] times = refl
arrival-visit place id kind (s ∷ stops) [] = refl
arrival-visit place id kind (s ∷ stops) (t ∷ times) =
    elim (is_visit id kind s) as (λ b. cond b (Some t) (arrival_of id kind stops times)
    ≡ option_map (λ (visit : Visit). visit.time)
    (cond b (Some (record { place = place; time = t })) (first_visit (place + 1) id kind stops times))) [
      | true ↦ refl
      | false ↦ arrival-visit (place + 1) id kind stops times
    ]

-- legs do not matter
pub arrival-relegged : (id place leg : ℕ) (kind : Kind) (stops : List Stop) (times : List ℕ)
    → arrival_of id kind (relegged place leg stops) times ≡ arrival_of id kind stops times
arrival-relegged id place leg kind [] times = refl
arrival-relegged id zero leg kind (s ∷ stops) [] = refl
arrival-relegged id zero leg kind (s ∷ stops) (t ∷ times) = refl
arrival-relegged id (suc place) leg kind (s ∷ stops) [] = refl
arrival-relegged id (suc place) leg kind (s ∷ stops) (t ∷ times) =
    ap (cond (is_visit id kind s) (Some t)) (arrival-relegged id place leg kind stops times)

-- a stop more that is not the visit
pub arrival-skip : (id : ℕ) (kind : Kind) (place : ℕ) (x : Stop) (after t : ℕ) (stops : List Stop) (times : List ℕ)
    → place ≤ length stops
    → length times ≡ length stops → is_visit id kind x ≡ false
    → arrival_of id kind (with_stop place x after stops) (insert times place t) ≡ arrival_of id kind stops times
arrival-skip id kind zero x after t stops times within same other =
    ap (λ b. cond b (Some t) (arrival_of id kind (relegged 0 after stops) times)) other ∙ arrival-relegged id 0 after kind stops times
arrival-skip id kind (suc place) x after t [] times within same other = absurd (omega arith)
arrival-skip id kind (suc place) x after t (s ∷ stops) [] within same other = absurd (omega (arith, same))
arrival-skip id kind (suc place) x after t (s ∷ stops) (u ∷ times) within same other =
    ap (cond (is_visit id kind s) (Some u))
    (arrival-skip id kind place x after t stops times (omega arith) (omega (arith, same)) other)

-- a stop more that is the first visit
pub arrival-here : (id : ℕ) (kind : Kind) (place : ℕ) (x : Stop) (after t : ℕ) (stops : List Stop) (times : List ℕ)
    → place ≤ length stops
    → length times ≡ length stops → is_visit id kind x ≡ true → arrival_of id kind stops times ≡ None
    → arrival_of id kind (with_stop place x after stops) (insert times place t) ≡ Some t
arrival-here id kind zero x after t stops times within same here none =
    ap (λ b. cond b (Some t) (arrival_of id kind (relegged 0 after stops) times)) here
arrival-here id kind (suc place) x after t [] times within same here none = absurd (omega arith)
arrival-here id kind (suc place) x after t (s ∷ stops) [] within same here none = absurd (omega (arith, same))
arrival-here id kind (suc place) x after t (s ∷ stops) (u ∷ times) within same here none =
    elim (is_visit id kind s) as (λ b. cond b (Some u) (arrival_of id kind stops times) ≡ None
    → cond b (Some u) (arrival_of id kind (with_stop place x after stops) (insert times place t)) ≡ Some t) [
      | true ↦ λ some. absurd (cc some)
      | false ↦ λ rest. arrival-here id kind place x after t stops times (omega arith) (omega (arith, same)) here rest
    ] none

-- no visit of a ride that has no stop
pub arrival-none : (id : ℕ) (kind : Kind) (stops : List Stop) (times : List ℕ) → AllByRecursion
    (λ (s : Stop). eqb s.ride id ≡ false) stops
    → arrival_of id kind stops times ≡ None
arrival-none id kind [] times others = refl
arrival-none id kind (s ∷ stops) [] others = refl
arrival-none id kind (s ∷ stops) (t ∷ times) (other, rest) =
    ap (λ b. cond (b && is_kind s.kind kind) (Some t) (arrival_of id kind stops times)) other ∙ arrival-none id kind stops times rest

-- a visit that is later where it stands at a place or behind it
abbrev pub postponed : ℕ → ℕ → Visit → Visit
postponed place d visit = record visit { time = visit.time + (if nat_le place visit.place then d else 0) }

abbrev later_by : ℕ → Visit → Visit
later_by d visit = record visit { time = visit.time + d }

all-later : (place d id : ℕ) (kind : Kind) (stops : List Stop) (times : List ℕ)
    → first_visit place id kind stops (delayed zero d times) ≡ option_map (later_by d) (first_visit place id kind stops times)
all-later place d id kind [] times = refl
all-later place d id kind (s ∷ stops) [] = refl
all-later place d id kind (s ∷ stops) (t ∷ times) =
    elim (is_visit id kind s) as
    (λ b. cond b (Some (record { place = place; time = t + d })) (first_visit (place + 1) id kind stops (delayed zero d times))
    ≡ option_map (later_by d) (cond b (Some (record { place = place; time = t })) (first_visit (place + 1) id kind stops times))) [
      | true ↦ refl
      | false ↦ all-later (place + 1) d id kind stops times
    ]

all-postponed : (from place d id : ℕ) (kind : Kind) (stops : List Stop) (times : List ℕ) → from ≤ place
    → option_map (postponed from d) (first_visit place id kind stops times) ≡ option_map (later_by d)
    (first_visit place id kind stops times)
all-postponed from place d id kind [] times low = refl
all-postponed from place d id kind (s ∷ stops) [] low = refl
all-postponed from place d id kind (s ∷ stops) (t ∷ times) low =
    elim (is_visit id kind s) as
    (λ b. option_map (postponed from d)
    (cond b (Some (record { place = place; time = t })) (first_visit (place + 1) id kind stops times))
    ≡ option_map (later_by d) (cond b (Some (record { place = place; time = t })) (first_visit (place + 1) id kind stops times))) [
      | true ↦ ap (λ b. Some (record { place = place; time = t + cond b d 0 })) (le-leb from place low)
      | false ↦ all-postponed from (place + 1) d id kind stops times (omega arith)
    ]

visit-delayed-from : (place from d id : ℕ) (kind : Kind) (stops : List Stop) (times : List ℕ)
    → first_visit place id kind stops (delayed from d times) ≡ option_map (postponed (from + place) d)
    (first_visit place id kind stops times)
visit-delayed-from place from d id kind [] times = refl
visit-delayed-from place zero d id kind (s ∷ stops) [] = refl
visit-delayed-from place (suc from) d id kind (s ∷ stops) [] = refl
visit-delayed-from place zero d id kind (s ∷ stops) (t ∷ times) =
    all-later place d id kind (s ∷ stops) (t ∷ times) ∙ sym
    (all-postponed (0 + place) place d id kind (s ∷ stops) (t ∷ times) (omega arith))
visit-delayed-from place (suc from) d id kind (s ∷ stops) (t ∷ times) =
    elim (is_visit id kind s) as
    (λ b. cond b (Some (record { place = place; time = t })) (first_visit (place + 1) id kind stops (delayed from d times))
    ≡ option_map (postponed (suc from + place) d)
    (cond b (Some (record { place = place; time = t })) (first_visit (place + 1) id kind stops times))) [
      | true ↦ ap (λ n. Some (record { place = place; time = n }))
          (sym (add-zero t) ∙ ap (λ b. t + cond b d 0) (sym (lt-leb (suc from + place) place (omega arith))))
      | false ↦ visit-delayed-from (place + 1) from d id kind stops times
          ∙ ap (λ n. option_map (postponed n d) (first_visit (place + 1) id kind stops times)) (shift from place)
    ]
  where
    shift : (m n : ℕ) → m + (n + 1) ≡ suc m + n
    shift m n = omega arith

-- the first visit where the arrivals from a place on are later
pub visit-delayed : (from d id : ℕ) (kind : Kind) (stops : List Stop) (times : List ℕ)
    → first_visit 0 id kind stops (delayed from d times) ≡ option_map (postponed from d) (first_visit 0 id kind stops times)
visit-delayed from d id kind stops times =
    visit-delayed-from 0 from d id kind stops times ∙ ap (λ n. option_map (postponed n d) (first_visit 0 id kind stops times))
    (add-zero from)

-- a visit stands among the stops
pub visit-place : (place id : ℕ) (kind : Kind) (stops : List Stop) (times : List ℕ) (visit : Visit)
    → first_visit place id kind stops times ≡ Some visit → (place ≤ visit.place) × (visit.place < place + length stops)
visit-place place id kind [] times visit is = absurd (cc is)
visit-place place id kind (s ∷ stops) [] visit is = absurd (cc is)
visit-place place id kind (s ∷ stops) (t ∷ times) visit is =
    elim (is_visit id kind s) as
    (λ b. cond b (Some (record { place = place; time = t })) (first_visit (place + 1) id kind stops times) ≡ Some visit
    → (place ≤ visit.place) × (visit.place < place + suc (length stops))) [
      | true ↦ λ here. let e : place ≡ visit.place = ap (λ (w : Visit). w.place) (same_Some _ visit here) in
          (omega (arith, e), omega (arith, e))
      | false ↦ λ rest. let (low, high) = visit-place (place + 1) id kind stops times visit rest in
          (omega (arith, low), omega (arith, high))
    ] is

-- the visits of a ride whose stops are a drop-off
pub record OneVisit (place id : ℕ) (stops : List Stop) (times : List ℕ) : Type 0 where
  pub dropoff : Visit
  pub there : first_visit place id Dropoff stops times ≡ Some dropoff
  pub behind : place ≤ dropoff.place

first_of : (a : Kind × ℕ) (as' : List (Kind × ℕ)) (b : Kind × ℕ) (bs : List (Kind × ℕ)) → a ∷ as' ≡ b ∷ bs → (a.0 ≡ b.0) × (as' ≡ bs)
first_of a as' b bs e = (ap (λ (w : Kind × ℕ). w.0) heads, tails)
  where
    heads : a ≡ b
    heads = cc

    tails : as' ≡ bs
    tails = cc

pub one-visit : (place id node : ℕ) (stops : List Stop) (times : List ℕ) → length times ≡ length stops
    → map visit_of (stops_of id stops) ≡ (Dropoff, node) ∷ [] → OneVisit place id stops times
one-visit place id node [] times same due = absurd (cc due)
one-visit place id node (s ∷ stops) [] same due = absurd (omega (arith, same))
one-visit place id node (s ∷ stops) (t ∷ times) same due =
    elim (eqb s.ride id) as
    (λ b. eqb s.ride id ≡ b → map visit_of (cond b (s ∷ stops_of id stops) (stops_of id stops)) ≡ (Dropoff, node) ∷ []
    → OneVisit place id (s ∷ stops) (t ∷ times)) [
      | true ↦ λ own is.
          let (kind, _) = first_of (visit_of s) (map visit_of (stops_of id stops)) (Dropoff, node) [] is in
          record {
            dropoff = record { place = place; time = t };
            there = ap (λ b. cond (b && is_kind s.kind Dropoff) (Some (record { place = place; time = t }))
                (first_visit (place + 1) id Dropoff stops times)) own
                ∙ ap (λ k. cond (is_kind k Dropoff) (Some (record { place = place; time = t }))
                (first_visit (place + 1) id Dropoff stops times)) kind;
            behind = omega arith;
          }
      | false ↦ λ other is.
          let rest = one-visit (place + 1) id node stops times (omega (arith, same)) is in
          record {
            dropoff = rest.dropoff;
            there = ap (λ b. cond (b && is_kind s.kind Dropoff) (Some (record { place = place; time = t }))
                (first_visit (place + 1) id Dropoff stops times)) other
                ∙ rest.there;
            behind = omega (arith, rest.behind);
          }
    ] refl due

-- the visits of a ride whose stops are a pickup and a drop-off
pub record TwoVisits (place id : ℕ) (stops : List Stop) (times : List ℕ) : Type 0 where
  pub pickup : Visit
  pub dropoff : Visit
  pub picked_up : first_visit place id Pickup stops times ≡ Some pickup
  pub dropped : first_visit place id Dropoff stops times ≡ Some dropoff
  pub in_order : pickup.place < dropoff.place

pub two-visits : (place id from to : ℕ) (stops : List Stop) (times : List ℕ) → length times ≡ length stops
    → map visit_of (stops_of id stops) ≡ (Pickup, from) ∷ (Dropoff, to) ∷ [] → TwoVisits place id stops times
two-visits place id from to [] times same due = absurd (cc due)
two-visits place id from to (s ∷ stops) [] same due = absurd (omega (arith, same))
two-visits place id from to (s ∷ stops) (t ∷ times) same due =
    elim (eqb s.ride id) as
    (λ b. eqb s.ride id ≡ b → map visit_of (cond b (s ∷ stops_of id stops) (stops_of id stops)) ≡ (Pickup, from) ∷
    (Dropoff, to) ∷ []
    → TwoVisits place id (s ∷ stops) (t ∷ times)) [
      | true ↦ λ own is.
          let (kind, behind) = first_of (visit_of s) (map visit_of (stops_of id stops)) (Pickup, from) ((Dropoff, to) ∷ []) is in
          let rest = one-visit (place + 1) id to stops times (omega (arith, same)) behind in
          record {
            pickup = record { place = place; time = t };
            dropoff = rest.dropoff;
            picked_up = ap (λ b. cond (b && is_kind s.kind Pickup) (Some (record { place = place; time = t }))
                (first_visit (place + 1) id Pickup stops times)) own
                ∙ ap (λ k. cond (is_kind k Pickup) (Some (record { place = place; time = t }))
                (first_visit (place + 1) id Pickup stops times)) kind;
            dropped = ap (λ b. cond (b && is_kind s.kind Dropoff) (Some (record { place = place; time = t }))
                (first_visit (place + 1) id Dropoff stops times)) own
                ∙ ap (λ k. cond (is_kind k Dropoff) (Some (record { place = place; time = t }))
                (first_visit (place + 1) id Dropoff stops times)) kind
                ∙ rest.there;
            in_order = omega (arith, rest.behind);
          }
      | false ↦ λ other is.
          let rest = two-visits (place + 1) id from to stops times (omega (arith, same)) is in
          record {
            pickup = rest.pickup;
            dropoff = rest.dropoff;
            picked_up = ap (λ b. cond (b && is_kind s.kind Pickup) (Some (record { place = place; time = t }))
                (first_visit (place + 1) id Pickup stops times)) other
                ∙ rest.picked_up;
            dropped = ap (λ b. cond (b && is_kind s.kind Dropoff) (Some (record { place = place; time = t }))
                (first_visit (place + 1) id Dropoff stops times)) other
                ∙ rest.dropped;
            in_order = rest.in_order;
          }
    ] refl due
