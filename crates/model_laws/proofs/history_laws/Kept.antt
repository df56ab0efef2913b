-- What the times of a vehicle keep: the limits of its rides that were not named late.
use Rattle.model_laws.proofs.Common.{◌≡◌, ℕ, ◌+◌, ◌&&◌, ◌||◌, Bool, true, false, cond, inl, inr, List, [], ◌∷◌, ◌++◌, eqb, leb, leb-true, ltb, le-ltb, refl, sym, ◌∙◌, ap, subst, map, Option, Some, None, slice_set, ◌==◌, list_all, filter, eq-eqb, or_parts, or_from, and_parts, list_any-append, Ride, Stop, Vehicle, is_pickup_at, is_dropoff_at, keeps_visits, keeps_ride, breaks_visits, breaks_ride, broken_of, is_late}
use Rattle.model_laws.proofs.plain.Among.{Among, among_map, among_map_back, among_filter}
use Rattle.model_laws.proofs.history_laws.Lookups.{put, Placed}

-- a vehicle's times break no limit of a ride that was not named late
abbrev pub Keeping : ℕ → List ℕ → Vehicle → Type 0
Keeping dwell late v = (ride : Ride) → Among ride v.rides.items → is_late late ride.id ≡ false → breaks_ride v dwell ride ≡ false

-- so it is with each vehicle
abbrev pub AllKeep : ℕ → List ℕ → List Vehicle → Type 0
AllKeep dwell late vehicles = (v : Vehicle) → Among v vehicles → Keeping dwell late v

-- a ride that is not late by more names was not late before, and is none of the new ones
pub not_late : (late more : List ℕ) (id : ℕ) → is_late (late ++ more) id ≡ false
    → (is_late late id ≡ false) × (is_late more id ≡ false)
not_late late more id h =
    or_parts (is_late late id) (is_late more id) (sym (list_any-append (λ other. other == id) late more) ∙ h)

-- more late rides ask less
pub keeping-more : (dwell : ℕ) (late more : List ℕ) (v : Vehicle) → Keeping dwell late v → Keeping dwell (late ++ more) v
keeping-more dwell late more v keeping ride there h = keeping ride there (not_late late more ride.id h).0

pub all_keep-more : (dwell : ℕ) (late more : List ℕ) (vehicles : List Vehicle) → AllKeep dwell late vehicles
    → AllKeep dwell (late ++ more) vehicles
all_keep-more dwell late more vehicles keep v there = keeping-more dwell late more v (keep v there)

-- an id of the late ones is late
late_among : (late : List ℕ) (id : ℕ) → Among id late → is_late late id ≡ true
late_among [] id there = absurd there
late_among (other ∷ late) id (inl is) = ap (λ b. b || is_late late id) (eq-eqb other id is)
late_among (other ∷ late) id (inr there) = by_test (late_among late id there) (eqb other id)
  where
    by_test : is_late late id ≡ true → (b : Bool) → (b || is_late late id) ≡ true
    by_test later true = refl
    by_test later false = later

-- where the rides whose limits a vehicle breaks are named, it breaks none of another
pub keeping-named : (dwell : ℕ) (late : List ℕ) (v : Vehicle) → Keeping dwell (late ++ broken_of v dwell) v
keeping-named dwell late v ride there h = by_test (breaks_ride v dwell ride) refl
  where
    by_test : (b : Bool) → breaks_ride v dwell ride ≡ b → b ≡ false
    by_test false is = refl
    by_test true is =
        absurd (cc (
          (not_late late (broken_of v dwell) ride.id h).1,
          late_among (broken_of v dwell) ride.id
              (among_map (λ (r : Ride). r.id) (filter (breaks_ride v dwell) v.rides.items) ride
              (among_filter (breaks_ride v dwell) v.rides.items ride there is)),
        ))

-- the vehicles keep theirs where the one that is put among them does
pub all_keep-put : (dwell : ℕ) (late : List ℕ) (vehicles : List Vehicle) (new : Vehicle) → AllKeep dwell late vehicles
    → Keeping dwell late new → AllKeep dwell late (map (put new) vehicles)
all_keep-put dwell late vehicles new keep keeping v there =
    let (w, w_there, is) = among_map_back (put new) vehicles v there in
    subst (Keeping dwell late) is (by_test w w_there (eqb w.id new.id))
  where
    by_test : (w : Vehicle) → Among w vehicles → (b : Bool) → Keeping dwell late (cond b new w)
    by_test w w_there true = keeping
    by_test w w_there false = keep w w_there

-- the same where it is set at a place
pub all_keep-placed : (dwell : ℕ) (late : List ℕ) (vehicles : List Vehicle) (place : ℕ) (v new : Vehicle)
    → Placed vehicles v.id place v → new.id ≡ v.id → AllKeep dwell late vehicles → Keeping dwell late new
    → AllKeep dwell late (slice_set vehicles place new)
all_keep-placed dwell late vehicles place v new placed id_is keep keeping =
    subst (AllKeep dwell late) (sym (placed.set_is new id_is)) (all_keep-put dwell late vehicles new keep keeping)

-- visits that keep the limits of a ride break none
keeps-whole : (ride : Ride) (picked : Option ℕ) (visits : List (Stop × ℕ)) → keeps_visits ride picked visits ≡ true
    → breaks_visits ride picked visits ≡ false
keeps-whole ride None (p ∷ d ∷ []) keeps =
    let (three, within) = and_parts (is_pickup_at ride.from p.0 && is_dropoff_at ride.to d.0 && leb p.1 ride.latest)
    (leb d.1 (p.1 + ride.longest)) keeps in
    let (places, in_time) = and_parts (is_pickup_at ride.from p.0 && is_dropoff_at ride.to d.0) (leb p.1 ride.latest) three in
    or_from (ltb ride.latest p.1) (ltb (p.1 + ride.longest) d.1)
    (le-ltb ride.latest p.1 (leb-true p.1 ride.latest in_time))
    (le-ltb (p.1 + ride.longest) d.1 (leb-true d.1 (p.1 + ride.longest) within))
keeps-whole ride (Some at) (d ∷ []) keeps =
    let (place, within) = and_parts (is_dropoff_at ride.to d.0) (leb d.1 (at + ride.longest)) keeps in
    le-ltb (at + ride.longest) d.1 (leb-true d.1 (at + ride.longest) within)
keeps-whole ride None [] keeps = refl
keeps-whole ride None (p ∷ []) keeps = refl
keeps-whole ride None (p ∷ d ∷ e ∷ visits) keeps = refl
keeps-whole ride (Some at) [] keeps = refl
keeps-whole ride (Some at) (d ∷ e ∷ visits) keeps = refl

-- what passes for all rides passes for each
pub each_passes : (test : Ride → Bool) (rides : List Ride) (ride : Ride) → list_all test rides ≡ true → Among ride rides
    → test ride ≡ true
each_passes test [] ride h there = absurd there
each_passes test (first ∷ rides) ride h (inl is) =
    ap test (sym is) ∙ (and_parts (test first) (list_all test rides) h).0
each_passes test (first ∷ rides) ride h (inr there) =
    each_passes test rides ride (and_parts (test first) (list_all test rides) h).1 there

-- a vehicle that keeps its promises from the time at which it is ready breaks no limit
pub keeping-kept : (dwell : ℕ) (late : List ℕ) (v : Vehicle)
    → ((ride : Ride) → Among ride v.rides.items → keeps_ride v v.ready dwell ride ≡ true) → Keeping dwell late v
keeping-kept dwell late v kept ride there h = keeps-whole ride ride.picked _ (kept ride there)
