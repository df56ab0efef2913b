-- The places of the requests that wait.
use Rattle.board_core.proofs.Common.{◌≡◌, ℕ, ◌+◌, ◌<◌, ◌≤◌, zero, suc, Bool, true, false, cond, List, [], ◌∷◌, ◌++◌, length, Some, Contains, slice_get, ltb, refl, sym, ap, ◌∙◌, subst, inl, inr, arith, true≢false, slice_set, IsTrue, ◌↔◌, AllByRecursion, lt-ltb, le-ltb, places_below, places_above, each-weaker, filter-all, filter-none, AcceptedRequest, is_waiting, waiting_places, marked}
use Rattle.link_lists.specs.inner.Family.{without}
use Rattle.link_lists.proofs.Members.{Contains-here, Contains-there, Contains-cons_cases, ByRecursion-at, without-same, without-other, without-absent}

-- no place is below the first
pub places-from : (place : ℕ) (requests : List AcceptedRequest) → AllByRecursion (λ other. place ≤ other) (waiting_places place requests)
places-from place [] = tt
places-from place (r ∷ requests) = by (is_waiting r.state) (each-weaker _ _ _ (λ x (l : place + 1 ≤ x). omega (arith, l)) (places-from (place + 1) requests))
  where
    by : (b : Bool) → AllByRecursion (λ other. place ≤ other) (waiting_places (place + 1) requests)
        → AllByRecursion (λ other. place ≤ other) (cond b (place ∷ waiting_places (place + 1) requests) (waiting_places (place + 1) requests))
    by true rest = (omega arith, rest)
    by false rest = rest

-- each place is below the end
pub places-below : (place end : ℕ) (requests : List AcceptedRequest) → place + length requests ≤ end
    → AllByRecursion (λ other. other < end) (waiting_places place requests)
places-below place end [] fits = tt
places-below place end (r ∷ requests) fits = by (is_waiting r.state) (places-below (place + 1) end requests (omega (arith, fits)))
  where
    by : (b : Bool) → AllByRecursion (λ other. other < end) (waiting_places (place + 1) requests)
        → AllByRecursion (λ other. other < end) (cond b (place ∷ waiting_places (place + 1) requests) (waiting_places (place + 1) requests))
    by true rest = (omega (arith, fits), rest)
    by false rest = rest

-- a place at which none waits is not among those behind it
pub not-behind : (place : ℕ) (requests : List AcceptedRequest) → Contains (waiting_places (place + 1) requests) place → ⊥
not-behind place requests here =
    let l : place + 1 ≤ place = ByRecursion-at (λ other. place + 1 ≤ other) (waiting_places (place + 1) requests) (places-from (place + 1) requests) place here in
    omega (arith, l)

-- a request waits exactly where its place is among those that wait
pub waits-there : (i at place : ℕ) (requests : List AcceptedRequest) (r : AcceptedRequest) → at ≡ place + i → slice_get requests i ≡ Some r
    → IsTrue (is_waiting r.state) ↔ Contains (waiting_places place requests) at
waits-there i at place [] r is_at found = absurd (cc found)
waits-there zero at place (q ∷ requests) r is_at found =
    let here : at ≡ place = omega (arith, is_at) in
    let is : q ≡ r = cc found in
    subst (λ p. IsTrue (is_waiting r.state) ↔ Contains (waiting_places place (q ∷ requests)) p) (sym here)
    (by (is_waiting q.state) (ap (λ (x : AcceptedRequest). is_waiting x.state) is))
  where
    by : (b : Bool) → b ≡ is_waiting r.state
        → IsTrue (is_waiting r.state) ↔ Contains (cond b (place ∷ waiting_places (place + 1) requests) (waiting_places (place + 1) requests)) place
    by true is = (λ _. Contains-here place (waiting_places (place + 1) requests), λ _. sym is)
    by false is = (λ t. absurd (true≢false (sym t ∙ sym is)), λ here. absurd (not-behind place requests here))
waits-there (suc i) at place (q ∷ requests) r is_at found =
    by (is_waiting q.state) (waits-there i at (place + 1) requests r (omega (arith, is_at)) found)
  where
    by : (b : Bool) → IsTrue (is_waiting r.state) ↔ Contains (waiting_places (place + 1) requests) at
        → IsTrue (is_waiting r.state) ↔ Contains (cond b (place ∷ waiting_places (place + 1) requests) (waiting_places (place + 1) requests)) at
    by true rest = (λ t. Contains-there place (waiting_places (place + 1) requests) at (rest.0 t), λ here. back here)
      where
        back : Contains (place ∷ waiting_places (place + 1) requests) at → IsTrue (is_waiting r.state)
        back here = elim (Contains-cons_cases place (waiting_places (place + 1) requests) at here) [
          | inl e ↦ absurd (omega (arith, e, is_at))
          | inr there ↦ rest.1 there
        ]
    by false rest = rest

-- where one request waits no more, its place goes from those that wait
pub waits-no-more : (i at place : ℕ) (requests : List AcceptedRequest) (r : AcceptedRequest) → at ≡ place + i → is_waiting r.state ≡ false
    → without at (waiting_places place requests) ≡ waiting_places place (slice_set requests i r)
waits-no-more i at place [] r is_at not = refl
waits-no-more zero at place (q ∷ requests) r is_at not =
    let here : at ≡ place = omega (arith, is_at) in
    subst (λ p. without p (waiting_places place (q ∷ requests)) ≡ waiting_places place (r ∷ requests)) (sym here) (by (is_waiting q.state))
  where
    behind : without place (waiting_places (place + 1) requests) ≡ waiting_places (place + 1) requests
    behind = without-absent place (waiting_places (place + 1) requests) (not-behind place requests)

    by : (b : Bool) → without place (cond b (place ∷ waiting_places (place + 1) requests) (waiting_places (place + 1) requests))
        ≡ waiting_places place (r ∷ requests)
    by true = without-same place place (waiting_places (place + 1) requests) refl ∙ behind ∙ rw not refl
    by false = behind ∙ rw not refl
waits-no-more (suc i) at place (q ∷ requests) r is_at not =
    by (is_waiting q.state) (waits-no-more i at (place + 1) requests r (omega (arith, is_at)) not)
  where
    by : (b : Bool) → without at (waiting_places (place + 1) requests) ≡ waiting_places (place + 1) (slice_set requests i r)
        → without at (cond b (place ∷ waiting_places (place + 1) requests) (waiting_places (place + 1) requests))
        ≡ cond b (place ∷ waiting_places (place + 1) (slice_set requests i r)) (waiting_places (place + 1) (slice_set requests i r))
    by true rest = without-other at place (waiting_places (place + 1) requests) (λ e. absurd (omega (arith, e, is_at))) ∙ ap (λ ps. place ∷ ps) rest
    by false rest = rest

-- where one request waits again, its place stands between those below it and those above it
pub waits-again : (i at place : ℕ) (requests : List AcceptedRequest) (r : AcceptedRequest) → at ≡ place + i → i < length requests
    → is_waiting r.state ≡ true
    → places_below at (waiting_places place requests) ++ at ∷ places_above at (waiting_places place requests)
    ≡ waiting_places place (slice_set requests i r)
waits-again i at place [] r is_at low waits = absurd (omega (arith, low))
waits-again zero at place (q ∷ requests) r is_at low waits =
    let here : at ≡ place = omega (arith, is_at) in
    subst
    (λ p. places_below p (waiting_places place (q ∷ requests)) ++ p ∷ places_above p (waiting_places place (q ∷ requests)) ≡ waiting_places place (r ∷ requests))
    (sym here) (by (is_waiting q.state))
  where
    above : places_above place (waiting_places (place + 1) requests) ≡ waiting_places (place + 1) requests
    above = filter-all (λ other. ltb place other) (waiting_places (place + 1) requests)
        (each-weaker _ _ _ (λ x (l : place + 1 ≤ x). lt-ltb place x (omega (arith, l))) (places-from (place + 1) requests))

    none_below : places_below place (waiting_places (place + 1) requests) ≡ []
    none_below = filter-none (λ other. ltb other place) (waiting_places (place + 1) requests)
        (each-weaker _ _ _ (λ x (l : place + 1 ≤ x). le-ltb x place (omega (arith, l))) (places-from (place + 1) requests))

    by : (b : Bool) → places_below place (cond b (place ∷ waiting_places (place + 1) requests) (waiting_places (place + 1) requests))
        ++ place ∷ places_above place (cond b (place ∷ waiting_places (place + 1) requests) (waiting_places (place + 1) requests))
        ≡ waiting_places place (r ∷ requests)
    by true = rw (le-ltb place place (omega arith), none_below, above, waits) refl
    by false = rw (none_below, above, waits) refl
waits-again (suc i) at place (q ∷ requests) r is_at low waits =
    by (is_waiting q.state) (waits-again i at (place + 1) requests r (omega (arith, is_at)) (omega (arith, low)) waits)
  where
    by : (b : Bool)
        → places_below at (waiting_places (place + 1) requests) ++ at ∷ places_above at (waiting_places (place + 1) requests)
        ≡ waiting_places (place + 1) (slice_set requests i r)
        → places_below at (cond b (place ∷ waiting_places (place + 1) requests) (waiting_places (place + 1) requests))
        ++ at ∷ places_above at (cond b (place ∷ waiting_places (place + 1) requests) (waiting_places (place + 1) requests))
        ≡ cond b (place ∷ waiting_places (place + 1) (slice_set requests i r)) (waiting_places (place + 1) (slice_set requests i r))
    by true rest =
        rw (lt-ltb place at (omega (arith, is_at)), le-ltb at place (omega (arith, is_at))) (ap (λ ps. place ∷ ps) rest)
    by false rest = rest

-- where one request waits as before, the same places wait
pub waits-as-before : (i place : ℕ) (requests : List AcceptedRequest) (old r : AcceptedRequest) → slice_get requests i ≡ Some old
    → is_waiting r.state ≡ is_waiting old.state → waiting_places place requests ≡ waiting_places place (slice_set requests i r)
waits-as-before i place [] old r at same = refl
waits-as-before zero place (q ∷ requests) old r at same =
    let is : q ≡ old = cc at in
    ap (λ b. cond b (place ∷ waiting_places (place + 1) requests) (waiting_places (place + 1) requests))
    (ap (λ (x : AcceptedRequest). is_waiting x.state) is ∙ sym same)
waits-as-before (suc i) place (q ∷ requests) old r at same =
    ap (λ ps. cond (is_waiting q.state) (place ∷ ps) ps) (waits-as-before i (place + 1) requests old r at same)

-- what becomes of the places where one request's state changes
pub places-marked : (i : ℕ) (requests : List AcceptedRequest) (old r : AcceptedRequest) → slice_get requests i ≡ Some old → i < length requests
    → marked (is_waiting old.state) (is_waiting r.state) i (waiting_places 0 requests) ≡ waiting_places 0 (slice_set requests i r)
places-marked i requests old r at low = by (is_waiting old.state) (is_waiting r.state) refl refl
  where
    by : (a b : Bool) → is_waiting old.state ≡ a → is_waiting r.state ≡ b
        → marked a b i (waiting_places 0 requests) ≡ waiting_places 0 (slice_set requests i r)
    by true false was is = waits-no-more i i 0 requests r (omega arith) is
    by false true was is = waits-again i i 0 requests r (omega arith) low is
    by true true was is = waits-as-before i 0 requests old r at (is ∙ sym was)
    by false false was is = waits-as-before i 0 requests old r at (is ∙ sym was)

-- a request more, which waits
pub places-push : (place end : ℕ) (requests : List AcceptedRequest) (r : AcceptedRequest) → end ≡ place + length requests
    → is_waiting r.state ≡ true → waiting_places place (requests ++ r ∷ []) ≡ waiting_places place requests ++ end ∷ []
places-push place end [] r is_end waits = let here : place ≡ end = omega (arith, is_end) in rw waits (ap (λ p. p ∷ []) here)
places-push place end (q ∷ requests) r is_end waits =
    by (is_waiting q.state) (places-push (place + 1) end requests r (omega (arith, is_end)) waits)
  where
    by : (b : Bool) → waiting_places (place + 1) (requests ++ r ∷ []) ≡ waiting_places (place + 1) requests ++ end ∷ []
        → cond b (place ∷ waiting_places (place + 1) (requests ++ r ∷ [])) (waiting_places (place + 1) (requests ++ r ∷ []))
        ≡ cond b (place ∷ waiting_places (place + 1) requests) (waiting_places (place + 1) requests) ++ end ∷ []
    by true rest = ap (λ ps. place ∷ ps) rest
    by false rest = rest
