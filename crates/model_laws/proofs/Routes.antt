-- Routes: stops with their legs, and what is left when stops are taken out.
use Rattle.model_laws.proofs.Common.{◌≡◌, ℕ, ◌+◌, ◌-◌, ◌≤◌, Bool, true, false, cond, List, [], ◌∷◌, refl, sym, ap, subst, arith, Some, None, option_map, option_and_then, zip, IsSomeAnd, filter, same_Some, Stop, RoadMap, IsRoadMap, travel, HasLegs, times_from, routed, AllSooner}
use Rattle.model_laws.proofs.TravelTimes.{travel-same, triangle}

-- a stop with another leg
abbrev pub with_leg : ℕ → Stop → Stop
with_leg leg stop = record stop { leg = leg }

-- a route after its first stop
pub routed-cons : (roads : RoadMap) (at leg : ℕ) (stop : Stop) (stops rest : List Stop) → travel roads at stop.node ≡ Some leg
    → routed roads stop.node stops ≡ Some rest → routed roads at (stop ∷ stops) ≡ Some (with_leg leg stop ∷ rest)
routed-cons roads at leg stop stops rest there on = rw (there, on) refl

-- a route's stops have their legs
pub routed-has_legs : (roads : RoadMap) (at : ℕ) (stops out : List Stop) → routed roads at stops ≡ Some out → HasLegs roads at out
routed-has_legs roads at [] out is = subst (HasLegs roads at) (same_Some [] out is) tt
routed-has_legs roads at (stop ∷ stops) out is =
    elim (travel roads at stop.node) as (λ o. travel roads at stop.node ≡ o
    → option_and_then (λ leg. option_map (λ rest. with_leg leg stop ∷ rest) (routed roads stop.node stops)) o ≡ Some out → HasLegs roads at out) [
      | None ↦ λ _ none. absurd (cc none)
      | Some leg ↦ λ there some.
          elim (routed roads stop.node stops) as (λ o. routed roads stop.node stops ≡ o
          → option_map (λ rest. with_leg leg stop ∷ rest) o ≡ Some out → HasLegs roads at out) [
            | None ↦ λ _ none. absurd (cc none)
            | Some rest ↦ λ on made.
                subst (HasLegs roads at) (same_Some (with_leg leg stop ∷ rest) out made) (there, routed-has_legs roads stop.node stops rest on)
          ] refl some
    ] refl is

-- stops that have their legs are their own route
pub routed-own : (roads : RoadMap) (at : ℕ) (stops : List Stop) → HasLegs roads at stops → routed roads at stops ≡ Some stops
routed-own roads at [] h = refl
routed-own roads at (stop ∷ stops) (there, rest) = routed-cons roads at stop.leg stop stops stops there (routed-own roads stop.node stops rest)

-- the same sooner by less
pub sooner-less : (less gain : ℕ) (xs ys : List (Stop × ℕ)) → less ≤ gain → AllSooner gain xs ys → AllSooner less xs ys
sooner-less less gain [] [] h s = tt
sooner-less less gain [] (b ∷ bs) h s = absurd s
sooner-less less gain (a ∷ xs) [] h s = absurd s
sooner-less less gain (a ∷ xs) (b ∷ ys) h (more, enough, here, rest) = (more, omega arith, here, rest)

-- a test of visits by their rides
abbrev pub of_ride : (ℕ → Bool) → Stop × ℕ → Bool
of_ride test visit = test visit.0.ride

-- what is kept of both by a test of rides is as much sooner
pub sooner-filter : (test : ℕ → Bool) (gain : ℕ) (xs ys : List (Stop × ℕ)) → AllSooner gain xs ys
    → AllSooner gain (filter (of_ride test) xs) (filter (of_ride test) ys)
sooner-filter test gain [] [] s = tt
sooner-filter test gain [] (b ∷ bs) s = absurd s
sooner-filter test gain (a ∷ xs) [] s = absurd s
sooner-filter test gain (a ∷ xs) (b ∷ ys) (more, enough, here, rest) =
    subst (λ t. AllSooner gain (cond t (a ∷ filter (of_ride test) xs) (filter (of_ride test) xs)) (filter (of_ride test) (b ∷ ys)))
    (sym (ap test here.ride_is))
    (elim (test b.0.ride) as (λ t. AllSooner gain (cond t (a ∷ filter (of_ride test) xs) (filter (of_ride test) xs))
    (cond t (b ∷ filter (of_ride test) ys) (filter (of_ride test) ys))) [
      | true ↦ (more, enough, here, sooner-filter test more xs ys rest)
      | false ↦ sooner-less gain more (filter (of_ride test) xs) (filter (of_ride test) ys) enough (sooner-filter test more xs ys rest)
    ])

-- the visits of stops, from a node that is left at a time
abbrev pub visits_from : ℕ → ℕ → List Stop → List (Stop × ℕ)
visits_from dwell leave stops = zip stops (times_from dwell leave stops)

-- a test of stops by their rides
abbrev pub stop_of_ride : (ℕ → Bool) → Stop → Bool
stop_of_ride test stop = test stop.ride

-- what is left of a route when the stops of some rides are taken out: a route, and no visit that is left is later
pub record ShorterRoute (roads : RoadMap) (dwell gain a early late : ℕ) (test : ℕ → Bool) (stops : List Stop) : Type 0 where
  pub out : List Stop
  pub route : routed roads a (filter (stop_of_ride test) stops) ≡ Some out
  pub sooner : AllSooner gain (visits_from dwell early out) (filter (of_ride test) (visits_from dwell late stops))

-- taking stops out of a route, where it is at b at the time late, and what is left is at a at the time early, from where b
-- would be reached sooner by at least gain
pub shorter_route : (roads : RoadMap) (dwell gain a b early late ahead : ℕ) (test : ℕ → Bool) (stops : List Stop)
    → IsRoadMap roads → travel roads a b ≡ Some ahead → early + ahead + gain ≤ late → HasLegs roads b stops
    → ShorterRoute roads dwell gain a early late test stops
shorter_route roads dwell gain a b early late ahead test [] fits reach before legs = record { out = []; route = refl; sooner = tt }
shorter_route roads dwell gain a b early late ahead test (stop ∷ stops) fits reach before (leg, rest) =
    elim (travel roads a stop.node) as (λ o. travel roads a stop.node ≡ o → IsSomeAnd o (λ direct. direct ≤ ahead + stop.leg)
    → ShorterRoute roads dwell gain a early late test (stop ∷ stops)) [
      | None ↦ λ _ none. absurd none
      | Some direct ↦ λ there below.
          elim (test stop.ride) as (λ t. test stop.ride ≡ t → ShorterRoute roads dwell gain a early late test (stop ∷ stops)) [
            | false ↦ λ skip.
                let left = shorter_route roads dwell gain a stop.node early (late + stop.leg + dwell) direct test stops fits there (omega (arith, below)) rest in
                record {
                  out = left.out;
                  route = rw skip left.route;
                  sooner = rw skip left.sooner;
                }
            | true ↦ λ keep.
                let more : ℕ = late + stop.leg - (early + direct) in
                let exact : early + direct + more ≡ late + stop.leg = omega (arith, below) in
                let left = shorter_route roads dwell more stop.node stop.node (early + direct + dwell) (late + stop.leg + dwell) 0 test stops fits
                (travel-same roads stop.node) (omega (arith, exact)) rest in
                record {
                  out = with_leg direct stop ∷ left.out;
                  route = rw keep (routed-cons roads a direct stop (filter (stop_of_ride test) stops) left.out there left.route);
                  sooner = rw keep (more, omega (arith, below), record { ride_is = refl; kind_is = refl; node_is = refl; time_is = exact }, left.sooner);
                }
          ] refl
    ] refl (triangle roads a b stop.node ahead stop.leg fits reach leg)
