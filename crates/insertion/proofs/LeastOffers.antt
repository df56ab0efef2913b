-- The least cost, place after place.
use Rattle.insertion.proofs.Common.{◌≡◌, ℕ, suc, ◌+◌, ◌-◌, ◌≤◌, ◌⊎◌, inl, inr, min, List, [], ◌∷◌, ◌++◌, length, refl, sym, ◌∙◌, ap, subst, arith, map, Option, Some, None, IfSome, flat_map, filter_map, cons_option, range_with_len, Offer, Settings, Ride, Vehicle, RoadMap, lesser, least_of, offer_of, price, cost_if_any, least_with_pickup, least_from}
use Rattle.model_laws.proofs.Costs.{offer_plan}

pub lesser-assoc : (a b c : Option ℕ) → lesser (lesser a b) c ≡ lesser a (lesser b c)
lesser-assoc None b c = refl
lesser-assoc (Some a) None c = refl
lesser-assoc (Some a) (Some b) None = refl
lesser-assoc (Some a) (Some b) (Some c) = ap Some (min-assoc a b c)
  where
    min-assoc : (x y z : ℕ) → min (min x y) z ≡ min x (min y z)
    min-assoc x y z = omega arith

pub lesser-none : (a : Option ℕ) → lesser a None ≡ a
lesser-none None = refl
lesser-none (Some a) = refl

-- a range from its first number on, and one that is over
range-on : (n j : ℕ) → j ≤ n → range_with_len j (n + 1 - j) ≡ j ∷ range_with_len (j + 1) (n + 1 - (j + 1))
range-on n j h = ap (range_with_len j) (count n j h)
  where
    count : (m k : ℕ) → k ≤ m → m + 1 - k ≡ suc (m + 1 - (k + 1))
    count m k h = omega arith

range-over : (n j : ℕ) → n + 1 ≤ j → range_with_len j (n + 1 - j) ≡ []
range-over n j h = ap (range_with_len j) (none n j h)
  where
    none : (m k : ℕ) → m + 1 ≤ k → m + 1 - k ≡ 0
    none m k h = omega arith

-- the least over a range of places, place after place
pub least-on : (f : ℕ → Option ℕ) (n j : ℕ) (best : Option ℕ) → j ≤ n
    → lesser (lesser best (f j)) (least_of (map f (range_with_len (j + 1) (n + 1 - (j + 1))))) ≡ lesser best (least_of (map f (range_with_len j (n + 1 - j))))
least-on f n j best h =
    lesser-assoc best (f j) (least_of (map f (range_with_len (j + 1) (n + 1 - (j + 1)))))
    ∙ ap (λ places. lesser best (least_of (map f places))) (sym (range-on n j h))

pub least-over : (f : ℕ → Option ℕ) (n j : ℕ) (best : Option ℕ) → n + 1 ≤ j → lesser best (least_of (map f (range_with_len j (n + 1 - j)))) ≡ best
least-over f n j best h = ap (λ places. lesser best (least_of (map f places))) (range-over n j h) ∙ lesser-none best

-- an offer has the places that it was made for
pub at-own-places : (roads : RoadMap) (settings : Settings) (v : Vehicle) (ride : Ride) (time i j : ℕ) (offer : Offer)
    → offer_of roads settings v ride time i j ≡ Some offer → offer_of roads settings v ride time offer.i offer.j ≡ Some offer
at-own-places roads settings v ride time i j offer is =
    let plan = offer_plan roads settings v ride time i j offer is in
    ap (λ (o : Offer). offer_of roads settings v ride time o.i o.j) plan.plan.offer_is ∙ is

pub if-offered : (roads : RoadMap) (settings : Settings) (v : Vehicle) (ride : Ride) (time i j : ℕ) (result : Option Offer)
    → result ≡ offer_of roads settings v ride time i j
    → IfSome result (λ (offer : Offer). offer_of roads settings v ride time offer.i offer.j ≡ Some offer)
if-offered roads settings v ride time i j None is = tt
if-offered roads settings v ride time i j (Some offer) is = at-own-places roads settings v ride time i j offer (sym is)

-- one of two
pub one-of : (P : Offer → Type 0) (result first second : Option Offer) → (result ≡ first) ⊎ (result ≡ second) → IfSome first P → IfSome second P → IfSome result P
one-of P result first second (inl is) a b = subst (λ o. IfSome o P) (sym is) a
one-of P result first second (inr is) a b = subst (λ o. IfSome o P) (sym is) b

-- the least cost of the offers at some places
abbrev least_at : (ℕ × ℕ → Option Offer) → List (ℕ × ℕ) → Option ℕ
least_at f places = least_of (map (λ (o : Offer). Some o.cost) (filter_map f places))

least_at-append : (f : ℕ × ℕ → Option Offer) (xs ys : List (ℕ × ℕ)) → least_at f (xs ++ ys) ≡ lesser (least_at f xs) (least_at f ys)
least_at-append f [] ys = refl
least_at-append f (x ∷ xs) ys =
    elim (f x) as (λ o. least_of (map (λ (q : Offer). Some q.cost) (cons_option o (filter_map f (xs ++ ys))))
    ≡ lesser (least_of (map (λ (q : Offer). Some q.cost) (cons_option o (filter_map f xs)))) (least_at f ys)) [
      | None ↦ least_at-append f xs ys
      | Some offer ↦ ap (lesser (Some offer.cost)) (least_at-append f xs ys) ∙ sym (lesser-assoc (Some offer.cost) (least_at f xs) (least_at f ys))
    ]

least_at-row : (f : ℕ × ℕ → Option Offer) (i : ℕ) (js : List ℕ) → least_at f (map (λ j. (i, j)) js) ≡ least_of (map (λ j. cost_if_any (f (i, j))) js)
least_at-row f i [] = refl
least_at-row f i (j ∷ js) =
    elim (f (i, j)) as (λ o. least_of (map (λ (q : Offer). Some q.cost) (cons_option o (filter_map f (map (λ k. (i, k)) js))))
    ≡ lesser (cost_if_any o) (least_of (map (λ k. cost_if_any (f (i, k))) js))) [
      | None ↦ least_at-row f i js
      | Some offer ↦ ap (lesser (Some offer.cost)) (least_at-row f i js)
    ]

least_at-rows : (f : ℕ × ℕ → Option Offer) (row : ℕ → List ℕ) (is : List ℕ)
    → least_at f (flat_map (λ i. map (λ j. (i, j)) (row i)) is) ≡ least_of (map (λ i. least_of (map (λ j. cost_if_any (f (i, j))) (row i))) is)
least_at-rows f row [] = refl
least_at-rows f row (i ∷ is) =
    least_at-append f (map (λ j. (i, j)) (row i)) (flat_map (λ k. map (λ j. (k, j)) (row k)) is)
    ∙ ap (λ o. lesser o (least_at f (flat_map (λ k. map (λ j. (k, j)) (row k)) is))) (least_at-row f i (row i))
    ∙ ap (lesser (least_of (map (λ j. cost_if_any (f (i, j))) (row i)))) (least_at-rows f row is)

-- the price is the least cost over all places
pub price-least : (roads : RoadMap) (settings : Settings) (v : Vehicle) (ride : Ride) (time : ℕ)
    → least_from roads settings v ride time 0 ≡ price roads settings v ride time
price-least roads settings v ride time =
    ap (λ n. least_of (map (λ k. least_with_pickup roads settings v ride time k k) (range_with_len 0 n))) (from_zero (length v.stops.items + 1))
    ∙ sym (least_at-rows (λ (place : ℕ × ℕ). offer_of roads settings v ride time place.0 place.1)
    (λ i. range_with_len i (length v.stops.items + 1 - i)) (range_with_len 0 (length v.stops.items + 1)))
  where
    from_zero : (n : ℕ) → n - 0 ≡ n
    from_zero n = omega arith
