-- Offers and prices: no offer costs less than the price.
use Rattle.model_laws.proofs.Common.{◌≡◌, ℕ, zero, suc, ◌+◌, ◌-◌, ◌<◌, ◌≤◌, ◌⊎◌, inl, inr, Bool, true, false, cond, ◌&&◌, List, [], ◌∷◌, ◌++◌, length, leb, refl, leb-true, sym, ◌∙◌, ap, subst, arith, map, Option, Some, None, option_and_then, filter_map, cons_option, range_with_len, Offer, Settings, Ride, Vehicle, RoadMap, inserted, is_open, offer_of_plan, offer_of, place_pairs, offers, price}
use Rattle.std.specs.Prelude.{flat_map}
use Rattle.model_laws.proofs.plain.Among.{Among, among_map}
use Rattle.model_laws.proofs.plain.Numbers.{same_or_less}
use Rattle.model_laws.proofs.Walks.{least_is_least}

-- what a filter_map keeps
pub among_filter_map : {X Y : Type 0} (f : X → Option Y) (xs : List X) (x : X) (y : Y) → Among x xs → f x ≡ Some y
    → Among y (filter_map f xs)
among_filter_map f [] x y h is = absurd h
among_filter_map {X} {Y} f (z ∷ zs) x y (inl same) is =
    subst (λ o. Among y (cons_option o (filter_map f zs))) (sym (ap f same ∙ is)) (inl refl)
among_filter_map {X} {Y} f (z ∷ zs) x y (inr later) is =
    elim (f z) as (λ o. Among y (cons_option o (filter_map f zs))) [
      | None ↦ among_filter_map f zs x y later is
      | Some w ↦ inr (among_filter_map f zs x y later is)
    ]

-- the numbers of a range
pub among_range : (from many n : ℕ) → from ≤ n → n < from + many → Among n (range_with_len from many)
among_range from zero n low high = absurd (omega arith)
among_range from (suc many) n low high =
    elim (same_or_less from n low) [
      | inl here ↦ inl here
      | inr above ↦ inr (among_range (from + 1) many n (omega (arith, above)) (omega arith))
    ]

-- what a flat_map keeps
pub among_append : {X : Type 0} (xs ys : List X) (x : X) → Among x xs ⊎ Among x ys → Among x (xs ++ ys)
among_append [] ys x (inl h) = absurd h
among_append [] ys x (inr h) = h
among_append (z ∷ zs) ys x (inl (inl is)) = inl is
among_append (z ∷ zs) ys x (inl (inr h)) = inr (among_append zs ys x (inl h))
among_append (z ∷ zs) ys x (inr h) = inr (among_append zs ys x (inr h))

pub among_flat_map : {X Y : Type 0} (f : X → List Y) (xs : List X) (x : X) (y : Y) → Among x xs → Among y (f x) → Among y (flat_map f xs)
among_flat_map f [] x y h is = absurd h
among_flat_map f (z ∷ zs) x y (inl same) is = among_append (f z) (flat_map f zs) y (inl (subst (λ w. Among y (f w)) (sym same) is))
among_flat_map f (z ∷ zs) x y (inr later) is = among_append (f z) (flat_map f zs) y (inr (among_flat_map f zs x y later is))

-- the place pairs have each pair in range
pub among_place_pairs : (stops i j : ℕ) → i ≤ j → j ≤ stops → Among (i, j) (place_pairs stops)
among_place_pairs stops i j in_order in_range =
    among_flat_map (λ a. map (λ b. (a, b)) (range_with_len a (stops + 1 - a))) (range_with_len 0 (stops + 1)) i (i, j)
    (among_range 0 (stops + 1) i (omega arith) (omega arith))
    (among_map (λ b. (i, b)) (range_with_len i (stops + 1 - i)) j (among_range i (stops + 1 - i) j in_order (omega arith)))

-- an offer is at places in range, of an open vehicle
pub record OfferFacts (roads : RoadMap) (settings : Settings) (v : Vehicle) (ride : Ride) (time i j : ℕ) (offer : Offer) : Type 0 where
  pub is_open_then : is_open v time ≡ true
  pub in_order : i ≤ j
  pub in_range : j ≤ length v.stops.items
  pub of_plan : option_and_then (offer_of_plan settings v i j time) (inserted roads v ride i j) ≡ Some offer

pub offer_facts : (roads : RoadMap) (settings : Settings) (v : Vehicle) (ride : Ride) (time i j : ℕ) (offer : Offer)
    → offer_of roads settings v ride time i j ≡ Some offer → OfferFacts roads settings v ride time i j offer
unfolding offer_of
offer_facts roads settings v ride time i j offer is = three (is_open v time) (leb i j) (leb j (length v.stops.items)) refl refl refl is
  where
    three : (a b c : Bool) → is_open v time ≡ a → leb i j ≡ b → leb j (length v.stops.items) ≡ c
        → cond (a && b && c) (option_and_then (offer_of_plan settings v i j time) (inserted roads v ride i j)) None ≡ Some offer
        → OfferFacts roads settings v ride time i j offer
    three true true true p q r of_plan = record {
      is_open_then = p;
      in_order = leb-true i j q;
      in_range = leb-true j (length v.stops.items) r;
      of_plan = of_plan;
    }
    three false b c p q r none = absurd (cc none)
    three true false c p q r none = absurd (cc none)
    three true true false p q r none = absurd (cc none)

-- no offer costs less than the price
pub price-le-cost : (roads : RoadMap) (settings : Settings) (v : Vehicle) (ride : Ride) (time i j : ℕ) (offer : Offer)
    → offer_of roads settings v ride time i j ≡ Some offer
    → (cost : ℕ) × (price roads settings v ride time ≡ Some cost) × (cost ≤ offer.cost)
price-le-cost roads settings v ride time i j offer is =
    let facts = offer_facts roads settings v ride time i j offer is in
    let among = among_filter_map (λ (place : ℕ × ℕ). offer_of roads settings v ride time place.0 place.1)
    (place_pairs (length v.stops.items)) (i, j) offer
    (among_place_pairs (length v.stops.items) i j facts.in_order facts.in_range) is in
    least_is_least (map (λ (o : Offer). Some o.cost) (offers roads settings v ride time)) offer.cost
    (among_map (λ (o : Offer). Some o.cost) (offers roads settings v ride time) offer among)
