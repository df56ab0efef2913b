use Rattle.city_maker.proofs.Common.{◌≡◌, ℕ, zero, suc, ◌+◌, ◌-◌, ◌*◌, ◌/◌, min, List, [], ◌∷◌, ◌++◌, map, inl, inr, refl, sym, ap, ◌∙◌, arith, filter, flat_map, range_with_len, cases_lt, append-nil, map-append, filter-append, Clock, Ask, CityPlan, commands_of, group_of, request_of}
use Rattle.city_maker.specs.inner.Feed.{is_request}
use Rattle.city_maker.proofs.ListsOfRanges.{flat_map-range_more}
use Rattle.city_maker.proofs.RequestLemmas.{requests_in}
use Rattle.city_maker.proofs.laws.requests_are_given_in_order.Goals as goal

-- a range in two parts
range-append : (a n m : ℕ) → range_with_len a n ++ range_with_len (a + n) m ≡ range_with_len a (n + m)
range-append a zero m =
    let first : a + 0 ≡ a = omega arith in
    let all : m ≡ 0 + m = omega arith in
    ap (λ k. range_with_len k m) first ∙ ap (range_with_len a) all
range-append a (suc n) m =
    let behind : a + suc n ≡ a + 1 + n = omega arith in
    let all : suc (n + m) ≡ suc n + m = omega arith in
    ap (λ k. a ∷ (range_with_len (a + 1) n ++ range_with_len k m)) behind ∙ ap (λ xs. a ∷ xs) (range-append (a + 1) n m) ∙ ap (range_with_len a) all

requests-only : (plan : CityPlan) (numbers : List ℕ) → filter is_request (map (request_of plan) numbers) ≡ map (request_of plan) numbers
unfolding request_of
requests-only plan [] = refl
requests-only plan (k ∷ numbers) = ap (λ xs. request_of plan k ∷ xs) (requests-only plan numbers)

requests-of_group : (plan : CityPlan) (group : ℕ) → filter is_request (group_of plan group) ≡ requests_in plan group
unfolding group_of
requests-of_group plan group =
    filter-append is_request (requests_in plan group) (Ask ∷ [])
    ∙ append-nil (filter is_request (requests_in plan group))
    ∙ requests-only plan (range_with_len (8 * group) (min 8 (plan.requests - 8 * group)))

-- the requests of the first groups and of one group more
with-group : (requests group : ℕ) → range_with_len 0 (min requests (8 * group)) ++ range_with_len (8 * group) (min 8 (requests - 8 * group))
    ≡ range_with_len 0 (min requests (8 * suc group))
with-group requests group =
    elim (cases_lt requests (8 * group)) [
      | inl over ↦
          let none : min 8 (requests - 8 * group) ≡ 0 = omega arith in
          let same : min requests (8 * group) ≡ min requests (8 * suc group) = omega arith in
          ap (λ n. range_with_len 0 (min requests (8 * group)) ++ range_with_len (8 * group) n) none
          ∙ append-nil (range_with_len 0 (min requests (8 * group))) ∙ ap (range_with_len 0) same
      | inr whole ↦
          let before : min requests (8 * group) ≡ 8 * group = omega arith in
          let from : 8 * group ≡ 0 + 8 * group = omega arith in
          let all : 8 * group + min 8 (requests - 8 * group) ≡ min requests (8 * suc group) = omega arith in
          ap (λ n. range_with_len 0 n ++ range_with_len (8 * group) (min 8 (requests - 8 * group))) before
          ∙ ap (λ k. range_with_len 0 (8 * group) ++ range_with_len k (min 8 (requests - 8 * group))) from
          ∙ range-append 0 (8 * group) (min 8 (requests - 8 * group)) ∙ ap (range_with_len 0) all
    ]

requests-of_groups : (plan : CityPlan) (groups : ℕ) → filter is_request (flat_map (group_of plan) (range_with_len 0 groups))
    ≡ map (request_of plan) (range_with_len 0 (min plan.requests (8 * groups)))
requests-of_groups plan zero =
    let none : 0 ≡ min plan.requests (8 * 0) = omega arith in ap (λ n. map (request_of plan) (range_with_len 0 n)) none
requests-of_groups plan (suc groups) =
    let next : 0 + groups ≡ groups = omega arith in
    let more : suc groups ≡ groups + 1 = omega arith in
    ap (λ n. filter is_request (flat_map (group_of plan) (range_with_len 0 n))) more
    ∙ ap (filter is_request) (flat_map-range_more (group_of plan) 0 groups groups next)
    ∙ filter-append is_request (flat_map (group_of plan) (range_with_len 0 groups)) (group_of plan groups)
    ∙ ap (λ xs. xs ++ filter is_request (group_of plan groups)) (requests-of_groups plan groups)
    ∙ ap (λ xs. map (request_of plan) (range_with_len 0 (min plan.requests (8 * groups))) ++ xs) (requests-of_group plan groups)
    ∙ sym (map-append (request_of plan) (range_with_len 0 (min plan.requests (8 * groups))) (range_with_len (8 * groups) (min 8 (plan.requests - 8 * groups))))
    ∙ ap (map (request_of plan)) (with-group plan.requests groups)

pub returns : goal.returns
unfolding commands_of
returns c = λ plan.
    let groups : ℕ = (plan.requests + 7) / 8 in
    let all : min plan.requests (8 * groups) ≡ plan.requests = omega arith in
    filter-append is_request (flat_map (group_of plan) (range_with_len 0 groups)) (Clock 1000000000 ∷ [])
    ∙ append-nil (filter is_request (flat_map (group_of plan) (range_with_len 0 groups)))
    ∙ requests-of_groups plan groups ∙ ap (λ n. map (request_of plan) (range_with_len 0 n)) all
