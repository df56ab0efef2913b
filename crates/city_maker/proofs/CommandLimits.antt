-- The commands of a plan within its ranges have a text, and the nodes that they name are on the map.
use Rattle.city_maker.proofs.Common.{◌≡◌, ◌≢◌, ℕ, ◌+◌, ◌-◌, ◌*◌, ◌/◌, ◌%◌, ◌<◌, ◌≤◌, min, [], ◌∷◌, ◌++◌, inl, inr, refl, sym, ap, ◌∙◌, subst, arith, All, flat_map, range_with_len, cases_eq, cases_lt, All-nil, All-cons, All-append, mul-le, mod-eq_of_lt, mod_self, Command, Clock, Ask, IsSpelledCommand, CityPlan, draw_at, nodes_of, IsPlan, network_of, commands_of, draws_before, group_of, request_of, IsOnMap}
use Rattle.city_maker.proofs.AllOfPieces.{All-map_range, All-flat_map_range}
use Rattle.city_maker.proofs.DrawLemmas.{draw_at-below}
use Rattle.city_maker.proofs.RequestLemmas.{apart, apart-same, apart-other, from_of, requests_in, seats_of, to_of}

-- what holds of each clock up to the last, of each request and of asking holds of each command
pub commands-all : (P : Command → Type 0) (plan : CityPlan) → IsPlan plan → ((time : ℕ) → time ≤ 1000000000 → P (Clock time)) → P Ask
    → ((k : ℕ) → k < plan.requests → P (request_of plan k)) → All P (commands_of plan)
unfolding commands_of group_of
commands-all P plan is clocks ask requests =
    All-append P (flat_map (group_of plan) (range_with_len 0 ((plan.requests + 7) / 8))) (Clock 1000000000 ∷ [])
    (All-flat_map_range P (group_of plan) 0 ((plan.requests + 7) / 8) (λ group _ below.
    All-cons P (Clock (30 * group)) (requests_in plan group ++ Ask ∷ []) (clocks (30 * group) (omega (arith, is.requests_limit)))
    (All-append P (requests_in plan group) (Ask ∷ [])
    (All-map_range P (request_of plan) (8 * group) (min 8 (plan.requests - 8 * group)) (λ k first last. requests k (omega arith)))
    (All-cons P Ask [] ask (All-nil P)))))
    (All-cons P (Clock 1000000000) [] (clocks 1000000000 (omega arith)) (All-nil P))

-- a number from 1 to another
abbrev IsUpTo : ℕ → ℕ → Type 0
IsUpTo most n = (1 ≤ n) × (n ≤ most)

-- the node after another is a node, and another one
next-node : (nodes from : ℕ) → 2 ≤ nodes → IsUpTo nodes from → IsUpTo nodes (from % nodes + 1) × (from ≢ from % nodes + 1)
next-node nodes from two is =
    elim (cases_lt from nodes) [
      | inl inner ↦ let same : from % nodes ≡ from = mod-eq_of_lt inner in ((omega arith, omega arith), omega arith)
      | inr last ↦
          let end : from ≡ nodes = omega arith in
          let none : from % nodes ≡ 0 = ap (λ n. n % nodes) end ∙ mod_self nodes in
          ((omega arith, omega arith), omega arith)
    ]

apart-node : (nodes from drawn : ℕ) → 2 ≤ nodes → IsUpTo nodes from → IsUpTo nodes drawn
    → IsUpTo nodes (apart nodes from drawn) × (from ≢ apart nodes from drawn)
apart-node nodes from drawn two from_in drawn_in =
    elim (cases_eq drawn from) [
      | inl same ↦
          subst (λ to. IsUpTo nodes to × (from ≢ to)) (sym (apart-same nodes from drawn same)) (next-node nodes from two from_in)
      | inr other ↦
          subst (λ to. IsUpTo nodes to × (from ≢ to)) (sym (apart-other nodes from drawn other)) (drawn_in, λ same. other (sym same))
    ]

module _ (plan : CityPlan) (is : IsPlan plan) (before : ℕ) where
  some-nodes : (4 ≤ nodes_of plan) × (nodes_of plan ≤ 10000)
  some-nodes =
      (mul-le 2 2 plan.side plan.side is.least_side is.least_side, mul-le plan.side plan.side 100 100 is.side_limit is.side_limit)

  drawn-node : (draws : ℕ) → IsUpTo (nodes_of plan) (1 + draw_at plan.seed draws (nodes_of plan))
  drawn-node draws =
      let some = some-nodes.0 in
      let below : draw_at plan.seed draws (nodes_of plan) < nodes_of plan = draw_at-below plan.seed draws (nodes_of plan) (omega arith) in
      (omega arith, omega arith)

  from-node : IsUpTo (nodes_of plan) (from_of plan before)
  from-node = drawn-node (draws_before plan before)

  to-node : IsUpTo (nodes_of plan) (to_of plan before) × (from_of plan before ≢ to_of plan before)
  to-node = apart-node (nodes_of plan) (from_of plan before) (1 + draw_at plan.seed (draws_before plan before + 1) (nodes_of plan))
      (let some = some-nodes.0 in omega arith) from-node (drawn-node (draws_before plan before + 1))

  few-seats : seats_of plan before ≤ 2
  few-seats =
      let below : draw_at plan.seed (draws_before plan before + 2) 2 < 2 = draw_at-below plan.seed (draws_before plan before + 2) 2 (omega arith) in
      omega arith

  request-spelled : before < plan.requests → IsSpelledCommand 1 (request_of plan before)
  unfolding request_of
  request-spelled below =
      let (some, few) = some-nodes in
      let from = from-node in
      let to = to-node.0 in
      let seats = few-seats in
      let requests = is.requests_limit in
      (omega arith, omega arith, omega arith, omega arith, omega arith, omega arith, omega arith, λ _. refl)

  request-on_map : IsOnMap (network_of plan) (request_of plan before)
  unfolding request_of
  request-on_map = (from-node, to-node.0, to-node.1)

pub commands-spelled : (plan : CityPlan) → IsPlan plan → All (IsSpelledCommand 1) (commands_of plan)
commands-spelled plan is = commands-all (IsSpelledCommand 1) plan is (λ time early. omega arith) tt (λ k below. request-spelled plan is k below)

pub commands-on_map : (plan : CityPlan) → IsPlan plan → All (IsOnMap (network_of plan)) (commands_of plan)
commands-on_map plan is = commands-all (IsOnMap (network_of plan)) plan is (λ time early. tt) tt (λ k below. request-on_map plan is k)
