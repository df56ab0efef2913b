-- The requests of a city.
use Rattle.city_maker.proofs.Common.{◌≡◌, ◌≢◌, ℕ, ◌+◌, ◌-◌, ◌*◌, ◌/◌, ◌%◌, ◌==◌, if◌then◌else◌, map, min, range_with_len, List, [], ◌∷◌, ◌++◌, refl, ap, ◌∙◌, append_assoc, arith, eq-eqb, ne_eqb, Command, Request, CityPlan, state_after, draw_at, nodes_of, draws_before, request_of}

-- where a request begins and ends, and its seats
abbrev pub from_of : CityPlan → ℕ → ℕ
from_of plan before = 1 + draw_at plan.seed (draws_before plan before) (nodes_of plan)

abbrev pub apart : ℕ → ℕ → ℕ → ℕ
apart nodes from drawn = if drawn == from then from % nodes + 1 else drawn

abbrev pub to_of : CityPlan → ℕ → ℕ
to_of plan before = apart (nodes_of plan) (from_of plan before) (1 + draw_at plan.seed (draws_before plan before + 1) (nodes_of plan))

abbrev pub seats_of : CityPlan → ℕ → ℕ
seats_of plan before = 1 + draw_at plan.seed (draws_before plan before + 2) 2

-- the requests of a group
abbrev pub requests_in : CityPlan → ℕ → List Command
requests_in plan group = map (request_of plan) (range_with_len (8 * group) (min 8 (plan.requests - 8 * group)))

pub apart-same : (nodes from drawn : ℕ) → drawn ≡ from → apart nodes from drawn ≡ from % nodes + 1
apart-same nodes from drawn same = rw (eq-eqb drawn from same) refl

pub apart-other : (nodes from drawn : ℕ) → drawn ≢ from → apart nodes from drawn ≡ drawn
apart-other nodes from drawn other = rw (ne_eqb drawn from other) refl

module _ (plan : CityPlan) (before : ℕ) where
  -- a request as it is made
  pub request-is : (number from to seats eighth : ℕ) → number ≡ before → from ≡ from_of plan before → to ≡ to_of plan before
      → seats ≡ seats_of plan before → eighth ≡ before / 8
      → Request (number + 1) from to seats (30 * eighth + 900) 3600 0 ≡ request_of plan before
  unfolding request_of
  request-is number from to seats eighth number_is from_is to_is seats_are eighth_is =
      ap (λ n. Request (n + 1) from to seats (30 * eighth + 900) 3600 0) number_is
      ∙ ap (λ f. Request (before + 1) f to seats (30 * eighth + 900) 3600 0) from_is
      ∙ ap (λ t. Request (before + 1) (from_of plan before) t seats (30 * eighth + 900) 3600 0) to_is
      ∙ ap (λ s. Request (before + 1) (from_of plan before) (to_of plan before) s (30 * eighth + 900) 3600 0) seats_are
      ∙ ap (λ g. Request (before + 1) (from_of plan before) (to_of plan before) (seats_of plan before) (30 * g + 900) 3600 0) eighth_is

  pub from-is : (drawn : ℕ) → drawn ≡ draw_at plan.seed (draws_before plan before) (nodes_of plan) → 1 + drawn ≡ from_of plan before
  from-is drawn is = ap (λ d. 1 + d) is

  pub to-is : (from drawn : ℕ) → 1 + from ≡ from_of plan before → drawn ≡ draw_at plan.seed (draws_before plan before + 1) (nodes_of plan)
      → apart (nodes_of plan) (1 + from) (1 + drawn) ≡ to_of plan before
  to-is from drawn from_is is =
      ap (λ f. apart (nodes_of plan) f (1 + drawn)) from_is ∙ ap (λ d. apart (nodes_of plan) (from_of plan before) (1 + d)) is

  pub seats-are : (drawn : ℕ) → drawn ≡ draw_at plan.seed (draws_before plan before + 2) 2 → 1 + drawn ≡ seats_of plan before
  seats-are drawn is = ap (λ d. 1 + d) is

  -- two draws, one after the other
  pub second-draw : (seed draws state : ℕ) → state ≡ state_after seed (draws + 1 + 1) → state ≡ state_after seed (draws + 2)
  second-draw seed draws state is = let same : draws + 1 + 1 ≡ draws + 2 = omega arith in is ∙ ap (state_after seed) same

  -- a request takes three draws
  pub third-draw : (state : ℕ) → state ≡ state_after plan.seed (draws_before plan before + 2 + 1) → state ≡ state_after plan.seed (draws_before plan (before + 1))
  unfolding draws_before
  third-draw state is =
      let same : draws_before plan before + 2 + 1 ≡ draws_before plan (before + 1) = omega arith in is ∙ ap (state_after plan.seed) same

-- the commands of a group, appended one after the other
pub group-appended : (old first second last middle : List Command) (clock ask : Command) → first ≡ old ++ clock ∷ [] → second ≡ first ++ middle
    → last ≡ second ++ ask ∷ [] → last ≡ old ++ clock ∷ (middle ++ ask ∷ [])
group-appended old first second last middle clock ask first_is second_is last_is =
    last_is ∙ ap (λ xs. xs ++ ask ∷ []) (second_is ∙ ap (λ xs. xs ++ middle) first_is)
    ∙ append_assoc (old ++ clock ∷ []) middle (ask ∷ []) ∙ append_assoc old (clock ∷ []) (middle ++ ask ∷ [])
