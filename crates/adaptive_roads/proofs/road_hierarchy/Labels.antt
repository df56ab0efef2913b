-- The sweep, place by place.
use Rattle.adaptive_roads.proofs.Common.{◌≡◌, ◌≢◌, ℕ, ◌+◌, ◌-◌, ◌<◌, ◌≤◌, ◌⊎◌, inl, inr, List, length, set, sym, ◌∙◌, ap, subst, arith, slice_range, cases_lt, get_or-set_same, get_or-set_other, Step, start_at, IsIn, AreParts, node_at, no_step, step_at, ComeEarlier, never, through, IsSwept}
use Rattle.adaptive_roads.proofs.road_hierarchy.Parts.{slice-at, length-slice}

-- a write at a later place
swept-kept : (starts : List ℕ) (steps : List Step) (climb : ℕ → ℕ) (times : List ℕ) (place label earlier : ℕ)
    → ((k : ℕ) → IsIn starts earlier k → (step_at steps k).place < earlier) → earlier < place
    → IsSwept starts steps climb times earlier → IsSwept starts steps climb (set times place label) earlier
swept-kept starts steps climb times place label earlier before less s = record {
  climbed = omega (arith, same earlier less, s.climbed);
  stepped = λ k at. omega (arith, same earlier less, through_same k at, s.stepped k at);
  attained = elim s.attained [
    | inl is ↦ inl (same earlier less ∙ is)
    | inr (k, at, is) ↦ inr (k, at, same earlier less ∙ is ∙ sym (through_same k at))
  ];
}
  where
    same : (p : ℕ) → p < place → node_at (set times place label) p ≡ node_at times p
    same p low = (let differs : p ≢ place = omega arith in get_or-set_other times place p label 0 differs)

    through_same : (k : ℕ) → IsIn starts earlier k → through steps (set times place label) k ≡ through steps times k
    through_same k at = ap (λ n. n + (step_at steps k).seconds) (same (step_at steps k).place (let low = before k at in omega arith))

-- one place more is swept
pub swept-more : (starts : List ℕ) (steps part : List Step) (climb : ℕ → ℕ) (times : List ℕ) (count place label : ℕ)
    → AreParts count starts (length steps) → ComeEarlier count starts steps → place < count → count ≤ length times
    → part ≡ slice_range steps (start_at starts place) (start_at starts (place + 1))
    → label ≤ climb place
    → ((k : ℕ) → k < length part → label ≤ through part times k)
    → (label ≡ climb place) ⊎ ((k : ℕ) × (k < length part) × (label ≡ through part times k))
    → ((p : ℕ) → p < place → IsSwept starts steps climb times p)
    → (p : ℕ) → p < place + 1 → IsSwept starts steps climb (set times place label) p
swept-more starts steps part climb times count place label parts earlier low room is climbed stepped attained had = λ p below.
    elim (cases_lt p place) [
      | inl less ↦ swept-kept starts steps climb times place label p (λ k at. earlier p k (omega arith) at) less (had p less)
      | inr last ↦ subst (IsSwept starts steps climb (set times place label)) (here p below last) this
    ]
  where
    here : (p : ℕ) → p < place + 1 → place ≤ p → place ≡ p
    here p below last = omega arith

    its : node_at (set times place label) place ≡ label
    its = get_or-set_same times place label 0 (omega arith)

    long : length part ≡ start_at starts (place + 1) - start_at starts place
    long =
        ap (λ (ss : List Step). length ss) is
        ∙ length-slice steps (start_at starts place) (start_at starts (place + 1)) (parts.rises place low) (parts.within (place + 1) (omega arith))

    entry : (j : ℕ) → j < length part → step_at part j ≡ step_at steps (start_at starts place + j)
    entry j j_low =
        ap (λ ss. step_at ss j) is
        ∙ slice-at steps (start_at starts place) (start_at starts (place + 1)) j no_step (omega (arith, long))

    through_at : (k : ℕ) → IsIn starts place k → through steps (set times place label) k ≡ through part times (k - start_at starts place)
    through_at k at =
        let at_k : start_at starts place + (k - start_at starts place) ≡ k = (let from = at.from in omega arith) in
        let j_low : k - start_at starts place < length part = (let from = at.from in let to = at.to in omega (arith, long)) in
        let step : step_at steps k ≡ step_at part (k - start_at starts place)
        = ap (step_at steps) (sym at_k) ∙ sym (entry (k - start_at starts place) j_low) in
        let before = earlier place k low at in
        let differs : (step_at steps k).place ≢ place = omega arith in
        ap (λ n. n + (step_at steps k).seconds) (get_or-set_other times place (step_at steps k).place label 0 differs)
        ∙ ap (λ (s : Step). node_at times s.place + s.seconds) step

    this : IsSwept starts steps climb (set times place label) place
    this = record {
      climbed = omega (arith, its);
      stepped = λ k at.
          let j_low : k - start_at starts place < length part = (let from = at.from in let to = at.to in omega (arith, long)) in
          omega (arith, its, through_at k at, stepped (k - start_at starts place) j_low);
      attained = elim attained [
        | inl is ↦ inl (its ∙ is)
        | inr (j, j_low, made) ↦
            let at : IsIn starts place (start_at starts place + j) = record { from = omega arith; to = omega (arith, long) } in
            let back : start_at starts place + j - start_at starts place ≡ j = omega arith in
            inr (start_at starts place + j, at, its ∙ made ∙ sym (through_at (start_at starts place + j) at ∙ ap (through part times) back))
      ];
    }

-- the labels that the steps of a part come from are low
pub part-low : (starts : List ℕ) (steps part : List Step) (climb : ℕ → ℕ) (times : List ℕ) (count place : ℕ)
    → AreParts count starts (length steps) → ComeEarlier count starts steps → place < count
    → part ≡ slice_range steps (start_at starts place) (start_at starts (place + 1))
    → ((p : ℕ) → climb p ≤ never) → ((p : ℕ) → p < place → IsSwept starts steps climb times p)
    → (k : ℕ) → k < length part → node_at times (step_at part k).place ≤ never
part-low starts steps part climb times count place parts earlier low is climb_low had k k_low =
    let long : length part ≡ start_at starts (place + 1) - start_at starts place
    = ap (λ (ss : List Step). length ss) is
    ∙ length-slice steps (start_at starts place) (start_at starts (place + 1)) (parts.rises place low) (parts.within (place + 1) (omega arith)) in
    let entry : step_at part k ≡ step_at steps (start_at starts place + k)
    = ap (λ ss. step_at ss k) is ∙ slice-at steps (start_at starts place) (start_at starts (place + 1)) k no_step (omega (arith, long)) in
    let at : IsIn starts place (start_at starts place + k) = record { from = omega arith; to = omega (arith, long) } in
    let before = earlier place (start_at starts place + k) low at in
    let its = ap (λ (s : Step). s.place) entry in
    let swept = had (step_at part k).place (omega (arith, before, its)) in
    omega (arith, swept.climbed, climb_low (step_at part k).place)
