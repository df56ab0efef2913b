-- Parts of flat arrays, one after another.
use Rattle.adaptive_roads.proofs.Common.{◌≡◌, ℕ, ◌+◌, ◌-◌, ◌<◌, ◌≤◌, inl, inr, List, [], ◌∷◌, ◌++◌, length, get_or, drop, refl, ◌∙◌, ap, arith, slice_range, cases_lt, get_or_append_left, get_or_push, length_push, get_or-take, get_or-drop, length-take, length-drop, start_at, IsIn, AreParts}

pub parts-none : AreParts 0 (0 ∷ []) 0
parts-none = record {
  sized = refl;
  last = refl;
  rises = λ number low. absurd (omega arith);
  within = λ number low. (let at : start_at (0 ∷ []) number ≡ 0 = ap (start_at (0 ∷ [])) (none number low) in omega (arith, at));
}
  where
    none : (number : ℕ) → number ≤ 0 → number ≡ 0
    none number low = omega arith

-- starts stay when one is added
pub start-before : (count : ℕ) (starts : List ℕ) (total more : ℕ) → AreParts count starts total → (number : ℕ) → number ≤ count
    → start_at (starts ++ more ∷ []) number ≡ start_at starts number
start-before count starts total more parts number low = get_or_append_left starts (more ∷ []) 0 number (omega (arith, parts.sized))

pub start-last : (count : ℕ) (starts : List ℕ) (total more : ℕ) → AreParts count starts total
    → start_at (starts ++ more ∷ []) (count + 1) ≡ more
start-last count starts total more parts = get_or_push starts more 0 (count + 1) parts.sized

-- one part more
pub parts-added : (count : ℕ) (starts : List ℕ) (total more : ℕ) → AreParts count starts total → total ≤ more
    → AreParts (count + 1) (starts ++ more ∷ []) more
parts-added count starts total more parts longer = record {
  sized = omega (arith, length_push starts more, parts.sized);
  last = start-last count starts total more parts;
  rises = λ number low. elim (cases_lt number count) [
    | inl earlier ↦ omega (
      arith,
      start-before count starts total more parts number (omega arith),
      start-before count starts total more parts (number + 1) (omega arith),
      parts.rises number earlier,
    )
    | inr last ↦
        let at : number ≡ count = omega arith in
        let here : start_at (starts ++ more ∷ []) number ≡ start_at (starts ++ more ∷ []) count = ap (start_at (starts ++ more ∷ [])) at in
        let next : start_at (starts ++ more ∷ []) (number + 1) ≡ start_at (starts ++ more ∷ []) (count + 1)
        = ap (λ n. start_at (starts ++ more ∷ []) (n + 1)) at in
        omega (
          arith,
          here,
          next,
          start-before count starts total more parts count (omega arith),
          start-last count starts total more parts,
          parts.last,
        )
  ];
  within = λ number low. elim (cases_lt count number) [
    | inl last ↦
        let at : number ≡ count + 1 = omega arith in
        omega (arith, ap (start_at (starts ++ more ∷ [])) at, start-last count starts total more parts)
    | inr earlier ↦ omega (arith, start-before count starts total more parts number earlier, parts.within number earlier)
  ];
}

-- places of the earlier parts, before and after one is added
pub in-before : (count : ℕ) (starts : List ℕ) (total more : ℕ) → AreParts count starts total → (number place : ℕ) → number < count
    → IsIn (starts ++ more ∷ []) number place → IsIn starts number place
in-before count starts total more parts number place low at = record {
  from = omega (arith, start-before count starts total more parts number (omega arith), at.from);
  to = omega (arith, start-before count starts total more parts (number + 1) (omega arith), at.to);
}

pub in-after : (count : ℕ) (starts : List ℕ) (total more : ℕ) → AreParts count starts total → (number place : ℕ) → number < count
    → IsIn starts number place → IsIn (starts ++ more ∷ []) number place
in-after count starts total more parts number place low at = record {
  from = omega (arith, start-before count starts total more parts number (omega arith), at.from);
  to = omega (arith, start-before count starts total more parts (number + 1) (omega arith), at.to);
}

-- places of the part that was added
pub in-last : (count : ℕ) (starts : List ℕ) (total more : ℕ) → AreParts count starts total → (place : ℕ)
    → IsIn (starts ++ more ∷ []) count place → (total ≤ place) × (place < more)
in-last count starts total more parts place at = (
  omega (arith, start-before count starts total more parts count (omega arith), parts.last, at.from),
  omega (arith, start-last count starts total more parts, at.to),
)

pub last-in : (count : ℕ) (starts : List ℕ) (total more : ℕ) → AreParts count starts total → (place : ℕ)
    → total ≤ place → place < more → IsIn (starts ++ more ∷ []) count place
last-in count starts total more parts place from to = record {
  from = omega (arith, start-before count starts total more parts count (omega arith), parts.last);
  to = omega (arith, start-last count starts total more parts);
}

pub in-within : (count : ℕ) (starts : List ℕ) (total : ℕ) → AreParts count starts total → (number place : ℕ) → number < count
    → IsIn starts number place → place < total
in-within count starts total parts number place low at = omega (arith, parts.within (number + 1) (omega arith), at.to)

-- what stands in a part of an array
pub slice-at : {X : Type 0} (xs : List X) (a b k : ℕ) (d : X) → k < b - a → get_or (slice_range xs a b) k d ≡ get_or xs (a + k) d
slice-at xs a b k d low = get_or-take (b - a) (drop a xs) k d low ∙ get_or-drop a xs k d

pub length-slice : {X : Type 0} (xs : List X) (a b : ℕ) → a ≤ b → b ≤ length xs → length (slice_range xs a b) ≡ b - a
length-slice xs a b rises within = omega (arith, length-take (b - a) (drop a xs), length-drop a xs)
