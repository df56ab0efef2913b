-- Labels and the list of the nodes that have one.
use Rattle.road_times.proofs.Common.{◌≡◌, ◌≢◌, ℕ, zero, suc, ◌+◌, ◌<◌, ◌≤◌, ◌⊎◌, inl, inr, true, false, cond, List, [], ◌∷◌, length, get_or, set, refl, sym, ◌∙◌, ap, arith, Option, Some, None, is_some, count_by, replicate, cases_eq, get_or-set_same, get_or-set_other, length-set, sum_by-cons, sum_by-set, count_by-le-length, none_from_is_some, label_of, IsListed}

-- a write at a place, seen from any place
pub set_cases : (labels : List (Option ℕ)) (node other : ℕ) (value : Option ℕ) → node < length labels
    → ((other ≡ node) × (label_of (set labels node value) other ≡ value))
    ⊎ ((other ≢ node) × (label_of (set labels node value) other ≡ label_of labels other))
set_cases labels node other value low =
    elim (cases_eq other node) [
      | inl same ↦ inl (same, ap (label_of (set labels node value)) same ∙ get_or-set_same labels node value None low)
      | inr differs ↦ inr (differs, get_or-set_other labels node other value None differs)
    ]

-- a label stands within the list
pub label_within : (labels : List (Option ℕ)) (node label : ℕ) → label_of labels node ≡ Some label → node < length labels
label_within [] node label e = cc
label_within (l ∷ labels) zero label e = omega arith
label_within (l ∷ labels) (suc node) label e = let low = label_within labels node label e in omega arith

-- nothing but None
pub all_none : (n i : ℕ) → label_of (replicate n None) i ≡ None
all_none zero i = refl
all_none (suc n) zero = refl
all_none (suc n) (suc i) = all_none n i

-- what a place adds to the count of labels
abbrev one_label : ℕ
one_label = 1

abbrev no_label : ℕ
no_label = 0

abbrev one_if : Option ℕ → ℕ
one_if o = cond (is_some o) 1 0

-- where no node has a label, there are no labels
pub none_counted : (labels : List (Option ℕ)) → ((node : ℕ) → label_of labels node ≡ None) → count_by is_some labels ≡ 0
none_counted [] none = refl
none_counted (l ∷ labels) none =
    let first : is_some l ≡ false = ap is_some (none 0) in
    let rest = none_counted labels (λ node. none (suc node)) in
    let total = sum_by-cons one_if l labels in
    let one : one_if l ≡ 0 = ap (λ b. cond b one_label no_label) first in
    omega (arith, total, one, rest)

-- one more label
pub one_more_counted : (labels : List (Option ℕ)) (node label : ℕ) → node < length labels → label_of labels node ≡ None
    → count_by is_some (set labels node (Some label)) ≡ count_by is_some labels + 1
one_more_counted labels node label low none =
    let total = sum_by-set one_if labels node (Some label) None low in
    let had : one_if (label_of labels node) ≡ 0 = ap one_if none in
    omega (arith, total, had)

-- there is room for one more
pub room_for_one : (labels : List (Option ℕ)) (node : ℕ) → node < length labels → label_of labels node ≡ None
    → count_by is_some labels < length labels
room_for_one labels node low none =
    omega (arith, one_more_counted labels node 0 low none, count_by-le-length is_some (set labels node (Some 0)), length-set labels node (Some 0))

-- the list after one more node was settled
pub listed-settled : (labels : List (Option ℕ)) (settled : List ℕ) (count node label : ℕ) → IsListed labels settled count
    → node < length labels → label_of labels node ≡ None → IsListed (set labels node (Some label)) (set settled count node) (count + 1)
listed-settled labels settled count node label listed low none = record {
  sized = length-set settled count node ∙ listed.sized ∙ sym (length-set labels node (Some label));
  counted = omega (arith, listed.counted, one_more_counted labels node label low none);
  inside = λ place before. elim (cases_eq place count) [
    | inl same ↦ omega (arith, ap (λ p. get_or (set settled count node) p 0) same, here, low, length-set labels node (Some label))
    | inr differs ↦ omega (arith, get_or-set_other settled count place node 0 differs, listed.inside place (omega arith), length-set labels node (Some label))
  ];
  listed = λ other had has. elim (set_cases labels node other (Some label) low) [
    | inl (same, now) ↦ (count, omega arith, here ∙ sym same)
    | inr (differs, now) ↦
        let (place, before, is) = listed.listed other had (sym now ∙ has) in
        let apart : place ≢ count = omega arith in
        (place, omega arith, get_or-set_other settled count place node 0 apart ∙ is)
  ];
}
  where
    room : count < length settled
    room = omega (arith, listed.sized, listed.counted, room_for_one labels node low none)

    here : get_or (set settled count node) count 0 ≡ node
    here = get_or-set_same settled count node 0 room

-- what is left of the labels while they are taken away from the end of the list
pub record IsLeft (labels : List (Option ℕ)) (settled : List ℕ) (count : ℕ) : Type 0 where
  pub sized : length settled ≡ length labels
  pub room : count ≤ length settled
  pub inside : (place : ℕ) → place < count → get_or settled place 0 < length labels
  pub listed : (node label : ℕ) → label_of labels node ≡ Some label
      → (place : ℕ) × (place < count) × (get_or settled place 0 ≡ node)

-- at the end no label is left
pub left-none : (labels : List (Option ℕ)) (settled : List ℕ) → IsLeft labels settled 0 → (node : ℕ) → label_of labels node ≡ None
left-none labels settled left node =
    elim (label_of labels node) as (λ o. label_of labels node ≡ o → o ≡ None) [
      | None ↦ λ _. refl
      | Some label ↦ λ has. (let (place, before, _) = left.listed node label has in absurd (omega arith))
    ] refl

pub listed-none : (labels : List (Option ℕ)) (settled : List ℕ) → length settled ≡ length labels
    → ((node : ℕ) → label_of labels node ≡ None) → IsListed labels settled 0
listed-none labels settled sized none = record {
  sized = sized;
  counted = sym (none_counted labels none);
  inside = λ place before. absurd (omega arith);
  listed = λ node label has. (let both : Some label ≡ None = sym has ∙ none node in absurd (cc both));
}

pub some_from_is_some : (o : Option ℕ) → is_some o ≡ true → (label : ℕ) × (o ≡ Some label)
some_from_is_some None e = cc e
some_from_is_some (Some label) e = (label, refl)
