-- Chains while links are added, and while links that are not live are passed over.
use Rattle.adaptive_roads.proofs.Common.{◌≡◌, ◌≢◌, ℕ, zero, suc, ◌<◌, ◌≤◌, inl, inr, refl, sym, ◌∙◌, ap, subst, arith, cases_eq, cases_lt, IsChained}

-- the chain of a node begins before the end
pub first-le : (count : ℕ) (node first next : ℕ → ℕ) (IsLive : ℕ → Type 0) → IsChained count node first next IsLive → (x : ℕ) → first x ≤ count
first-le count node first next IsLive chained x =
    elim (first x) as (λ k. first x ≡ k → k ≤ count) [
      | zero ↦ λ _. omega arith
      | suc place ↦ λ is. omega (arith, (chained.first_node x place is).0)
    ] refl

-- a link is added in front of the chain of its node
pub chained-added : (count x : ℕ) (node first next : ℕ → ℕ) (IsLive : ℕ → Type 0) (node' first' next' : ℕ → ℕ) (IsLive' : ℕ → Type 0)
    → IsChained count node first next IsLive
    → ((place : ℕ) → place < count → node' place ≡ node place) → ((place : ℕ) → place < count → next' place ≡ next place)
    → ((place : ℕ) → place < count → IsLive' place → IsLive place)
    → node' count ≡ x → next' count ≡ first x → first' x ≡ suc count → ((y : ℕ) → y ≢ x → first' y ≡ first y)
    → IsChained (suc count) node' first' next' IsLive'
chained-added count x node first next IsLive node' first' next' IsLive' chained same_node same_next still_live its_node its_next its_first others = record {
  first_node = λ y place is. elim (cases_eq y x) [
    | inl same ↦
        let at : place ≡ count = omega (arith, ap first' same, its_first, is) in
        (omega (arith, at), ap node' at ∙ its_node ∙ sym same)
    | inr differs ↦
        let (below, stands) = chained.first_node y place (sym (others y differs) ∙ is) in
        (omega (arith, below), same_node place below ∙ stands)
  ];
  next_lower = λ place below. elim (cases_lt place count) [
    | inl earlier ↦ omega (arith, same_next place earlier, chained.next_lower place earlier)
    | inr last ↦
        let at : place ≡ count = omega arith in
        omega (arith, at, ap next' at, its_next, first-le count node first next IsLive chained x)
  ];
  next_node = λ place later below is. elim (cases_lt place count) [
    | inl earlier ↦
        let old : next place ≡ suc later = sym (same_next place earlier) ∙ is in
        let lower : later < count = omega (arith, chained.next_lower place earlier, old) in
        same_node later lower ∙ chained.next_node place later earlier old ∙ sym (same_node place earlier)
    | inr last ↦
        let at : place ≡ count = omega arith in
        let (lower, stands) = chained.first_node x later (sym its_next ∙ sym (ap next' at) ∙ is) in
        same_node later lower ∙ stands ∙ sym its_node ∙ sym (ap node' at)
  ];
  all_first = λ place below live. elim (cases_lt place count) [
    | inl earlier ↦ elim (cases_eq (node place) x) [
      | inl same ↦ omega (arith, ap first' (same_node place earlier ∙ same), its_first)
      | inr differs ↦ omega (arith, ap first' (same_node place earlier), others (node place) differs, chained.all_first place earlier (still_live place earlier live))
    ]
    | inr last ↦
        let at : place ≡ count = omega arith in
        omega (arith, at, ap first' (ap node' at ∙ its_node), its_first)
  ];
  all_next = λ place later before below same live. elim (cases_lt later count) [
    | inl earlier ↦
        let first_one : place < count = omega arith in
        omega (arith, same_next later earlier, chained.all_next place later before earlier (sym (same_node place first_one) ∙ same ∙ same_node later earlier) (still_live place first_one live))
    | inr last ↦
        let at : later ≡ count = omega arith in
        let earlier : place < count = omega arith in
        let its : node place ≡ x = sym (same_node place earlier) ∙ same ∙ ap node' at ∙ its_node in
        omega (arith, ap next' at, its_next, ap first its, chained.all_first place earlier (still_live place earlier live))
  ];
}

-- a link that is not live is passed over
pub chained-skipped : (count place dead : ℕ) (node first next : ℕ → ℕ) (IsLive : ℕ → Type 0) (next' : ℕ → ℕ)
    → IsChained count node first next IsLive → place < count → next place ≡ suc dead → (IsLive dead → ⊥)
    → next' place ≡ next dead → ((other : ℕ) → other ≢ place → next' other ≡ next other)
    → IsChained count node first next' IsLive
chained-skipped count place dead node first next IsLive next' chained below is not_live its_next others = record {
  first_node = chained.first_node;
  next_lower = λ p low. elim (cases_eq p place) [
    | inl same ↦ omega (arith, ap next' same, its_next, same, chained.next_lower dead dead_low, chained.next_lower place below, is)
    | inr differs ↦ omega (arith, others p differs, chained.next_lower p low)
  ];
  next_node = λ p later low leads. elim (cases_eq p place) [
    | inl same ↦
        chained.next_node dead later dead_low (sym its_next ∙ sym (ap next' same) ∙ leads) ∙ chained.next_node place dead below is ∙ sym (ap node same)
    | inr differs ↦ chained.next_node p later low (sym (others p differs) ∙ leads)
  ];
  all_first = chained.all_first;
  all_next = λ p later before low same live. elim (cases_eq later place) [
    | inl at ↦
        let near : p < next place = chained.all_next p place (omega (arith, at)) below (same ∙ ap node at) live in
        let apart : p ≢ dead = λ e. not_live (subst IsLive e live) in
        let earlier : p < dead = omega (arith, near, is, apart) in
        let its : node p ≡ node dead = same ∙ ap node at ∙ sym (chained.next_node place dead below is) in
        omega (arith, ap next' at, its_next, chained.all_next p dead earlier dead_low its live)
    | inr differs ↦ omega (arith, others later differs, chained.all_next p later before low same live)
  ];
}
  where
    dead_low : dead < count
    dead_low = omega (arith, chained.next_lower place below, is)

-- where fewer links are live
pub chained-fewer : (count : ℕ) (node first next : ℕ → ℕ) (IsLive IsLive' : ℕ → Type 0) → IsChained count node first next IsLive
    → ((place : ℕ) → place < count → IsLive' place → IsLive place) → IsChained count node first next IsLive'
chained-fewer count node first next IsLive IsLive' chained still_live = record {
  first_node = chained.first_node;
  next_lower = chained.next_lower;
  next_node = chained.next_node;
  all_first = λ place below live. chained.all_first place below (still_live place below live);
  all_next = λ place later before below same live. chained.all_next place later before below same (still_live place (omega arith) live);
}

-- chains over links that differ in nothing that counts
pub chained-same : (count : ℕ) (node first next : ℕ → ℕ) (IsLive : ℕ → Type 0) (node' next' : ℕ → ℕ) (IsLive' : ℕ → Type 0)
    → IsChained count node first next IsLive
    → ((place : ℕ) → node' place ≡ node place) → ((place : ℕ) → next' place ≡ next place) → ((place : ℕ) → IsLive' place → IsLive place)
    → IsChained count node' first next' IsLive'
chained-same count node first next IsLive node' next' IsLive' chained same_node same_next still_live = record {
  first_node = λ x place is. (let (low, stands) = chained.first_node x place is in (low, same_node place ∙ stands));
  next_lower = λ place low. omega (arith, same_next place, chained.next_lower place low);
  next_node = λ place later low is. same_node later ∙ chained.next_node place later low (sym (same_next place) ∙ is) ∙ sym (same_node place);
  all_first = λ place low live. omega (arith, ap first (same_node place), chained.all_first place low (still_live place live));
  all_next = λ place later before low same live.
      omega (arith, same_next later, chained.all_next place later before low (sym (same_node place) ∙ same ∙ same_node later) (still_live place live));
}
