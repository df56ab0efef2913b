-- A search for the cheapest pair of places, place after place.
use Rattle.slack_tables.proofs.Common.{◌≡◌, ℕ, ◌+◌, ◌-◌, ◌<◌, ◌≤◌, ◌⊎◌, inl, inr, Bool, true, false, cond, length, eqb, refl, sym, ◌∙◌, ap, subst, arith, Option, Some, None, IfSome, option_map, option_and_then, eqb-true, eq-eqb, cond_both, less_or_same, eqb-less, lesser, range_passes, passes_range, Near, least-on, Found, Terms, PlanSlack, load_at, has_room, has_room_between, pickup_at, lateness, cost_together, cost_apart, cost_at, least_at, cost_found, IsFound}
use Rattle.slack_tables.proofs.Ranges.{least-none}

-- the ride's load fits from a place on up to another
abbrev pub HasRoom : Terms → PlanSlack → ℕ → ℕ → Type 0
HasRoom terms slack i j = (p : ℕ) → i ≤ p → p < j → has_room terms (load_at slack p) ≡ true

pub room-more : (terms : Terms) (slack : PlanSlack) (i j : ℕ) → HasRoom terms slack i j → has_room terms (load_at slack j) ≡ true
    → HasRoom terms slack i (j + 1)
room-more terms slack i j before here p low high = elim (less_or_same p j (omega (arith, high))) [
  | inl less ↦ before p low less
  | inr same ↦ ap (λ n. has_room terms (load_at slack n)) same ∙ here
]

-- only one place
pub room-one : (terms : Terms) (slack : PlanSlack) (i : ℕ) → has_room terms (load_at slack i) ≡ true → HasRoom terms slack i (i + 1)
room-one terms slack i here = room-more terms slack i i (λ p low high. absurd (omega (arith, low, high))) here

between : (terms : Terms) (slack : PlanSlack) (i j : ℕ) → HasRoom terms slack i (j + 1) → has_room_between terms slack i j ≡ true
between terms slack i j room = passes_range (has_room terms) (load_at slack) i (j + 1 - i)
    (λ p low high. room p low (omega (arith, low, high)))

-- the parts of a cost, with room between the places
abbrev after : Terms → PlanSlack → Near → ℕ → ℕ → ℕ → Option ℕ
after terms slack near i j pickup =
    cond (eqb i j) (cost_together terms slack near i pickup)
    (option_and_then (λ l. cost_apart terms slack near i j l pickup) (lateness terms slack near i pickup))

-- no cost where the load does not fit
pub no-room-cost : (terms : Terms) (slack : PlanSlack) (near : Near) (i j k : ℕ) → has_room terms (load_at slack j) ≡ false → i ≤ j
    → j ≤ k
    → cost_at terms slack near i k ≡ None
no-room-cost terms slack near i j k full low high = by_cases (has_room_between terms slack i k) refl
  where
    by_cases : (b : Bool) → has_room_between terms slack i k ≡ b → cost_at terms slack near i k ≡ None
    by_cases true is = absurd
        (cc (full, range_passes (has_room terms) (load_at slack) i (k + 1 - i) is j low (omega (arith, low, high))))
    by_cases false is = ap (λ b. cond b (option_and_then (after terms slack near i k) (pickup_at terms slack near i)) None) is

-- no cost where the pickup is too late, or the stops behind it would be
pub no-pickup-cost : (terms : Terms) (slack : PlanSlack) (near : Near) (i k : ℕ) → pickup_at terms slack near i ≡ None
    → cost_at terms slack near i k ≡ None
no-pickup-cost terms slack near i k none =
    ap (λ o. cond (has_room_between terms slack i k) (option_and_then (after terms slack near i k) o) None) none
    ∙ cond_both (has_room_between terms slack i k) None None (λ o. o ≡ None) (λ _. refl) (λ _. refl)

pub no-lateness-cost : (terms : Terms) (slack : PlanSlack) (near : Near) (i k pickup : ℕ) → pickup_at terms slack near i ≡ Some pickup
    → lateness terms slack near i pickup ≡ None → i < k → cost_at terms slack near i k ≡ None
no-lateness-cost terms slack near i k pickup some none less =
    ap (λ o. cond (has_room_between terms slack i k) (option_and_then (after terms slack near i k) o) None) some
    ∙ ap (λ b. cond (has_room_between terms slack i k)
    (cond b (cost_together terms slack near i pickup)
    (option_and_then (λ l. cost_apart terms slack near i k l pickup) (lateness terms slack near i pickup))) None)
    (eqb-less i k less)
    ∙ ap (λ o. cond (has_room_between terms slack i k) (option_and_then (λ l. cost_apart terms slack near i k l pickup) o) None) none
    ∙ cond_both (has_room_between terms slack i k) None None (λ o. o ≡ None) (λ _. refl) (λ _. refl)

-- the cost with the drop-off at a later place
pub apart-cost : (terms : Terms) (slack : PlanSlack) (near : Near) (i j late pickup : ℕ) → HasRoom terms slack i (j + 1)
    → pickup_at terms slack near i ≡ Some pickup → lateness terms slack near i pickup ≡ Some late → i < j
    → cost_apart terms slack near i j late pickup ≡ cost_at terms slack near i j
apart-cost terms slack near i j late pickup room some is_late less =
    sym (
    ap (λ b. cond b (option_and_then (after terms slack near i j) (pickup_at terms slack near i)) None) (between terms slack i j room)
    ∙ ap (option_and_then (after terms slack near i j)) some
    ∙ ap (λ b. cond b (cost_together terms slack near i pickup)
    (option_and_then (λ l. cost_apart terms slack near i j l pickup) (lateness terms slack near i pickup))) (eqb-less i j less)
    ∙ ap (option_and_then (λ l. cost_apart terms slack near i j l pickup)) is_late
    )

-- the cost with the drop-off directly behind the pickup
pub together-cost : (terms : Terms) (slack : PlanSlack) (near : Near) (i pickup : ℕ) → has_room terms (load_at slack i) ≡ true
    → pickup_at terms slack near i ≡ Some pickup → cost_together terms slack near i pickup ≡ cost_at terms slack near i i
together-cost terms slack near i pickup room some =
    sym (
    ap (λ b. cond b (option_and_then (after terms slack near i i) (pickup_at terms slack near i)) None)
    (between terms slack i i (room-one terms slack i room))
    ∙ ap (option_and_then (after terms slack near i i)) some
    ∙ ap (λ b. cond b (cost_together terms slack near i pickup)
    (option_and_then (λ l. cost_apart terms slack near i i l pickup) (lateness terms slack near i pickup))) (eq-eqb i i refl)
    )

-- no pair of places has a cost from a place on
pub none-from : (terms : Terms) (slack : PlanSlack) (near : Near) (i j : ℕ) → ((k : ℕ) → j ≤ k → cost_at terms slack near i k ≡ None)
    → least_at terms slack near i j ≡ None
none-from terms slack near i j none =
    least-none (cost_at terms slack near i) j (length slack.times + 1 - j) (λ k low high. none k low)

-- a pair that was found has its cost
abbrev pub found_with : ℕ → ℕ → Option ℕ → Option Found
found_with i j cost = option_map (λ c. record { i = i; j = j; cost = c }) cost

pub cost-found : (i j : ℕ) (cost : Option ℕ) → cost_found (found_with i j cost) ≡ cost
cost-found i j None = refl
cost-found i j (Some c) = refl

pub is-found : (terms : Terms) (slack : PlanSlack) (near : Near) (i j : ℕ) (cost : Option ℕ) → cost ≡ cost_at terms slack near i j
    → i ≤ j
    → j ≤ length slack.times → IfSome (found_with i j cost) (IsFound terms slack near)
is-found terms slack near i j None is in_order within = tt
is-found terms slack near i j (Some c) is in_order within = record { in_order = in_order; in_range = within; cost_is = sym is }

-- one of two
pub one_of : (P : Found → Type 0) (result first second : Option Found) → (result ≡ first) ⊎ (result ≡ second) → IfSome first P
    → IfSome second P → IfSome result P
one_of P result first second (inl is) a b = subst (λ o. IfSome o P) (sym is) a
one_of P result first second (inr is) a b = subst (λ o. IfSome o P) (sym is) b

-- the least from the first place on
pub least-first : (terms : Terms) (slack : PlanSlack) (near : Near) (i : ℕ) → i ≤ length slack.times
    → lesser (cost_at terms slack near i i) (least_at terms slack near i (i + 1)) ≡ least_at terms slack near i i
least-first terms slack near i within = least-on (cost_at terms slack near i) (length slack.times) i None within
