-- how a path through the table changes where a node is put in or taken out
use Rattle.link_lists.proofs.Common.{◌≡◌, ◌≢◌, ℕ, zero, suc, ◌+◌, ◌<◌, ◌≤◌, List, [], ◌∷◌, ◌++◌, length, refl, sym, ap, ◌∙◌, subst, arith, inl, inr, nat_eq, Some, None, slice_get, if◌then◌else◌, nat_lt, Contains, IsDistinct, AllByRecursion, cases_eq, lt-ltb, le-ltb, Link, without, with_behind, next_of, before_of, IsInserted, IsTakenOut, IsStep, IsPath, nodes_from}
use Rattle.link_lists.proofs.Members.{Contains-here, Contains-there, Contains-cons_cases, Contains-nil, ByRecursion-from, IsDistinct-first, IsDistinct-rest, without-same, without-other, without-absent, with_behind-here, with_behind-other}

-- ---- what a path tells

pub path-first : (t : List Link) (n s : ℕ) (xs : List ℕ) (e : ℕ) → IsPath t s xs e → ((x : ℕ) → Contains xs x → x < n) → n ≤ e → (if nat_lt (next_of t s) n then Some (next_of t s) else None) ≡ slice_get xs 0
path-first t n s [] e p low high = rw (p.next, le-ltb e n high) refl
path-first t n s (x ∷ xs) e p low high = rw (p.0.next, lt-ltb x n (low x (Contains-here x xs))) refl

pub path-next : (t : List Link) (n s : ℕ) (xs : List ℕ) (e : ℕ) → IsPath t s xs e → ((x : ℕ) → Contains xs x → x < n) → n ≤ e → (k x : ℕ) → slice_get xs k ≡ Some x → (if nat_lt (next_of t x) n then Some (next_of t x) else None) ≡ slice_get xs (k + 1)
path-next t n s [] e p low high k x h = cc
path-next t n s (y ∷ xs) e p low high zero x h =
    let same : y ≡ x = cc in
    subst (λ z. (if nat_lt (next_of t z) n then Some (next_of t z) else None) ≡ slice_get xs 0) same
    (path-first t n y xs e p.1 (λ z c. low z (Contains-there y xs z c)) high)
path-next t n s (y ∷ xs) e p low high (suc k) x h =
    let step : suc k + 1 ≡ suc (k + 1) = omega arith in
    rw step (path-next t n y xs e p.1 (λ z c. low z (Contains-there y xs z c)) high k x h)

-- no node of a path follows itself
pub path-moves : (t : List Link) (s : ℕ) (xs : List ℕ) (e : ℕ) → IsPath t s xs e → IsDistinct nat_eq xs → (x : ℕ) → e ≢ x → Contains xs x → next_of t x ≢ x
path-moves t s [] e p d x far c = absurd (Contains-nil x c)
path-moves t s (y ∷ []) e p d x far c =
    elim (Contains-cons_cases y [] x c) [
      | inl q ↦ λ h. far (sym p.1.next ∙ ap (next_of t) q ∙ h)
      | inr i ↦ absurd (Contains-nil x i)
    ]
path-moves t s (y ∷ z ∷ xs) e p d x far c =
    elim (Contains-cons_cases y (z ∷ xs) x c) [
      | inl q ↦ λ h. IsDistinct-first y (z ∷ xs) d
          (subst (Contains (z ∷ xs)) (sym p.1.0.next ∙ ap (next_of t) q ∙ h ∙ sym q) (Contains-here z xs))
      | inr i ↦ path-moves t y (z ∷ xs) e p.1 (IsDistinct-rest y (z ∷ xs) d) x far i
    ]

-- a path gives its nodes back
pub nodes_from-path : (t : List Link) (n s : ℕ) (xs : List ℕ) (e : ℕ) → IsPath t s xs e → ((x : ℕ) → Contains xs x → x < n) → n ≤ e → (most : ℕ) → length xs ≤ most → nodes_from t n most (next_of t s) ≡ xs
unfolding nodes_from
nodes_from-path t n s [] e p low high zero long = refl
nodes_from-path t n s [] e p low high (suc most) long = rw (p.next, le-ltb e n high) refl
nodes_from-path t n s (x ∷ xs) e p low high zero long = absurd (omega arith)
nodes_from-path t n s (x ∷ xs) e p low high (suc most) long =
    rw (p.0.next, lt-ltb x n (low x (Contains-here x xs)))
    (ap (λ ys. x ∷ ys) (nodes_from-path t n x xs e p.1 (λ z c. low z (Contains-there x xs z c)) high most (omega arith)))

-- ---- a node is put in

-- the place has a place behind it, and the node is a circle of its own
pub record CanInsert (t : List Link) (place node : ℕ) : Type 0 where
  pub before_next : before_of t (next_of t place) ≡ place
  pub alone_next : next_of t node ≡ node
  pub alone_before : before_of t node ≡ node

-- a step from elsewhere stays
pub step-kept : (t u : List Link) (a x : ℕ) → IsInserted t u a x → CanInsert t a x → (i j : ℕ) → IsStep t i j → i ≢ a → i ≢ x → IsStep u i j
step-kept t u a x new can i j step other_place other_node =
    let not_node : j ≢ x = λ e. other_node (sym step.before ∙ ap (before_of t) e ∙ can.alone_before) in
    let not_next : j ≢ next_of t a = λ e. other_place (sym step.before ∙ ap (before_of t) e ∙ can.before_next) in
    record { next = new.next_others i other_place other_node ∙ step.next; before = new.before_others j not_node not_next ∙ step.before }

-- a step to elsewhere stays
pub step-kept_to : (t u : List Link) (a x : ℕ) → IsInserted t u a x → CanInsert t a x → (i j : ℕ) → IsStep t i j → j ≢ next_of t a → j ≢ x → IsStep u i j
step-kept_to t u a x new can i j step other_next other_node =
    step-kept t u a x new can i j step
    (λ e. other_next (sym step.next ∙ ap (next_of t) e))
    (λ e. other_node (sym step.next ∙ ap (next_of t) e ∙ can.alone_next))

pub path-kept : (t u : List Link) (a x : ℕ) → IsInserted t u a x → CanInsert t a x → (s : ℕ) (xs : List ℕ) (e : ℕ) → s ≢ a → s ≢ x → AllByRecursion (λ i. (i ≢ a) × (i ≢ x)) xs → IsPath t s xs e → IsPath u s xs e
path-kept t u a x new can s [] e na nx far p = step-kept t u a x new can s e p na nx
path-kept t u a x new can s (y ∷ xs) e na nx far p =
    (step-kept t u a x new can s y p.0 na nx, path-kept t u a x new can y xs e far.0.0 far.0.1 far.1 p.1)

pub path-kept_to : (t u : List Link) (a x : ℕ) → IsInserted t u a x → CanInsert t a x → (s : ℕ) (xs : List ℕ) (e : ℕ) → e ≢ next_of t a → e ≢ x → AllByRecursion (λ i. (i ≢ next_of t a) × (i ≢ x)) xs → IsPath t s xs e → IsPath u s xs e
path-kept_to t u a x new can s [] e na nx far p = step-kept_to t u a x new can s e p na nx
path-kept_to t u a x new can s (y ∷ xs) e na nx far p =
    (step-kept_to t u a x new can s y p.0 far.0.0 far.0.1, path-kept_to t u a x new can y xs e na nx far.1 p.1)

-- the two steps that the node makes
pub steps-new : (t u : List Link) (a x : ℕ) → IsInserted t u a x → (j : ℕ) → next_of t a ≡ j → IsStep u a x × IsStep u x j
steps-new t u a x new j e = (
  record { next = new.next_place; before = new.before_node },
  record { next = new.next_node ∙ e; before = ap (before_of u) (sym e) ∙ new.before_next },
)

-- behind the path's start
pub path-at_start : (t u : List Link) (a x : ℕ) → IsInserted t u a x → CanInsert t a x → (xs : List ℕ) (e : ℕ) → AllByRecursion (λ i. (i ≢ a) × (i ≢ x)) xs → IsPath t a xs e → IsPath u a (x ∷ xs) e
path-at_start t u a x new can [] e far p = steps-new t u a x new e p.next
path-at_start t u a x new can (y ∷ xs) e far p =
    let two = steps-new t u a x new y p.0.next in
    (two.0, (two.1, path-kept t u a x new can y xs e far.0.0 far.0.1 far.1 p.1))

-- behind the last node, before the path's end
pub path-at_end : (t u : List Link) (a x : ℕ) → IsInserted t u a x → CanInsert t a x → (s : ℕ) (xs : List ℕ) (e : ℕ) → next_of t a ≡ e → AllByRecursion (λ i. (i ≢ e) × (i ≢ x)) xs → IsPath t s xs e → IsPath u s (xs ++ x ∷ []) e
path-at_end t u a x new can s [] e back far p =
    let same : a ≡ s = sym can.before_next ∙ ap (before_of t) back ∙ p.before in
    let two = steps-new t u a x new e back in
    (subst (λ i. IsStep u i x) same two.0, two.1)
path-at_end t u a x new can s (y ∷ xs) e back far p = (
  step-kept_to t u a x new can s y p.0 (λ q. far.0.0 (q ∙ back)) far.0.1,
  path-at_end t u a x new can y xs e back far.1 p.1,
)

-- behind the place, where the path has it
pub path-with_behind : (t u : List Link) (a x : ℕ) → IsInserted t u a x → CanInsert t a x → (s : ℕ) (xs : List ℕ) (e : ℕ) → s ≢ a → s ≢ x → IsDistinct nat_eq xs → (Contains xs x → ⊥) → IsPath t s xs e → IsPath u s (with_behind a x xs) e
path-with_behind t u a x new can s [] e na nx d out p = step-kept t u a x new can s e p na nx
path-with_behind t u a x new can s (y ∷ xs) e na nx d out p =
    elim (cases_eq y a) [
      | inl q ↦ subst (λ ys. IsPath u s ys e) (sym (with_behind-here a x y xs q)) (
        step-kept t u a x new can s y p.0 na nx,
        subst (λ z. IsPath u z (x ∷ xs) e) (sym q)
            (path-at_start t u a x new can xs e
            (ByRecursion-from (λ i. (i ≢ a) × (i ≢ x)) xs (λ i c.
            (λ r. IsDistinct-first y xs d (subst (Contains xs) (r ∙ sym q) c), λ r. out (Contains-there y xs x (subst (Contains xs) r c)))))
            (subst (λ z. IsPath t z xs e) q p.1)),
      )
      | inr n ↦ subst (λ ys. IsPath u s ys e) (sym (with_behind-other a x y xs n)) (
        step-kept t u a x new can s y p.0 na nx,
        path-with_behind t u a x new can y xs e n (λ r. out (subst (Contains (y ∷ xs)) r (Contains-here y xs)))
            (IsDistinct-rest y xs d) (λ c. out (Contains-there y xs x c)) p.1,
      )
    ]

-- ---- a node is taken out

-- the node has places round it
pub record CanTake (t : List Link) (node : ℕ) : Type 0 where
  pub before_next : before_of t (next_of t node) ≡ node
  pub next_before : next_of t (before_of t node) ≡ node

pub step-left : (t u : List Link) (x : ℕ) → IsTakenOut t u x → CanTake t x → (i j : ℕ) → IsStep t i j → i ≢ x → j ≢ x → IsStep u i j
step-left t u x new can i j step from to =
    let not_before : i ≢ before_of t x = λ e. to (sym step.next ∙ ap (next_of t) e ∙ can.next_before) in
    let not_next : j ≢ next_of t x = λ e. from (sym step.before ∙ ap (before_of t) e ∙ can.before_next) in
    record { next = new.next_others i from not_before ∙ step.next; before = new.before_others j to not_next ∙ step.before }

pub path-left : (t u : List Link) (x : ℕ) → IsTakenOut t u x → CanTake t x → (s : ℕ) (xs : List ℕ) (e : ℕ) → s ≢ x → e ≢ x → (Contains xs x → ⊥) → IsPath t s xs e → IsPath u s xs e
path-left t u x new can s [] e ns ne out p = step-left t u x new can s e p ns ne
path-left t u x new can s (y ∷ xs) e ns ne out p =
    let ny : y ≢ x = λ r. out (subst (Contains (y ∷ xs)) r (Contains-here y xs)) in
    (step-left t u x new can s y p.0 ns ny, path-left t u x new can y xs e ny ne (λ c. out (Contains-there y xs x c)) p.1)

-- the step over the gap
pub step-over : (t u : List Link) (x : ℕ) → IsTakenOut t u x → (i j : ℕ) → IsStep t i x → IsStep t x j → IsStep u i j
step-over t u x new i j to from = record {
  next = ap (next_of u) (sym to.before) ∙ new.next_before ∙ from.next;
  before = ap (before_of u) (sym from.next) ∙ new.before_next ∙ to.before;
}

pub path-over : (t u : List Link) (x : ℕ) → IsTakenOut t u x → CanTake t x → (s : ℕ) (xs : List ℕ) (e : ℕ) → e ≢ x → (Contains xs x → ⊥) → IsStep t s x → IsPath t x xs e → IsPath u s xs e
path-over t u x new can s [] e ne out to p = step-over t u x new s e to p
path-over t u x new can s (y ∷ xs) e ne out to p =
    let ny : y ≢ x = λ r. out (subst (Contains (y ∷ xs)) r (Contains-here y xs)) in
    (step-over t u x new s y to p.0, path-left t u x new can y xs e ny ne (λ c. out (Contains-there y xs x c)) p.1)

pub path-without : (t u : List Link) (x : ℕ) → IsTakenOut t u x → CanTake t x → (s : ℕ) (xs : List ℕ) (e : ℕ) → s ≢ x → e ≢ x → IsDistinct nat_eq xs → IsPath t s xs e → IsPath u s (without x xs) e
path-without t u x new can s [] e ns ne d p = step-left t u x new can s e p ns ne
path-without t u x new can s (y ∷ xs) e ns ne d p =
    elim (cases_eq y x) [
      | inl q ↦
          let out : Contains xs x → ⊥ = λ c. IsDistinct-first y xs d (subst (Contains xs) (sym q) c) in
          subst (λ ys. IsPath u s ys e) (sym (without-same x y xs q ∙ without-absent x xs out))
          (path-over t u x new can s xs e ne out (subst (λ z. IsStep t s z) q p.0) (subst (λ z. IsPath t z xs e) q p.1))
      | inr n ↦ subst (λ ys. IsPath u s ys e) (sym (without-other x y xs n))
          (step-left t u x new can s y p.0 ns n, path-without t u x new can y xs e n ne (IsDistinct-rest y xs d) p.1)
    ]
