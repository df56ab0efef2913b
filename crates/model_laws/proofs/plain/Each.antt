-- What holds of each element of a list.
use Rattle.model_laws.proofs.Common.{ℕ, zero, suc, Bool, true, false, cond, inl, inr, List, [], ◌∷◌, ◌++◌, refl, subst, rules, take, drop, All, IfSome, find, Some, filter, AllByRecursion, All-contains, All-from_recursion, All-tail}
use Rattle.model_laws.proofs.plain.Among.{Among, contains_from_among}

-- of one that is among them
pub of_each : {X : Type 0} (P : X → Type 0) (xs : List X) (x : X) → AllByRecursion P xs → Among x xs → P x
of_each P [] x h there = absurd there
of_each P (y ∷ ys) x (first, rest) (inl is) = subst P is first
of_each P (y ∷ ys) x (first, rest) (inr there) = of_each P ys x rest there

pub of_all : {X : Type 0} (P : X → Type 0) (xs : List X) (x : X) → All P xs → Among x xs → P x
of_all P xs x h there = All-contains P xs x h (contains_from_among xs x there)

-- of all, as it holds of each that is among them
pub each-among : {X : Type 0} (P : X → Type 0) (xs : List X) → ((x : X) → Among x xs → P x) → AllByRecursion P xs
each-among P [] h = tt
each-among P (x ∷ xs) h = (h x (inl refl), each-among P xs (λ y among. h y (inr among)))

pub all_of : {X : Type 0} (P : X → Type 0) (xs : List X) → ((x : X) → Among x xs → P x) → All P xs
all_of P xs h = All-from_recursion P xs (each-among P xs h)

-- of none, of one and of two
pub all_of_none : {X : Type 0} (P : X → Type 0) → All P []
all_of_none P = All-from_recursion P [] tt

pub all_of_one : {X : Type 0} (P : X → Type 0) (x : X) → P x → All P (x ∷ [])
all_of_one P x p = All-from_recursion P (x ∷ []) (p, tt)

pub all_of_two : {X : Type 0} (P : X → Type 0) (x y : X) → P x → P y → All P (x ∷ y ∷ [])
all_of_two P x y p q = All-from_recursion P (x ∷ y ∷ []) (p, (q, tt))

-- of what a filter keeps, of both lists put together, and of the first and the last
pub each-filter : {X : Type 0} (P : X → Type 0) (p : X → Bool) (xs : List X) → AllByRecursion P xs → AllByRecursion P (filter p xs)
each-filter P p [] h = tt
each-filter P p (x ∷ xs) (first, rest) =
    elim (p x) as (λ b. AllByRecursion P (cond b (x ∷ filter p xs) (filter p xs))) [
      | true ↦ (first, each-filter P p xs rest)
      | false ↦ each-filter P p xs rest
    ]

pub each-append : {X : Type 0} (P : X → Type 0) (xs ys : List X) → AllByRecursion P xs → AllByRecursion P ys → AllByRecursion P (xs ++ ys)
each-append P [] ys a b = b
each-append P (x ∷ xs) ys (first, rest) b = (first, each-append P xs ys rest b)

pub each-take : {X : Type 0} (P : X → Type 0) (n : ℕ) (xs : List X) → AllByRecursion P xs → AllByRecursion P (take n xs)
each-take P zero xs h = tt
each-take P (suc n) [] h = tt
each-take P (suc n) (x ∷ xs) (first, rest) = (first, each-take P n xs rest)

pub each-drop : {X : Type 0} (P : X → Type 0) (n : ℕ) (xs : List X) → AllByRecursion P xs → AllByRecursion P (drop n xs)
each-drop P zero xs h = h
each-drop P (suc n) [] h = tt
each-drop P (suc n) (x ∷ xs) (first, rest) = each-drop P n xs rest

-- less holds too
pub each-weaker : {X : Type 0} (P Q : X → Type 0) → ((x : X) → P x → Q x) → (xs : List X) → AllByRecursion P xs → AllByRecursion Q xs
each-weaker P Q f [] h = tt
each-weaker P Q f (x ∷ xs) (here, rest) = (f x here, each-weaker P Q f xs rest)

-- what holds of each element holds of the first that passes
pub IfSome-find : {A : Type 0} (P : A → Type 0) (p : A → Bool) (xs : List A) → All P xs → IfSome (find p xs) P
IfSome-find P p [] all = tt
IfSome-find P p (x ∷ xs) all =
    elim (p x) as (λ b. IfSome (cond b (Some x) (find p xs)) P) [
      | true ↦ all 0 x (search rules)
      | false ↦ IfSome-find P p xs (All-tail P x xs all)
    ]
