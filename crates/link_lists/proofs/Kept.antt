-- a table that keeps the lists keeps the changed lists after a change
use Rattle.link_lists.proofs.Common.{◌≡◌, ◌≢◌, ℕ, zero, suc, ◌+◌, ◌-◌, ◌^◌, ◌<◌, ◌≤◌, List, [], ◌∷◌, ◌++◌, length, get_or, set, map, refl, sym, ap, ◌∙◌, subst, arith, inl, inr, ◌⊎◌, nat_eq, eqb, true, length-set, Option, Some, None, IfSome, slice_get, if◌then◌else◌, nat_lt, replicate, Contains, IsDistinct, list_any, cases_eq, cases_lt, eqb-true, or_cases, get_or-set_same, get_or-set_other, get_or_past, length-map, length-replicate, slice_get_within, get_or_from_slice_get, Contains-push_cases, Contains-append_left, Contains-push, Link, Family, list_at, IsHeld, IsFamily, without, with_behind, next_of, before_of, IsInserted, IsTakenOut, IsPath, circle_of, family_of, IsAlone, Keeps}
use Rattle.std.proofs.lemmas.List.FromFn.{fill_by_all}
use Rattle.std.proofs.lemmas.Map.Steps.{length-le_from_distinct_below}
use Rattle.link_lists.proofs.Members.{Contains-here, Contains-there, Contains-cons_cases, Contains-nil, ByRecursion-from, IsDistinct-nil, IsDistinct-push, IsDistinct-more, IsDistinct-without, Contains-without, Contains-left, Contains-with_behind, Contains-behind_kept, Contains-behind_new, IsDistinct-with_behind}
use Rattle.link_lists.proofs.Steps.{CanInsert, CanTake, path-kept, path-kept_to, path-at_start, path-at_end, path-with_behind, path-without, path-first, path-next, path-moves, nodes_from-path}

-- ---- a table means the lists that it keeps, and no others

Contains-from_any : (xs : List ℕ) (q : ℕ) → list_any (eqb q) xs ≡ true → Contains xs q
Contains-from_any [] q h = cc
Contains-from_any (x ∷ xs) q h =
    elim (or_cases (eqb q x) (list_any (eqb q) xs) h) [
      | inl e ↦ subst (Contains (x ∷ xs)) (sym (eqb-true q x e)) (Contains-here x xs)
      | inr r ↦ Contains-there x xs q (Contains-from_any xs q r)
    ]

pub length-list_at : (f : Family) → IsFamily f → (l : ℕ) → length (list_at f l) ≤ f.nodes
length-list_at f ok l =
    length-le_from_distinct_below (list_at f l) f.nodes (ok.distinct l)
    (λ q h. ok.in_range l q (Contains-from_any (list_at f l) q h))

circle_of-kept : (t : List Link) (f : Family) → Keeps t f → (l : ℕ) → l < length f.lists → circle_of t f.nodes l ≡ list_at f l
unfolding circle_of
circle_of-kept t f k l low =
    nodes_from-path t f.nodes (f.nodes + l) (list_at f l) (f.nodes + l) (k.path l low)
    (k.family_ok.in_range l) (omega arith) f.nodes (length-list_at f k.family_ok l)

abbrev pub with_lists : Family → List (List ℕ) → Family
with_lists f lists = record { nodes = f.nodes; lists = lists }

pub family_of-kept : (t : List Link) (f : Family) → Keeps t f → family_of t f.nodes ≡ f
unfolding family_of
family_of-kept t f k =
    let count : length f.lists ≡ length t - f.nodes = let size = k.size in omega arith in
    ap (with_lists f) (sym (fill_by_all (circle_of t f.nodes) f.lists (length t - f.nodes) [] count
    (λ l low. sym (circle_of-kept t f k l (let lt : l < length f.lists = omega arith in lt)))))

-- ---- places

pub alone-next : (t : List Link) (f : Family) → Keeps t f → (x : ℕ) → x < f.nodes → (IsHeld f x → ⊥) → next_of t x ≡ x
alone-next t f k x low out = elim (k.placed x low) [ inl e ↦ e | inr h ↦ absurd (out h) ]

pub held-list : (f : Family) (l x : ℕ) → Contains (list_at f l) x → l < length f.lists
held-list f l x c =
    elim (cases_lt l (length f.lists)) [
      | inl lt ↦ lt
      | inr ge ↦ absurd (Contains-nil x (subst (λ ys. Contains ys x) (get_or_past f.lists l [] ge) c))
    ]

pub held-moves : (t : List Link) (f : Family) → Keeps t f → (x : ℕ) → IsHeld f x → next_of t x ≢ x
held-moves t f k x (l, c) =
    let low = k.family_ok.in_range l x c in
    let far : f.nodes + l ≢ x = omega arith in
    path-moves t (f.nodes + l) (list_at f l) (f.nodes + l) (k.path l (held-list f l x c)) (k.family_ok.distinct l) x far c

-- ---- the lists of which some have one node more

pub IsFamily-grown : (f : Family) (lists : List (List ℕ)) (x : ℕ) (Grows : ℕ → Type 0) → ((l m : ℕ) → Grows l → Grows m → l ≡ m) → IsFamily f → x < f.nodes → (IsHeld f x → ⊥) → ((l y : ℕ) → Contains (get_or lists l []) y → Contains (list_at f l) y ⊎ ((x ≡ y) × Grows l)) → ((l : ℕ) → IsDistinct nat_eq (get_or lists l [])) → IsFamily (with_lists f lists)
IsFamily-grown f lists x Grows one ok low out was distinct = record {
  in_range = λ l y c. elim (was l y c) [ inl o ↦ ok.in_range l y o | inr n ↦ subst (λ z. z < f.nodes) n.0 low ];
  distinct = distinct;
  apart = λ l m y c d. elim (was l y c) [
    | inl o ↦ elim (was m y d) [
      | inl p ↦ ok.apart l m y o p
      | inr n ↦ absurd (out (l, subst (Contains (list_at f l)) (sym n.0) o))
    ]
    | inr n ↦ elim (was m y d) [
      | inl p ↦ absurd (out (m, subst (Contains (list_at f m)) (sym n.0) p))
      | inr q ↦ one l m n.1 q.1
    ]
  ];
}

-- ---- the table after an insertion

pub inserted-keeps : (t u : List Link) (f : Family) (lists : List (List ℕ)) (a x : ℕ) → Keeps t f → IsInserted t u a x → length u ≡ length t → a < length t → x < f.nodes → (IsHeld f x → ⊥) → length lists ≡ length f.lists → ((l : ℕ) → l < length f.lists → IsPath u (f.nodes + l) (get_or lists l []) (f.nodes + l)) → (a < f.nodes → IsHeld f a) → ((y : ℕ) → IsHeld f y → IsHeld (with_lists f lists) y) → IsHeld (with_lists f lists) x → IsFamily (with_lists f lists) → Keeps u (with_lists f lists)
inserted-keeps t u f lists a x k new long a_in x_in out count paths a_held kept x_held ok =
    let size = k.size in
    let next_x : next_of t x ≡ x = alone-next t f k x x_in out in
    let x_low : x < length t = omega arith in
    let before_x : before_of t x ≡ x = ap (before_of t) (sym next_x) ∙ k.before_next x x_low in
    let before_next_a : before_of t (next_of t a) ≡ a = k.before_next a a_in in
    let next_a_in : next_of t a < length t = k.next_in a a_in in
    record {
      size = long ∙ k.size ∙ ap (λ n. f.nodes + n) (sym count);
      fits = subst (λ n. n < 2 ^ 32) (sym long) k.fits;
      next_in = λ i low. subst (λ n. next_of u i < n) (sym long) (
          elim (cases_eq i a) [
            | inl e ↦ subst (λ z. z < length t) (sym (ap (next_of u) e ∙ new.next_place)) x_low
            | inr na ↦ elim (cases_eq i x) [
              | inl e ↦ subst (λ z. z < length t) (sym (ap (next_of u) e ∙ new.next_node)) next_a_in
              | inr nx ↦ subst (λ z. z < length t) (sym (new.next_others i na nx)) (k.next_in i (subst (λ n. i < n) long low))
            ]
          ]);
      before_in = λ i low. subst (λ n. before_of u i < n) (sym long) (
          elim (cases_eq i x) [
            | inl e ↦ subst (λ z. z < length t) (sym (ap (before_of u) e ∙ new.before_node)) a_in
            | inr nx ↦ elim (cases_eq i (next_of t a)) [
              | inl e ↦ subst (λ z. z < length t) (sym (ap (before_of u) e ∙ new.before_next)) x_low
              | inr nb ↦ subst (λ z. z < length t) (sym (new.before_others i nx nb)) (k.before_in i (subst (λ n. i < n) long low))
            ]
          ]);
      before_next = λ i low.
          elim (cases_eq i a) [
            | inl e ↦ ap (before_of u) (ap (next_of u) e ∙ new.next_place) ∙ new.before_node ∙ sym e
            | inr na ↦ elim (cases_eq i x) [
              | inl e ↦ ap (before_of u) (ap (next_of u) e ∙ new.next_node) ∙ new.before_next ∙ sym e
              | inr nx ↦
                  let back : before_of t (next_of t i) ≡ i = k.before_next i (subst (λ n. i < n) long low) in
                  ap (before_of u) (new.next_others i na nx)
                  ∙ new.before_others (next_of t i) (λ e. nx (sym back ∙ ap (before_of t) e ∙ before_x)) (λ e. na (sym back ∙ ap (before_of t) e ∙ before_next_a))
                  ∙ back
            ]
          ];
      next_before = λ i low.
          elim (cases_eq i x) [
            | inl e ↦ ap (next_of u) (ap (before_of u) e ∙ new.before_node) ∙ new.next_place ∙ sym e
            | inr nx ↦ elim (cases_eq i (next_of t a)) [
              | inl e ↦ ap (next_of u) (ap (before_of u) e ∙ new.before_next) ∙ new.next_node ∙ sym e
              | inr nb ↦
                  let back : next_of t (before_of t i) ≡ i = k.next_before i (subst (λ n. i < n) long low) in
                  ap (next_of u) (new.before_others i nx nb)
                  ∙ new.next_others (before_of t i) (λ e. nb (sym back ∙ ap (next_of t) e)) (λ e. nx (sym back ∙ ap (next_of t) e ∙ next_x))
                  ∙ back
            ]
          ];
      path = λ l low. paths l (subst (λ n. l < n) count low);
      placed = λ y low.
          elim (cases_eq y x) [
            | inl e ↦ inr (subst (IsHeld (with_lists f lists)) (sym e) x_held)
            | inr nx ↦ elim (cases_eq y a) [
              | inl e ↦ inr (kept y (subst (IsHeld f) (sym e) (a_held (subst (λ z. z < f.nodes) e low))))
              | inr na ↦ elim (k.placed y low) [
                | inl e ↦ inl (new.next_others y na nx ∙ e)
                | inr h ↦ inr (kept y h)
              ]
            ]
          ];
      family_ok = ok;
    }

-- ---- a list with other nodes

pub can-insert : (t : List Link) (f : Family) (a x : ℕ) → Keeps t f → a < length t → x < f.nodes → (IsHeld f x → ⊥) → CanInsert t a x
can-insert t f a x k a_in x_in out =
    let size = k.size in
    let next_x : next_of t x ≡ x = alone-next t f k x x_in out in
    let x_low : x < length t = omega arith in
    record { before_next = k.before_next a a_in; alone_next = next_x; alone_before = ap (before_of t) (sym next_x) ∙ k.before_next x x_low }

-- what a push needs of the list that it makes
record IsGrown (xs ys : List ℕ) (x : ℕ) : Type 0 where
  was : (y : ℕ) → Contains ys y → Contains xs y ⊎ (x ≡ y)
  kept : (y : ℕ) → Contains xs y → Contains ys y
  new : Contains ys x
  distinct : IsDistinct nat_eq ys

pushed-keeps : (t u : List Link) (f : Family) (l : ℕ) (ys : List ℕ) (a x : ℕ) → Keeps t f → IsInserted t u a x → length u ≡ length t → a < length t → l < length f.lists → x < f.nodes → (IsHeld f x → ⊥) → IsGrown (list_at f l) ys x → (a < f.nodes → IsHeld f a) → IsPath u (f.nodes + l) ys (f.nodes + l) → ((m : ℕ) → m < length f.lists → m ≢ l → IsPath u (f.nodes + m) (list_at f m) (f.nodes + m)) → Keeps u (with_lists f (set f.lists l ys))
pushed-keeps t u f l ys a x k new long a_in l_in x_in out grown a_held path paths =
    let lists : List (List ℕ) = set f.lists l ys in
    let here : get_or lists l [] ≡ ys = get_or-set_same f.lists l ys [] l_in in
    let there : (m : ℕ) → m ≢ l → get_or lists m [] ≡ list_at f m = λ m n. get_or-set_other f.lists l m ys [] n in
    inserted-keeps t u f lists a x k new long a_in x_in out (length-set f.lists l ys)
    (λ m low. elim (cases_eq m l) [
      | inl e ↦ subst (λ i. IsPath u (f.nodes + i) (get_or lists i []) (f.nodes + i)) (sym e)
          (subst (λ zs. IsPath u (f.nodes + l) zs (f.nodes + l)) (sym here) path)
      | inr n ↦ subst (λ zs. IsPath u (f.nodes + m) zs (f.nodes + m)) (sym (there m n)) (paths m low n)
    ])
    a_held
    (λ y (m, c). elim (cases_eq m l) [
      | inl e ↦ (l, subst (λ zs. Contains zs y) (sym here) (grown.kept y (subst (λ i. Contains (list_at f i) y) e c)))
      | inr n ↦ (m, subst (λ zs. Contains zs y) (sym (there m n)) c)
    ])
    (l, subst (λ zs. Contains zs x) (sym here) grown.new)
    (IsFamily-grown f lists x (λ m. m ≡ l) (λ m o p q. p ∙ sym q) k.family_ok x_in out
    (λ m y c. elim (cases_eq m l) [
      | inl e ↦ elim (grown.was y (subst (λ zs. Contains zs y) (ap (λ i. get_or lists i []) e ∙ here) c)) [
        | inl o ↦ inl (subst (λ i. Contains (list_at f i) y) (sym e) o)
        | inr q ↦ inr (q, e)
      ]
      | inr n ↦ inl (subst (λ zs. Contains zs y) (there m n) c)
    ])
    (λ m. elim (cases_eq m l) [
      | inl e ↦ subst (IsDistinct nat_eq) (sym (ap (λ i. get_or lists i []) e ∙ here)) grown.distinct
      | inr n ↦ subst (IsDistinct nat_eq) (sym (there m n)) (k.family_ok.distinct m)
    ]))

pub front-keeps : (t u : List Link) (f : Family) (l x : ℕ) → Keeps t f → IsInserted t u (f.nodes + l) x → length u ≡ length t → l < length f.lists → x < f.nodes → (IsHeld f x → ⊥) → Keeps u (with_lists f (set f.lists l (x ∷ list_at f l)))
front-keeps t u f l x k new long l_in x_in out =
    let size = k.size in
    let a_in : f.nodes + l < length t = omega arith in
    let can = can-insert t f (f.nodes + l) x k a_in x_in out in
    let far : (m y : ℕ) → Contains (list_at f m) y → (y ≢ f.nodes + l) × (y ≢ x) =
    λ m y c. (let low = k.family_ok.in_range m y c in let ne : y ≢ f.nodes + l = omega arith in ne, λ e. out (m, subst (Contains (list_at f m)) e c)) in
    pushed-keeps t u f l (x ∷ list_at f l) (f.nodes + l) x k new long a_in l_in x_in out
    (record {
      was = λ y c. elim (Contains-cons_cases x (list_at f l) y c) [ inl e ↦ inr e | inr o ↦ inl o ];
      kept = Contains-there x (list_at f l);
      new = Contains-here x (list_at f l);
      distinct = IsDistinct-more x (list_at f l) (λ c. out (l, c)) (k.family_ok.distinct l);
    })
    (λ low. absurd (omega arith))
    (path-at_start t u (f.nodes + l) x new can (list_at f l) (f.nodes + l) (ByRecursion-from (λ i. (i ≢ f.nodes + l) × (i ≢ x)) (list_at f l) (far l)) (k.path l l_in))
    (λ m low n. path-kept t u (f.nodes + l) x new can (f.nodes + m) (list_at f m) (f.nodes + m) (omega arith) (omega arith)
    (ByRecursion-from (λ i. (i ≢ f.nodes + l) × (i ≢ x)) (list_at f m) (far m)) (k.path m low))

pub back-keeps : (t u : List Link) (f : Family) (l x : ℕ) → Keeps t f → IsInserted t u (before_of t (f.nodes + l)) x → length u ≡ length t → l < length f.lists → x < f.nodes → (IsHeld f x → ⊥) → Keeps u (with_lists f (set f.lists l (list_at f l ++ x ∷ [])))
back-keeps t u f l x k new long l_in x_in out =
    let size = k.size in
    let head_in : f.nodes + l < length t = omega arith in
    let a : ℕ = before_of t (f.nodes + l) in
    let a_in : a < length t = k.before_in (f.nodes + l) head_in in
    let next_a : next_of t a ≡ f.nodes + l = k.next_before (f.nodes + l) head_in in
    let can = can-insert t f a x k a_in x_in out in
    let far : (m y : ℕ) → Contains (list_at f m) y → (y ≢ f.nodes + l) × (y ≢ x) =
    λ m y c. (let low = k.family_ok.in_range m y c in let ne : y ≢ f.nodes + l = omega arith in ne, λ e. out (m, subst (Contains (list_at f m)) e c)) in
    pushed-keeps t u f l (list_at f l ++ x ∷ []) a x k new long a_in l_in x_in out
    (record {
      was = λ y c. Contains-push_cases (list_at f l) x y c;
      kept = λ y c. Contains-append_left (list_at f l) (x ∷ []) y c;
      new = Contains-push (list_at f l) x;
      distinct = IsDistinct-push (list_at f l) x (λ c. out (l, c)) (k.family_ok.distinct l);
    })
    (λ low. elim (k.placed a low) [ inl e ↦ absurd (omega (arith, e, next_a)) | inr h ↦ h ])
    (path-at_end t u a x new can (f.nodes + l) (list_at f l) (f.nodes + l) next_a (ByRecursion-from (λ i. (i ≢ f.nodes + l) × (i ≢ x)) (list_at f l) (far l)) (k.path l l_in))
    (λ m low n. path-kept_to t u a x new can (f.nodes + m) (list_at f m) (f.nodes + m) (λ e. n (omega (arith, e, next_a))) (omega arith)
    (ByRecursion-from (λ i. (i ≢ next_of t a) × (i ≢ x)) (list_at f m) (λ y c. (λ e. (far m y c).0 (e ∙ next_a), (far m y c).1))) (k.path m low))

-- ---- each list changed in one way

pub get_or-map_nil : (g : List ℕ → List ℕ) (lists : List (List ℕ)) → g [] ≡ [] → (l : ℕ) → get_or (map g lists) l [] ≡ g (get_or lists l [])
get_or-map_nil g [] e l = sym e
get_or-map_nil g (xs ∷ lists) e zero = refl
get_or-map_nil g (xs ∷ lists) e (suc l) = get_or-map_nil g lists e l

pub behind-keeps : (t u : List Link) (f : Family) (a x : ℕ) → Keeps t f → IsInserted t u a x → length u ≡ length t → IsHeld f a → x < f.nodes → (IsHeld f x → ⊥) → Keeps u (with_lists f (map (with_behind a x) f.lists))
behind-keeps t u f a x k new long a_held x_in out =
    let size = k.size in
    let a_low : a < f.nodes = k.family_ok.in_range a_held.0 a a_held.1 in
    let a_in : a < length t = omega arith in
    let can = can-insert t f a x k a_in x_in out in
    let lists : List (List ℕ) = map (with_behind a x) f.lists in
    let at : (l : ℕ) → get_or lists l [] ≡ with_behind a x (list_at f l) = get_or-map_nil (with_behind a x) f.lists refl in
    inserted-keeps t u f lists a x k new long a_in x_in out (length-map f.lists (with_behind a x))
    (λ l low. subst (λ zs. IsPath u (f.nodes + l) zs (f.nodes + l)) (sym (at l))
    (path-with_behind t u a x new can (f.nodes + l) (list_at f l) (f.nodes + l) (omega arith) (omega arith) (k.family_ok.distinct l) (λ c. out (l, c)) (k.path l low)))
    (λ low. a_held)
    (λ y (l, c). (l, subst (λ zs. Contains zs y) (sym (at l)) (Contains-behind_kept a x (list_at f l) y c)))
    (a_held.0, subst (λ zs. Contains zs x) (sym (at a_held.0)) (Contains-behind_new a x (list_at f a_held.0) a_held.1))
    (IsFamily-grown f lists x (λ l. Contains (list_at f l) a) (λ l m p q. k.family_ok.apart l m a p q) k.family_ok x_in out
    (λ l y c. Contains-with_behind a x (list_at f l) y (subst (λ zs. Contains zs y) (at l) c))
    (λ l. subst (IsDistinct nat_eq) (sym (at l)) (IsDistinct-with_behind a x (list_at f l) (λ c. out (l, c)) (k.family_ok.distinct l))))

pub out-keeps : (t u : List Link) (f : Family) (x : ℕ) → Keeps t f → IsTakenOut t u x → length u ≡ length t → IsHeld f x → Keeps u (with_lists f (map (without x) f.lists))
out-keeps t u f x k new long x_held =
    let size = k.size in
    let ok = k.family_ok in
    let x_in : x < f.nodes = ok.in_range x_held.0 x x_held.1 in
    let x_low : x < length t = omega arith in
    let lists : List (List ℕ) = map (without x) f.lists in
    let at : (l : ℕ) → get_or lists l [] ≡ without x (list_at f l) = get_or-map_nil (without x) f.lists refl in
    let can : CanTake t x = record { before_next = k.before_next x x_low; next_before = k.next_before x x_low } in
    record {
      size = long ∙ k.size ∙ ap (λ n. f.nodes + n) (sym (length-map f.lists (without x)));
      fits = subst (λ n. n < 2 ^ 32) (sym long) k.fits;
      next_in = λ i low. subst (λ n. next_of u i < n) (sym long) (
          elim (cases_eq i x) [
            | inl e ↦ subst (λ z. z < length t) (sym (ap (next_of u) e ∙ new.next_node)) x_low
            | inr nx ↦ elim (cases_eq i (before_of t x)) [
              | inl e ↦ subst (λ z. z < length t) (sym (ap (next_of u) e ∙ new.next_before)) (k.next_in x x_low)
              | inr nb ↦ subst (λ z. z < length t) (sym (new.next_others i nx nb)) (k.next_in i (subst (λ n. i < n) long low))
            ]
          ]);
      before_in = λ i low. subst (λ n. before_of u i < n) (sym long) (
          elim (cases_eq i x) [
            | inl e ↦ subst (λ z. z < length t) (sym (ap (before_of u) e ∙ new.before_node)) x_low
            | inr nx ↦ elim (cases_eq i (next_of t x)) [
              | inl e ↦ subst (λ z. z < length t) (sym (ap (before_of u) e ∙ new.before_next)) (k.before_in x x_low)
              | inr nb ↦ subst (λ z. z < length t) (sym (new.before_others i nx nb)) (k.before_in i (subst (λ n. i < n) long low))
            ]
          ]);
      before_next = λ i low.
          elim (cases_eq i x) [
            | inl e ↦ ap (before_of u) (ap (next_of u) e ∙ new.next_node) ∙ new.before_node ∙ sym e
            | inr nx ↦ elim (cases_eq i (before_of t x)) [
              | inl e ↦ ap (before_of u) (ap (next_of u) e ∙ new.next_before) ∙ new.before_next ∙ sym e
              | inr nb ↦
                  let back : before_of t (next_of t i) ≡ i = k.before_next i (subst (λ n. i < n) long low) in
                  ap (before_of u) (new.next_others i nx nb)
                  ∙ new.before_others (next_of t i) (λ e. nb (sym back ∙ ap (before_of t) e)) (λ e. nx (sym back ∙ ap (before_of t) e ∙ k.before_next x x_low))
                  ∙ back
            ]
          ];
      next_before = λ i low.
          elim (cases_eq i x) [
            | inl e ↦ ap (next_of u) (ap (before_of u) e ∙ new.before_node) ∙ new.next_node ∙ sym e
            | inr nx ↦ elim (cases_eq i (next_of t x)) [
              | inl e ↦ ap (next_of u) (ap (before_of u) e ∙ new.before_next) ∙ new.next_before ∙ sym e
              | inr nb ↦
                  let back : next_of t (before_of t i) ≡ i = k.next_before i (subst (λ n. i < n) long low) in
                  ap (next_of u) (new.before_others i nx nb)
                  ∙ new.next_others (before_of t i) (λ e. nb (sym back ∙ ap (next_of t) e)) (λ e. nx (sym back ∙ ap (next_of t) e ∙ k.next_before x x_low))
                  ∙ back
            ]
          ];
      path = λ l low.
          let l_in : l < length f.lists = subst (λ n. l < n) (length-map f.lists (without x)) low in
          subst (λ zs. IsPath u (f.nodes + l) zs (f.nodes + l)) (sym (at l))
          (path-without t u x new can (f.nodes + l) (list_at f l) (f.nodes + l) (omega arith) (omega arith) (ok.distinct l) (k.path l l_in));
      placed = λ y low.
          elim (cases_eq y x) [
            | inl e ↦ inl (ap (next_of u) e ∙ new.next_node ∙ sym e)
            | inr nx ↦ elim (k.placed y low) [
              | inl e ↦ inl (new.next_others y nx (λ b. nx (sym e ∙ ap (next_of t) b ∙ k.next_before x x_low)) ∙ e)
              | inr h ↦ inr (h.0, subst (λ zs. Contains zs y) (sym (at h.0)) (Contains-left x (list_at f h.0) y h.1 nx))
            ]
          ];
      family_ok = record {
        in_range = λ l y c. ok.in_range l y (Contains-without x (list_at f l) y (subst (λ zs. Contains zs y) (at l) c)).0;
        distinct = λ l. subst (IsDistinct nat_eq) (sym (at l)) (IsDistinct-without x (list_at f l) (ok.distinct l));
        apart = λ l m y c d. ok.apart l m y (Contains-without x (list_at f l) y (subst (λ zs. Contains zs y) (at l) c)).0 (Contains-without x (list_at f m) y (subst (λ zs. Contains zs y) (at m) d)).0;
      };
    }

-- ---- what a call must know of neighbours

pub held-in : (t : List Link) (f : Family) → Keeps t f → (x : ℕ) → IsHeld f x → x < length t
held-in t f k x (l, c) =
    let size = k.size in
    let low = k.family_ok.in_range l x c in
    omega arith

-- a node in no list follows only itself
pub other-next : (t : List Link) (f : Family) → Keeps t f → (a x : ℕ) → a < length t → a ≢ x → x < f.nodes → (IsHeld f x → ⊥) → next_of t a ≢ x
other-next t f k a x a_in differs x_in out e =
    let size = k.size in
    let next_x : next_of t x ≡ x = alone-next t f k x x_in out in
    let x_low : x < length t = omega arith in
    differs (sym (k.before_next a a_in) ∙ ap (before_of t) (e ∙ sym next_x) ∙ k.before_next x x_low)

pub held-before : (t : List Link) (f : Family) → Keeps t f → (x : ℕ) → IsHeld f x → before_of t x ≢ x
held-before t f k x h e = held-moves t f k x h (ap (next_of t) (sym e) ∙ k.next_before x (held-in t f k x h))

-- ---- what is read

pub first-read : (t : List Link) (f : Family) → Keeps t f → (l : ℕ) → l < length f.lists → (if nat_lt (next_of t (f.nodes + l)) f.nodes then Some (next_of t (f.nodes + l)) else None) ≡ slice_get (list_at f l) 0
first-read t f k l low = path-first t f.nodes (f.nodes + l) (list_at f l) (f.nodes + l) (k.path l low) (k.family_ok.in_range l) (omega arith)

pub Contains-from_get : (xs : List ℕ) (i x : ℕ) → slice_get xs i ≡ Some x → Contains xs x
Contains-from_get xs i x h = (i, slice_get_within xs i x h, get_or_from_slice_get xs i x x h)

pub next-read : (t : List Link) (f : Family) → Keeps t f → (l place x : ℕ) → slice_get (list_at f l) place ≡ Some x → (if nat_lt (next_of t x) f.nodes then Some (next_of t x) else None) ≡ slice_get (list_at f l) (place + 1)
next-read t f k l place x h =
    let low = held-list f l x (Contains-from_get (list_at f l) place x h) in
    path-next t f.nodes (f.nodes + l) (list_at f l) (f.nodes + l) (k.path l low) (k.family_ok.in_range l) (omega arith) place x h

pub held-read : (f : Family) (l place : ℕ) (o : Option ℕ) → o ≡ slice_get (list_at f l) place → IfSome o (IsHeld f)
held-read f l place None e = tt
held-read f l place (Some x) e = (l, Contains-from_get (list_at f l) place x (sym e))

-- ---- empty lists

abbrev pub no_nodes : List ℕ
no_nodes = []

pub get_or-nils : (m l : ℕ) → get_or (replicate m no_nodes) l no_nodes ≡ no_nodes
get_or-nils zero l = refl
get_or-nils (suc m) zero = refl
get_or-nils (suc m) (suc l) = get_or-nils m l

abbrev pub empty_family : ℕ → ℕ → Family
empty_family n m = record { nodes = n; lists = replicate m [] }

pub empty-keeps : (t : List Link) (n m : ℕ) → length t ≡ n + m → n + m < 2 ^ 32 → ((p : ℕ) → p < n + m → IsAlone t p) → Keeps t (empty_family n m)
empty-keeps t n m long fits alone =
    let nothing : (l x : ℕ) → Contains (get_or (replicate m []) l []) x → ⊥ = λ l x c. Contains-nil x (subst (λ ys. Contains ys x) (get_or-nils m l) c) in
    let in_table : (p : ℕ) → p < length t → p < n + m = λ p low. omega arith in
    let count : length (replicate m []) ≡ m = length-replicate m [] in
    record {
      size = long ∙ ap (λ i. n + i) (sym count);
      fits = subst (λ i. i < 2 ^ 32) (sym long) fits;
      next_in = λ p low. subst (λ i. i < length t) (sym (alone p (in_table p low)).next) low;
      before_in = λ p low. subst (λ i. i < length t) (sym (alone p (in_table p low)).before) low;
      before_next = λ p low. ap (before_of t) (alone p (in_table p low)).next ∙ (alone p (in_table p low)).before;
      next_before = λ p low. ap (next_of t) (alone p (in_table p low)).before ∙ (alone p (in_table p low)).next;
      path = λ l low. let l_in : l < m = subst (λ i. l < i) count low in
          let here = alone (n + l) (omega arith) in
          subst (λ ys. IsPath t (n + l) ys (n + l)) (sym (get_or-nils m l)) (record { next = here.next; before = here.before });
      placed = λ x low. inl (alone x (omega arith)).next;
      family_ok = record {
        in_range = λ l x c. absurd (nothing l x c);
        distinct = λ l. subst (IsDistinct nat_eq) (sym (get_or-nils m l)) IsDistinct-nil;
        apart = λ l o x c d. absurd (nothing l x c);
      };
    }
