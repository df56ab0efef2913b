-- Lists that begin one another, the items of a number, and the views that are others'.
use Rattle.turn_lock.proofs.Common.{not, ◌&&◌, ◌≡◌, ◌≢◌, ◌⊎◌, ℕ, zero, suc, ◌+◌, ◌<◌, ◌≤◌, Bool, true, false, cond, eqb, List, [], ◌∷◌, ◌++◌, length, set, sym, refl, ap, ◌∙◌, ⊎_elim, inl, inr, arith, append_assoc, eq-eqb, ne_eqb, append-nil, filter-append, IsPrefix, some, some-injective, some-ne-none, get_elem?, View, items_of, longer, is_other, others_in}
use Rattle.std.proofs.lemmas.List.Sums.{sum_by-cons, sum_by-append}
use Rattle.std.proofs.Math.Dec.{leb}
use Rattle.std.proofs.lemmas.Bool.Decides.{leb_tells}

module _ {A : Type 0} where
  pub prefix_self : (xs : List A) → IsPrefix xs xs
  prefix_self xs = ([], append-nil xs)

  pub prefix_nil : (xs : List A) → IsPrefix [] xs
  prefix_nil xs = (xs, refl)

  pub prefix_more : (xs ys : List A) → IsPrefix xs (xs ++ ys)
  prefix_more xs ys = (ys, refl)

  pub prefix_trans : (xs ys zs : List A) → IsPrefix xs ys → IsPrefix ys zs → IsPrefix xs zs
  prefix_trans xs ys zs p q = (p.0 ++ q.0, (sym (append_assoc xs p.0 q.0) ∙ ap (λ (l : List A). l ++ q.0) p.1) ∙ q.1)

  -- of two beginnings of one list the shorter begins the longer
  pub prefix_of_longer : (xs ys zs : List A) → IsPrefix xs zs → IsPrefix ys zs → length xs ≤ length ys → IsPrefix xs ys
  prefix_of_longer [] ys zs p q short = (ys, refl)
  prefix_of_longer (x ∷ xs) [] zs p q short = absurd (omega arith)
  prefix_of_longer (x ∷ xs) (y ∷ ys) [] p q short = absurd (cc (p.1))
  prefix_of_longer (x ∷ xs) (y ∷ ys) (z ∷ zs) p q short =
      let e : x ≡ z = cc (p.1) in
      let f : y ≡ z = cc (q.1) in
      let ps : xs ++ p.0 ≡ zs = cc (p.1) in
      let qs : ys ++ q.0 ≡ zs = cc (q.1) in
      let r = prefix_of_longer xs ys zs (p.0, ps) (q.0, qs) (omega arith) in
      (r.0, λ k. (e ∙ sym f) k ∷ r.1 k)

  pub at_push : (l : List A) (a b : A) (j : ℕ) → get_elem? (l ++ a ∷ []) j ≡ some b → (get_elem? l j ≡ some b) ⊎ ((j ≡ length l) × (a ≡ b))
  at_push [] a b zero e = inr (refl, some-injective a b e)
  at_push [] a b (suc j) e = absurd (some-ne-none b (sym e))
  at_push (x ∷ xs) a b zero e = inl e
  at_push (x ∷ xs) a b (suc j) e = ⊎_elim inl (λ t. inr (ap suc t.0, t.1)) (at_push xs a b j e)

  -- both begin the longer one
  both_begin : (xs ys zs : List A) (b : Bool) → ((b ≡ true) × (length xs ≤ length ys)) ⊎ ((b ≡ false) × (length ys < length xs)) → IsPrefix xs zs → IsPrefix ys zs
      → IsPrefix xs (cond b ys xs) × IsPrefix ys (cond b ys xs) × IsPrefix (cond b ys xs) zs
  both_begin xs ys zs true t p q = (prefix_of_longer xs ys zs p q (⊎_elim (λ h. h.1) (λ h. absurd (cc (h.0))) t), prefix_self ys, q)
  both_begin xs ys zs false t p q = (prefix_self xs, prefix_of_longer ys xs zs q p (⊎_elim (λ h. absurd (cc (h.0))) (λ h. omega (arith, h.1)) t), p)

  pub longer_is : (xs ys zs : List A) → IsPrefix xs zs → IsPrefix ys zs → IsPrefix xs (longer xs ys) × IsPrefix ys (longer xs ys) × IsPrefix (longer xs ys) zs
  longer_is xs ys zs p q = both_begin xs ys zs (leb (length xs) (length ys)) (leb_tells (length xs) (length ys)) p q

module _ {I : Type 0} (maker : I → ℕ) where
  -- one item more of this number
  pub items_more : (n : ℕ) (log : List I) (x : I) → maker x ≡ n → items_of maker n (log ++ x ∷ []) ≡ items_of maker n log ++ x ∷ []
  items_more n log x e = filter-append (λ y. eqb (maker y) n) log (x ∷ []) ∙ ap (λ b. items_of maker n log ++ cond b (x ∷ []) []) (eq-eqb (maker x) n e)

  -- one item more of another number
  pub items_same : (n : ℕ) (log : List I) (x : I) → maker x ≢ n → items_of maker n (log ++ x ∷ []) ≡ items_of maker n log
  items_same n log x e = filter-append (λ y. eqb (maker y) n) log (x ∷ []) ∙ ap (λ b. items_of maker n log ++ cond b (x ∷ []) []) (ne_eqb (maker x) n e) ∙ append-nil (items_of maker n log)

module _ {R I : Type 0} where
  abbrev pub weight : View R I → ℕ
  weight v = cond (is_other v) 1 0

  pub others-set : (views : List (View R I)) (i : ℕ) (v w : View R I) → get_elem? views i ≡ some v → others_in (set views i w) + weight v ≡ others_in views + weight w
  others-set [] i v w e = absurd (some-ne-none v (sym e))
  others-set (u ∷ us) zero v w e =
      let same : weight u ≡ weight v = ap weight (some-injective u v e) in
      let a = sum_by-cons weight w us in
      let b = sum_by-cons weight u us in
      omega (arith, same, a, b)
  others-set (u ∷ us) (suc i) v w e =
      let a = sum_by-cons weight u (set us i w) in
      let b = sum_by-cons weight u us in
      omega (arith, others-set us i v w e, a, b)

  pub others-push : (views : List (View R I)) (w : View R I) → others_in (views ++ w ∷ []) ≡ others_in views + weight w
  others-push views w =
      let a = sum_by-append weight views (w ∷ []) in
      let b = sum_by-cons weight w [] in
      omega (arith, a, b)

  pub weight_other : (v : View R I) → v.is_live ≡ true → v.knowledge.number ≢ 0 → weight v ≡ 1
  weight_other v live other = ap (λ b. cond (b && not (eqb v.knowledge.number 0)) 1 0) live ∙ ap (λ b. cond (not b) 1 0) (ne_eqb v.knowledge.number 0 other)

  pub some_other : (views : List (View R I)) (i : ℕ) (v : View R I) → get_elem? views i ≡ some v → v.is_live ≡ true → v.knowledge.number ≢ 0 → 0 < others_in views
  some_other [] i v e live other = absurd (some-ne-none v (sym e))
  some_other (u ∷ us) zero v e live other =
      let same : weight u ≡ weight v = ap weight (some-injective u v e) in
      let one = weight_other v live other in
      let b = sum_by-cons weight u us in
      omega (arith, same, one, b)
  some_other (u ∷ us) (suc i) v e live other =
      let b = sum_by-cons weight u us in
      omega (arith, some_other us i v e live other, b)
