use Rattle.link_lists.proofs.Common.{◌≡◌, ℕ, ◌+◌, ◌<◌, List, [], ◌∷◌, ◌++◌, length, sym, ap, ◌∙◌, subst, arith, inl, inr, cases_eq, get_or_append_left, get_or_push, length_push, Link, next_of, before_of, IsAlone}
use Rattle.link_lists.proofs.circles.alone.Goals as goal

alone-push : (xs : List Link) (n : ℕ) → length xs ≡ n → ((p : ℕ) → p < n → IsAlone xs p) → (p : ℕ) → p < n + 1 → IsAlone (xs ++ record { next = n; before = n } ∷ []) p
unfolding next_of before_of
alone-push xs n long alone p low =
    elim (cases_eq p n) [
      | inl e ↦ record {
        next = ap (λ x. x.next) (get_or_push xs (record { next = n; before = n }) _ p (long ∙ sym e)) ∙ sym e;
        before = ap (λ x. x.before) (get_or_push xs (record { next = n; before = n }) _ p (long ∙ sym e)) ∙ sym e;
      }
      | inr differs ↦ record {
        next = ap (λ x. x.next) (get_or_append_left xs _ _ p (omega arith)) ∙ (alone p (omega arith)).next;
        before = ap (λ x. x.before) (get_or_append_left xs _ _ p (omega arith)) ∙ (alone p (omega arith)).before;
      }
    ]

pub loop-place-preserved : goal.loop-place-preserved
loop-place-preserved c = record {
  long = ap length c.in_ok-push.ensures.items ∙ length_push c.loop-place.table.items _ ∙ ap (λ n. n + 1) c.loop-place.invariant.long;
  alone = λ p low. subst (λ xs. IsAlone xs p) (sym c.in_ok-push.ensures.items)
      (alone-push c.loop-place.table.items c.loop-place.place c.loop-place.invariant.long c.loop-place.invariant.alone p low);
}
