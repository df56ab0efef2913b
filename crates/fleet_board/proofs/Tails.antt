-- Entries from a place on.
use Rattle.fleet_board.proofs.Common.{◌≡◌, ℕ, ◌+◌, ◌-◌, ◌≤◌, ◌<◌, List, length, take, drop, sym, ap, ◌∙◌, ◌⊎◌, inl, inr, arith, length-drop, min, take_min, drop_all}
use Rattle.model_laws.proofs.plain.Numbers.{le_or_lt}

-- the elements of a list between a place within it and one as far behind as may be
pub slice-tail : {X : Type 0} (from most start many : ℕ) (xs : List X) → start ≡ min from (length xs) → many ≡ min most (length xs - start)
    → take (start + many - start) (drop start xs) ≡ take most (drop from xs)
slice-tail from most start many xs start_is many_is =
    ap (λ n. take n (drop start xs)) (size start many) ∙ ap (λ n. take n (drop start xs)) (many_is ∙ ap (min most) (sym (length-drop start xs)))
    ∙ take_min most (drop start xs) ∙ by_place (le_or_lt from (length xs))
  where
    size : (a b : ℕ) → a + b - a ≡ b
    size a b = omega arith

    by_place : ((from ≤ length xs) ⊎ (length xs < from)) → take most (drop start xs) ≡ take most (drop from xs)
    by_place (inl low) = ap (λ n. take most (drop n xs)) (omega (arith, start_is, low))
    by_place (inr high) = ap (take most) (drop_all start xs (omega (arith, start_is, high)) ∙ sym (drop_all from xs (omega (arith, high))))
