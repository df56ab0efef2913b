-- What holds of the first of a list, where one more is added behind them.
use Rattle.pricing_workers.proofs.Common.{◌≡◌, ℕ, ◌+◌, ◌≤◌, List, [], ◌∷◌, ◌++◌, length, take, sym, ap, ◌∙◌, subst, arith, length-append, All, take_all, All-append, All-from_recursion}

-- it holds of one element more
pub all-added : {X : Type 0} (P : X → Type 0) (count : ℕ) (old new : List X) (own : X) → length old ≤ count → new ≡ old ++ own ∷ []
    → All P (take count old) → P own → All P (take (count + 1) new)
all-added P count old new own all is each one =
    let long : length new ≤ count + 1 = omega (arith, all, ap length is, length-append old (own ∷ [])) in
    subst (All P) (sym (take_all (count + 1) new long ∙ is))
    (All-append P old (own ∷ []) (subst (All P) (take_all count old all) each) (All-from_recursion P (own ∷ []) (one, tt)))
