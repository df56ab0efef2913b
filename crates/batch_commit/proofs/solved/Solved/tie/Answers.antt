use Rattle.batch_commit.proofs.Common.{◌≡◌, ℕ, List, [], ◌∷◌, map, refl, ◌∙◌, ap, Outcome, amount_ids, undecided}
use Rattle.batch_commit.proofs.solved.Solved.tie.Goals as goal

ids-undecided : (prices : List (ℕ × ℕ)) → map (λ (item : ℕ × Outcome). item.0) (undecided prices) ≡ amount_ids prices
ids-undecided [] = refl
ids-undecided (item ∷ prices) = ap (λ rest. item.0 ∷ rest) (ids-undecided prices)

pub invariant_of-result : goal.invariant_of-result
invariant_of-result c = record {
  fits = c.requires.fits;
  certified = c.requires.certified;
  one_each = ap (map (λ (item : ℕ × Outcome). item.0)) c.requires.undecided ∙ ids-undecided c.args.answer.prices ∙ c.requires.certified.each_priced;
}
