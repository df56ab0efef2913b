-- The upper ends of one level, as a part of all.
use Rattle.adaptive_roads.proofs.Common.{◌≡◌, ℕ, ◌+◌, ◌-◌, ◌<◌, List, length, ◌∙◌, ap, arith, slice_range, Upper, start_at, IsIn, AreParts, no_upper, upper_at}
use Rattle.adaptive_roads.proofs.road_hierarchy.Parts.{slice-at, length-slice}

pub record IsPart (starts : List ℕ) (uppers part : List Upper) (level : ℕ) : Type 0 where
  pub long : length part ≡ start_at starts (level + 1) - start_at starts level
  pub entry : (k : ℕ) → k < length part → upper_at part k ≡ upper_at uppers (start_at starts level + k)
  pub at : (k : ℕ) → k < length part → IsIn starts level (start_at starts level + k)

pub part-of : (many level : ℕ) (starts : List ℕ) (uppers part : List Upper) → AreParts many starts (length uppers) → level < many
    → part ≡ slice_range uppers (start_at starts level) (start_at starts (level + 1)) → IsPart starts uppers part level
part-of many level starts uppers part parts low is = record {
  long = long;
  entry = λ k k_low.
      ap (λ us. upper_at us k) is
      ∙ slice-at uppers (start_at starts level) (start_at starts (level + 1)) k no_upper (omega (arith, long));
  at = λ k k_low. record { from = omega arith; to = omega (arith, long) };
}
  where
    long : length part ≡ start_at starts (level + 1) - start_at starts level
    long =
        ap (λ (us : List Upper). length us) is
        ∙ length-slice uppers (start_at starts level) (start_at starts (level + 1)) (parts.rises level low) (parts.within (level + 1) (omega arith))
