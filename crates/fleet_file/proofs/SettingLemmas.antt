-- The values of settings are in their ranges.
use Rattle.fleet_file.proofs.Common.{zero, suc, None, refl, arith, map, Setting, all_settings, AreInRange}

-- where no line sets them
pub defaults-in_range : AreInRange (map (λ (s : Setting). None) all_settings)
defaults-in_range zero below = refl
defaults-in_range (suc zero) below = refl
defaults-in_range (suc (suc zero)) below = refl
defaults-in_range (suc (suc (suc zero))) below = refl
defaults-in_range (suc (suc (suc (suc zero)))) below = refl
defaults-in_range (suc (suc (suc (suc (suc zero))))) below = refl
defaults-in_range (suc (suc (suc (suc (suc (suc zero)))))) below = refl
defaults-in_range (suc (suc (suc (suc (suc (suc (suc n))))))) below = absurd (omega arith)
