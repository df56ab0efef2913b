use Rattle.city_maker.proofs.Common.{refl, state_after, draw_at}
use Rattle.city_maker.proofs.laws.seed_1_draws_known_numbers.Goals as goal

pub returns : goal.returns
unfolding state_after draw_at
returns c = refl
