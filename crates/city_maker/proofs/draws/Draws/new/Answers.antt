use Rattle.city_maker.proofs.Common.{sym}
use Rattle.city_maker.proofs.DrawLemmas.{state_after-none}
use Rattle.city_maker.proofs.draws.Draws.new.Goals as goal

pub returns : goal.returns
returns c = sym (state_after-none c.args.seed)
