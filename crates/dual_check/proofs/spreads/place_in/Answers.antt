use Rattle.dual_check.proofs.Common.{◌==◌, ◌∙◌, ap, unwrap_or, rules, tests}
use Rattle.std.proofs.lemmas.Iterator.{YieldsList-from_slice}
use Rattle.std.proofs.lemmas.Iterator.Search.{position_from_yields_List}
use Rattle.dual_check.proofs.spreads.place_in.Goals as goal

pub returns : goal.returns
returns c =
    c.unwrap_or.ensures
    ∙ ap (λ o. unwrap_or o 0)
    (position_from_yields_List (λ other. other == c.args.id) _ _ _ c.position.ensures.ran
    (YieldsList-from_slice c.args.fleet.now cc)
    (λ x b q k. search (rules, tests)))
