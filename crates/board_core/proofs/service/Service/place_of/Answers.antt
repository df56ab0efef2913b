use Rattle.board_core.proofs.Common.{◌≡◌, ◌<◌, None, length, get_or, eqb, sym, ◌∙◌, ap, subst, Some, MatchOption, position, Vehicle, placed_in}
use Rattle.board_core.proofs.Placed.{placed-within, placed-there}
use Rattle.board_core.proofs.service.Service.place_of.Goals as goal

pub returns-clause-within : goal.returns-clause-within
returns-clause-within c =
    let vehicles = c.args.self.now.vehicles.items in
    subst (λ o. MatchOption o (placed_in vehicles c.args.id ≡ None) (λ place. place < length vehicles))
    (sym (c.of.ensures ∙ ap (position (eqb c.args.id)) c.requires)) (placed-within vehicles c.args.id)

pub returns-clause-placed : goal.returns-clause-placed
returns-clause-placed c =
    let vehicles = c.args.self.now.vehicles.items in
    subst (λ o. MatchOption o (placed_in vehicles c.args.id ≡ None)
    (λ place. (v : Vehicle) → placed_in vehicles c.args.id ≡ Some (place, get_or vehicles place v)))
    (sym (c.of.ensures ∙ ap (position (eqb c.args.id)) c.requires)) (placed-there vehicles c.args.id)
