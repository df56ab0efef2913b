use Rattle.turn_lock.proofs.Common.{ℕ, List, Option, Some, [], ◌∷◌, ◌++◌, refl, sym, ap, subst, ◌∙◌, opening, IsKept, first_view}
use Rattle.turn_lock.proofs.Entering.{starts}
use Rattle.turn_lock.proofs.lock.TurnLock.new.Goals as goal

pub new-requires : goal.new-requires
new-requires g c =
    let t = g.T.Chronicle in
    let Keeps : g.row.T.Denot → ℕ → Type 0 = λ value items. IsKept t.root t.history t.maker (t.root value)
    (opening (items ∷ 0 ∷ []) c.push.new.self.items (first_view t.maker (t.root value) (t.history value) c.args.passes)) in
    subst (λ value. Keeps value c.args.items) (sym c.of.ensures)
    (subst (Keeps c.args.value) (sym c.requires.items)
    (starts t.root t.history t.maker (t.root c.args.value) c.args.value c.push.new.self.items c.args.passes refl
    (c.in_ok-push.ensures.items ∙ ap (λ (l : List (Option g.row.T.Denot)). l ++ Some c.args.value ∷ []) c.in_ok-slots.ensures.items)))
