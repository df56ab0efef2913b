use Rattle.link_lists.proofs.Common.{◌+◌, ◌<◌, ◌^◌, ap, ◌∙◌, subst, refl, sym}
use Rattle.std.specs.Option.{SomeIff}
use Rattle.link_lists.proofs.Kept.{empty_family, empty-keeps}
use Rattle.link_lists.proofs.Views.{Shows, shows-after, keeps-shown, family-shown, family_of-nodes}
use Rattle.link_lists.proofs.Links.new.Goals as goal

made : (c : goal.In_ok-table) → Shows c.in_ok-table.table.items c.args.nodes (empty_family c.args.nodes c.args.lists)
made c =
    let n = c.args.nodes in
    let m = c.args.lists in
    let sum = subst (λ o. SomeIff o (n + m < 2 ^ 32) (n + m)) c.in_ok-places.ensures.ok_part c.checked_add.ensures in
    let alone = c.in_ok-table.ensures.alone in
    shows-after _ c.in_ok-table.table.items n (empty_family n m) refl refl
    (empty-keeps c.in_ok-table.table.items n m (c.in_ok-table.ensures.places ∙ sum.1) sum.0
    (λ p low. alone p (subst (λ i. p < i) (sym sum.1) low)))

pub invariant_of-result : goal.invariant_of-result
invariant_of-result c = keeps-shown _ _ _ (made c)

pub returns-clause-nodes : goal.returns-clause-nodes
returns-clause-nodes c = family_of-nodes c.in_ok-table.table.items c.args.nodes

pub returns-clause-empty : goal.returns-clause-empty
returns-clause-empty c = ap (λ f. f.lists) (made c).is

pub returns-clause-family : goal.returns-clause-family
returns-clause-family c = family-shown _ _ _ (made c)
