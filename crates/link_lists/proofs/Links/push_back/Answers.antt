use Rattle.link_lists.proofs.Common.{◌≡◌, ◌+◌, [], ◌∷◌, ◌++◌, length, set, ap, ◌∙◌, subst, with_items, with_items_is, list_at, IsInserted, before_of, family_of}
use Rattle.link_lists.proofs.Kept.{with_lists, back-keeps}
use Rattle.link_lists.proofs.Views.{Shows, SetsList, shows-before, shows-after, keeps-shown, family-shown, sets-list}
use Rattle.link_lists.proofs.Links.push_back.Goals as goal

after : (c : goal.After-self-1) → Shows (with_items c.self.inside.table c.insert_behind.new.table).items c.self.inside.nodes (with_lists c.args.self.now (set c.args.self.now.lists c.args.list (list_at c.args.self.now c.args.list ++ c.args.node ∷ [])))
after c =
    let s = shows-before c.self.inside.table.items c.self.inside.nodes c.args.self.now c.self.view_is c.self.invariant in
    let new = c.insert_behind.new.table in
    let last : c.before-last.result ≡ before_of c.self.inside.table.items (c.args.self.now.nodes + c.args.list) =
    c.before-last.ensures ∙ ap (λ t. before_of t c.head_of-head.result) c.as_slice.ensures.value ∙ ap (before_of c.self.inside.table.items) c.head_of-head.ensures in
    let behind_last = subst (λ p. IsInserted c.as_mut_slice.result.now new p c.args.node) last c.insert_behind.ensures in
    let inserted = subst (λ t. IsInserted t new (before_of c.self.inside.table.items (c.args.self.now.nodes + c.args.list)) c.args.node) c.as_mut_slice.ensures.value behind_last in
    let long : length new ≡ length c.self.inside.table.items = c.insert_behind.auto.table ∙ ap length c.as_mut_slice.ensures.value in
    shows-after _ new c.self.inside.nodes _
    (with_items_is c.self.inside.table new (c.insert_behind.auto.table ∙ c.as_mut_slice.ensures.len)) s.nodes
    (back-keeps c.self.inside.table.items new c.args.self.now c.args.list c.args.node s.keeps inserted long c.requires.list_in c.requires.node_in c.requires.free)

changes : (c : goal.After-self-1) → SetsList c.args.self.now (family_of (with_items c.self.inside.table c.insert_behind.new.table).items c.self.inside.nodes) c.args.list (list_at c.args.self.now c.args.list ++ c.args.node ∷ [])
changes c = sets-list _ _ c.args.self.now c.args.list _ (after c) c.requires.list_in

pub invariant_of-self : goal.invariant_of-self
invariant_of-self c = keeps-shown _ _ _ (after c)

pub returns-clause-added : goal.returns-clause-added
returns-clause-added c = (changes c).changed

pub returns-clause-others : goal.returns-clause-others
returns-clause-others c = (changes c).others

pub returns-clause-size : goal.returns-clause-size
returns-clause-size c = (changes c).size

pub returns-clause-family : goal.returns-clause-family
returns-clause-family c = family-shown _ _ _ (after c)
