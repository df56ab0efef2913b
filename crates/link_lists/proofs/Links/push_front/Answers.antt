use Rattle.link_lists.proofs.Common.{◌≡◌, ◌≢◌, ◌+◌, ◌∷◌, length, set, sym, ap, ◌∙◌, subst, arith, with_items, with_items_is, list_at, IsInserted, next_of, family_of}
use Rattle.link_lists.proofs.Kept.{with_lists, front-keeps, other-next}
use Rattle.link_lists.proofs.Views.{Shows, SetsList, shows-before, shows-after, keeps-shown, family-shown, sets-list}
use Rattle.link_lists.proofs.Links.push_front.Goals as goal

pub insert_behind-requires-clause-other_next : goal.insert_behind-requires-clause-other_next
insert_behind-requires-clause-other_next c =
    let s = shows-before c.self.inside.table.items c.self.inside.nodes c.args.self.now c.self.view_is c.self.invariant in
    let size = s.keeps.size in
    let list_in = c.requires.list_in in
    let node_in = c.requires.node_in in
    let head = c.head_of-head.ensures in
    subst (λ t. next_of t c.head_of-head.result ≢ c.args.node) (sym c.as_mut_slice.ensures.value)
    (other-next c.self.inside.table.items c.args.self.now s.keeps c.head_of-head.result c.args.node (omega arith) (omega arith) node_in c.requires.free)

after : (c : goal.After-self-1) → Shows (with_items c.self.inside.table c.insert_behind.new.table).items c.self.inside.nodes (with_lists c.args.self.now (set c.args.self.now.lists c.args.list (c.args.node ∷ list_at c.args.self.now c.args.list)))
after c =
    let s = shows-before c.self.inside.table.items c.self.inside.nodes c.args.self.now c.self.view_is c.self.invariant in
    let new = c.insert_behind.new.table in
    let behind_head = subst (λ p. IsInserted c.as_mut_slice.result.now new p c.args.node) c.head_of-head.ensures c.insert_behind.ensures in
    let inserted = subst (λ t. IsInserted t new (c.args.self.now.nodes + c.args.list) c.args.node) c.as_mut_slice.ensures.value behind_head in
    let long : length new ≡ length c.self.inside.table.items = c.insert_behind.auto.table ∙ ap length c.as_mut_slice.ensures.value in
    shows-after _ new c.self.inside.nodes _
    (with_items_is c.self.inside.table new (c.insert_behind.auto.table ∙ c.as_mut_slice.ensures.len)) s.nodes
    (front-keeps c.self.inside.table.items new c.args.self.now c.args.list c.args.node s.keeps inserted long c.requires.list_in c.requires.node_in c.requires.free)

changes : (c : goal.After-self-1) → SetsList c.args.self.now (family_of (with_items c.self.inside.table c.insert_behind.new.table).items c.self.inside.nodes) c.args.list (c.args.node ∷ list_at c.args.self.now c.args.list)
changes c = sets-list _ _ c.args.self.now c.args.list _ (after c) c.requires.list_in

pub invariant_of-self : goal.invariant_of-self
invariant_of-self c = keeps-shown _ _ _ (after c)

pub returns-clause-added : goal.returns-clause-added
returns-clause-added c = (changes c).changed

pub returns-clause-others : goal.returns-clause-others
returns-clause-others c = (changes c).others

pub returns-clause-size : goal.returns-clause-size
returns-clause-size c = (changes c).size

pub returns-clause-family : goal.returns-clause-family
returns-clause-family c = family-shown _ _ _ (after c)
