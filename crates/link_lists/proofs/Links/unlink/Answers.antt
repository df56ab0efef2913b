use Rattle.link_lists.proofs.Common.{◌≡◌, length, map, sym, ap, ◌∙◌, subst, refl, with_items, with_items_is, without, IsTakenOut, family_of}
use Rattle.link_lists.proofs.Kept.{with_lists, out-keeps, held-in, held-moves, held-before}
use Rattle.link_lists.proofs.Views.{Shows, ChangesLists, shows-before, shows-after, keeps-shown, family-shown, changes-lists}
use Rattle.link_lists.proofs.Links.unlink.Goals as goal

before : (c : goal.After-as_mut_slice) → Shows c.as_mut_slice.result.now c.self.inside.nodes c.args.self.now
before c = subst (λ t. Shows t c.self.inside.nodes c.args.self.now) (sym c.as_mut_slice.ensures.value)
    (shows-before c.self.inside.table.items c.self.inside.nodes c.args.self.now c.self.view_is c.self.invariant)

pub take_out-requires-clause-node_in : goal.take_out-requires-clause-node_in
take_out-requires-clause-node_in c = held-in _ c.args.self.now (before c).keeps c.args.node c.requires

pub take_out-requires-clause-next_in : goal.take_out-requires-clause-next_in
take_out-requires-clause-next_in c = (before c).keeps.next_in c.args.node (held-in _ c.args.self.now (before c).keeps c.args.node c.requires)

pub take_out-requires-clause-before_in : goal.take_out-requires-clause-before_in
take_out-requires-clause-before_in c = (before c).keeps.before_in c.args.node (held-in _ c.args.self.now (before c).keeps c.args.node c.requires)

pub take_out-requires-clause-other_next : goal.take_out-requires-clause-other_next
take_out-requires-clause-other_next c = held-moves _ c.args.self.now (before c).keeps c.args.node c.requires

pub take_out-requires-clause-other_before : goal.take_out-requires-clause-other_before
take_out-requires-clause-other_before c = held-before _ c.args.self.now (before c).keeps c.args.node c.requires

after : (c : goal.After-self-1) → Shows (with_items c.self.inside.table c.take_out.new.table).items c.self.inside.nodes (with_lists c.args.self.now (map (without c.args.node) c.args.self.now.lists))
after c =
    let s = shows-before c.self.inside.table.items c.self.inside.nodes c.args.self.now c.self.view_is c.self.invariant in
    let new = c.take_out.new.table in
    let taken = subst (λ t. IsTakenOut t new c.args.node) c.as_mut_slice.ensures.value c.take_out.ensures in
    let long : length new ≡ length c.self.inside.table.items = c.take_out.auto.table ∙ ap length c.as_mut_slice.ensures.value in
    shows-after _ new c.self.inside.nodes _
    (with_items_is c.self.inside.table new (c.take_out.auto.table ∙ c.as_mut_slice.ensures.len)) s.nodes
    (out-keeps c.self.inside.table.items new c.args.self.now c.args.node s.keeps taken long c.requires)

changes : (c : goal.After-self-1) → ChangesLists c.args.self.now (family_of (with_items c.self.inside.table c.take_out.new.table).items c.self.inside.nodes) (without c.args.node)
changes c = changes-lists _ _ c.args.self.now (without c.args.node) refl (after c)

pub invariant_of-self : goal.invariant_of-self
invariant_of-self c = keeps-shown _ _ _ (after c)

pub returns-clause-taken_out : goal.returns-clause-taken_out
returns-clause-taken_out c = (changes c).changed

pub returns-clause-size : goal.returns-clause-size
returns-clause-size c = (changes c).size

pub returns-clause-family : goal.returns-clause-family
returns-clause-family c = family-shown _ _ _ (after c)
