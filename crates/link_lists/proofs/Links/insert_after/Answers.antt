use Rattle.link_lists.proofs.Common.{◌≡◌, ◌≢◌, ◌<◌, length, map, sym, ap, ◌∙◌, subst, refl, with_items, with_items_is, IsHeld, with_behind, IsInserted, next_of, family_of}
use Rattle.link_lists.proofs.Kept.{with_lists, behind-keeps, held-in, other-next}
use Rattle.link_lists.proofs.Views.{Shows, ChangesLists, shows-before, shows-after, keeps-shown, family-shown, changes-lists}
use Rattle.link_lists.proofs.Links.insert_after.Goals as goal

pub insert_behind-requires-clause-place_in : goal.insert_behind-requires-clause-place_in
insert_behind-requires-clause-place_in c =
    let s = shows-before c.self.inside.table.items c.self.inside.nodes c.args.self.now c.self.view_is c.self.invariant in
    subst (λ t. c.args.place < length t) (sym c.as_mut_slice.ensures.value)
    (held-in c.self.inside.table.items c.args.self.now s.keeps c.args.place c.requires.place_in)

pub insert_behind-requires-clause-next_in : goal.insert_behind-requires-clause-next_in
insert_behind-requires-clause-next_in c =
    let s = shows-before c.self.inside.table.items c.self.inside.nodes c.args.self.now c.self.view_is c.self.invariant in
    subst (λ t. next_of t c.args.place < length t) (sym c.as_mut_slice.ensures.value)
    (s.keeps.next_in c.args.place (held-in c.self.inside.table.items c.args.self.now s.keeps c.args.place c.requires.place_in))

pub insert_behind-requires-clause-other_next : goal.insert_behind-requires-clause-other_next
insert_behind-requires-clause-other_next c =
    let s = shows-before c.self.inside.table.items c.self.inside.nodes c.args.self.now c.self.view_is c.self.invariant in
    subst (λ t. next_of t c.args.place ≢ c.args.node) (sym c.as_mut_slice.ensures.value)
    (other-next c.self.inside.table.items c.args.self.now s.keeps c.args.place c.args.node
    (held-in c.self.inside.table.items c.args.self.now s.keeps c.args.place c.requires.place_in)
    (λ e. c.requires.free (subst (IsHeld c.args.self.now) e c.requires.place_in)) c.requires.node_in c.requires.free)

after : (c : goal.After-self-1) → Shows (with_items c.self.inside.table c.insert_behind.new.table).items c.self.inside.nodes (with_lists c.args.self.now (map (with_behind c.args.place c.args.node) c.args.self.now.lists))
after c =
    let s = shows-before c.self.inside.table.items c.self.inside.nodes c.args.self.now c.self.view_is c.self.invariant in
    let new = c.insert_behind.new.table in
    let inserted = subst (λ t. IsInserted t new c.args.place c.args.node) c.as_mut_slice.ensures.value c.insert_behind.ensures in
    let long : length new ≡ length c.self.inside.table.items = c.insert_behind.auto.table ∙ ap length c.as_mut_slice.ensures.value in
    shows-after _ new c.self.inside.nodes _
    (with_items_is c.self.inside.table new (c.insert_behind.auto.table ∙ c.as_mut_slice.ensures.len)) s.nodes
    (behind-keeps c.self.inside.table.items new c.args.self.now c.args.place c.args.node s.keeps inserted long c.requires.place_in c.requires.node_in c.requires.free)

changes : (c : goal.After-self-1) → ChangesLists c.args.self.now (family_of (with_items c.self.inside.table c.insert_behind.new.table).items c.self.inside.nodes) (with_behind c.args.place c.args.node)
changes c = changes-lists _ _ c.args.self.now (with_behind c.args.place c.args.node) refl (after c)

pub invariant_of-self : goal.invariant_of-self
invariant_of-self c = keeps-shown _ _ _ (after c)

pub returns-clause-added : goal.returns-clause-added
returns-clause-added c = (changes c).changed

pub returns-clause-size : goal.returns-clause-size
returns-clause-size c = (changes c).size

pub returns-clause-family : goal.returns-clause-family
returns-clause-family c = family-shown _ _ _ (after c)
