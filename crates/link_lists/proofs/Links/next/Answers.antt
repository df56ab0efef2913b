use Rattle.link_lists.proofs.Common.{◌≡◌, ◌+◌, ◌<◌, length, sym, ap, ◌∙◌, subst, Some, None, if◌then◌else◌, nat_lt, slice_get-get_or, list_at, next_of}
use Rattle.link_lists.proofs.Kept.{held-in, next-read, held-read}
use Rattle.link_lists.proofs.Views.{shows-before}
use Rattle.link_lists.proofs.Links.next.Goals as goal

pub next-requires : goal.next-requires
next-requires c =
    let s = shows-before c.self.inside.table.items c.self.inside.nodes c.args.self.now c.self.view_is c.self.invariant in
    subst (λ t. c.args.node < length t) (sym c.as_slice.ensures.value)
    (held-in c.self.inside.table.items c.args.self.now s.keeps c.args.node c.requires)

pub returns-clause-next : goal.returns-clause-next
returns-clause-next c list place h =
    let s = shows-before c.self.inside.table.items c.self.inside.nodes c.args.self.now c.self.view_is c.self.invariant in
    let behind : c.next.result ≡ next_of c.self.inside.table.items c.args.node =
    c.next.ensures ∙ ap (λ t. next_of t c.args.node) c.as_slice.ensures.value in
    c.node_at.ensures
    ∙ ap (λ p. if nat_lt p c.args.self.now.nodes then Some p else None) behind
    ∙ next-read c.self.inside.table.items c.args.self.now s.keeps list place c.args.node h

pub returns-clause-held : goal.returns-clause-held
returns-clause-held c =
    let (list, (place, low, here)) = c.requires in
    let nodes = list_at c.args.self.now list in
    held-read c.args.self.now list (place + 1) c.node_at.result
    (returns-clause-next c list place (slice_get-get_or nodes place c.args.node low ∙ ap Some here))
