use Rattle.link_lists.proofs.Common.{◌≡◌, ◌+◌, ap, ◌∙◌, Some, None, if◌then◌else◌, nat_lt, next_of}
use Rattle.link_lists.proofs.Kept.{first-read, held-read}
use Rattle.link_lists.proofs.Views.{shows-before}
use Rattle.link_lists.proofs.Links.first.Goals as goal

pub returns-clause-first : goal.returns-clause-first
returns-clause-first c =
    let s = shows-before c.self.inside.table.items c.self.inside.nodes c.args.self.now c.self.view_is c.self.invariant in
    let place : c.next.result ≡ next_of c.self.inside.table.items (c.args.self.now.nodes + c.args.list) =
    c.next.ensures ∙ ap (λ t. next_of t c.head_of-head.result) c.as_slice.ensures.value ∙ ap (next_of c.self.inside.table.items) c.head_of-head.ensures in
    c.node_at.ensures
    ∙ ap (λ p. if nat_lt p c.args.self.now.nodes then Some p else None) place
    ∙ first-read c.self.inside.table.items c.args.self.now s.keeps c.args.list c.requires

pub returns-clause-held : goal.returns-clause-held
returns-clause-held c = held-read c.args.self.now c.args.list 0 c.node_at.result (returns-clause-first c)
