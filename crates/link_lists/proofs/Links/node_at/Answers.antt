use Rattle.link_lists.proofs.Common.{arith, nat_tests}
use Rattle.link_lists.proofs.Views.{shows-before}
use Rattle.link_lists.proofs.Links.node_at.Goals as goal

pub returns-then-place-self : goal.returns-then-place-self
returns-then-place-self c =
    let s = shows-before c.self.inside.table.items c.self.inside.nodes c.args.self.now c.self.view_is c.self.invariant in
    let nodes = s.nodes in
    grind (arith, nat_tests)

pub returns-else-place-self : goal.returns-else-place-self
returns-else-place-self c =
    let s = shows-before c.self.inside.table.items c.self.inside.nodes c.args.self.now c.self.view_is c.self.invariant in
    let nodes = s.nodes in
    grind (arith, nat_tests)
