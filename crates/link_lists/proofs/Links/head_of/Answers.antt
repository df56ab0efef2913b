use Rattle.link_lists.proofs.Common.{◌+◌, ap, sym, arith}
use Rattle.link_lists.proofs.Views.{shows-before}
use Rattle.link_lists.proofs.Links.head_of.Goals as goal

pub overflow_add-result : goal.overflow_add-result
overflow_add-result c =
    let s = shows-before c.self.inside.table.items c.self.inside.nodes c.args.self.now c.self.view_is c.self.invariant in
    let size = s.keeps.size in
    let fits = s.keeps.fits in
    let nodes = s.nodes in
    let low = c.requires in
    omega arith

pub returns : goal.returns
returns c =
    let s = shows-before c.self.inside.table.items c.self.inside.nodes c.args.self.now c.self.view_is c.self.invariant in
    ap (λ n. n + c.args.list) (sym s.nodes)
