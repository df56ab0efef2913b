use Rattle.radix_queue.proofs.Common.{sym, ◌∙◌, subst, Contains, list_at}
use Rattle.radix_queue.proofs.Marked.{marked-emptied, marked-left, none-from_not_some, not_none-from_some}
use Rattle.radix_queue.proofs.buckets.Buckets.remove.Goals as goal

pub invariant_of-self : goal.invariant_of-self
invariant_of-self c =
    let old = c.self.inside.links in
    let new = c.unlink.new.self in
    let here = subst (λ f. Contains (list_at f c.args.bucket) c.args.node) (sym c.self.view_is) c.requires.here in
    let empty = sym c.first.ensures.first ∙ none-from_not_some c.first.result c.if-is_none.ensures in
    record {
      family = c.unlink.ensures.family;
      lists = c.unlink.ensures.size.lists ∙ c.self.invariant.lists;
      marks = marked-emptied old new c.self.inside.filled c.unmarked-self-inside.result c.args.bucket c.args.node c.self.invariant.family c.self.invariant.marks here c.unlink.ensures.taken_out empty c.unmarked-self-inside.ensures.cleared c.unmarked-self-inside.ensures.others;
    }

pub invariant_of-self-else-is_none : goal.invariant_of-self-else-is_none
invariant_of-self-else-is_none c =
    let old = c.self.inside.links in
    let new = c.unlink.new.self in
    let here = subst (λ f. Contains (list_at f c.args.bucket) c.args.node) (sym c.self.view_is) c.requires.here in
    let left = not_none-from_some c.first.result c.if-is_none.ensures in
    record {
      family = c.unlink.ensures.family;
      lists = c.unlink.ensures.size.lists ∙ c.self.invariant.lists;
      marks = marked-left old new c.self.inside.filled c.args.bucket c.args.node c.self.invariant.family c.self.invariant.marks here c.unlink.ensures.taken_out (λ e. left (c.first.ensures.first ∙ e));
    }
