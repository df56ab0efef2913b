use Rattle.radix_queue.proofs.Common.{◌≡◌, [], sym, ◌∙◌, subst, list_at, IsLowest}
use Rattle.radix_queue.proofs.Marked.{empty-from_marks, lowest-from_marks, marked-first, nil-from_first, some-from_not_none}
use Rattle.radix_queue.proofs.buckets.Buckets.lowest.Goals as goal

pub returns-then-self-eq0-clause-none : goal.returns-then-self-eq0-clause-none
returns-then-self-eq0-clause-none c bucket =
    let first = nil-from_first (list_at c.self.inside.links 0) (sym c.first.ensures.first ∙ c.in_default.is) in
    subst (λ f. list_at f bucket ≡ []) c.self.view_is
    (empty-from_marks c.self.inside.links c.self.inside.filled c.if-self-eq0.true c.self.invariant.marks c.self.invariant.lists first bucket)

pub unwrap-first-requires : goal.unwrap-first-requires
unwrap-first-requires c =
    let mark = c.lowest_marked-bucket.ensures in
    some-from_not_none c.first-2.result (λ e.
    marked-first c.self.inside.links c.self.inside.filled c.lowest_marked-bucket.result c.self.invariant.marks mark.range.0 mark.range.1 mark.set
    (sym c.first-2.ensures.first ∙ e))

pub returns-clause-some : goal.returns-clause-some
returns-clause-some c =
    let first = nil-from_first (list_at c.self.inside.links 0) (sym c.first.ensures.first ∙ c.in_default.is) in
    let mark = c.lowest_marked-bucket.ensures in
    subst (λ f. IsLowest f c.lowest_marked-bucket.result c.unwrap-first.result) c.self.view_is
    (lowest-from_marks c.self.inside.links c.self.inside.filled c.lowest_marked-bucket.result c.unwrap-first.result c.self.invariant.marks first mark.range.0 mark.range.1 mark.below
    (sym c.first-2.ensures.first ∙ c.unwrap-first.ensures))
