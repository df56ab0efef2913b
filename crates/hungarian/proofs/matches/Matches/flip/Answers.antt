use Rattle.hungarian.proofs.Common.{◌≡◌, set, sym, ap, ◌∙◌, inl, inr, arith, Some, None, get_or_read, mate}
use Rattle.hungarian.proofs.Mated.{cases_mate}
use Rattle.hungarian.proofs.Flipping.{flipping-row, flipping-earlier, flipping-more, flipping-all}
use Rattle.hungarian.proofs.matches.Matches.flip.Goals as goal

pub index-requires : goal.index-requires
index-requires c =
    let (root, ready) = c.requires in
    let left = (c.loop-next.invariant root ready).left in
    omega (arith, left.last_in, left.sources_each, c.args.search.now.sources.ok.0)

pub pair-requires-clause-row_in : goal.pair-requires-clause-row_in
pair-requires-clause-row_in c =
    let (root, ready) = c.requires in
    let left = (c.loop-next.invariant root ready).left in
    let row_is = get_or_read c.args.search.now.sources.items _ _
    (omega (arith, left.last_in, left.sources_each)) c.index.ensures 0 in
    omega (arith, row_is, flipping-row c.args.search.now root c.loop-next.column c.loop-next.self left)

pub loop-next-smaller : goal.loop-next-smaller
loop-next-smaller c =
    let (root, ready) = c.requires in
    let left = (c.loop-next.invariant root ready).left in
    let row_is = get_or_read c.args.search.now.sources.items _ _
    (omega (arith, left.last_in, left.sources_each)) c.index.ensures 0 in
    (flipping-earlier c.args.search.now root c.loop-next.column c.in-Some.next c.loop-next.self left
    (ap (mate c.loop-next.self.columns.items) (sym row_is) ∙ sym c.pair.ensures.had ∙ c.in-Some.is)).1

pub loop-next-preserved : goal.loop-next-preserved
loop-next-preserved c = λ root ready.
    let f = c.loop-next.invariant root ready in
    let now = c.loop-next.self in
    let column = c.loop-next.column in
    let row_is = get_or_read c.args.search.now.sources.items _ _
    (omega (arith, f.left.last_in, f.left.sources_each)) c.index.ensures 0 in
    flipping-more c.args.search.now root column c.in-Some.next c.args.self.now now c.pair.new.self f
    (ap (mate now.columns.items) (sym row_is) ∙ sym c.pair.ensures.had ∙ c.in-Some.is)
    (c.pair.ensures.columns ∙ ap (λ row. set now.columns.items row (Some column)) row_is)
    (c.pair.ensures.rows ∙ ap (λ row. set now.rows.items column (Some row)) row_is)

pub returns : goal.returns
returns c = λ root ready.
    let f = c.loop-next.invariant root ready in
    let now = c.loop-next.self in
    let column = c.loop-next.column in
    let row_is = get_or_read c.args.search.now.sources.items _ _
    (omega (arith, f.left.last_in, f.left.sources_each)) c.index.ensures 0 in
    let none : c.pair.result ≡ None = elim (cases_mate c.pair.result) [
      | inl none ↦ none
      | inr some ↦ absurd (c.in_default.not-Some some.0 some.1)
    ] in
    flipping-all c.args.search.now root column c.args.self.now now c.pair.new.self f
    (ap (mate now.columns.items) (sym row_is) ∙ sym c.pair.ensures.had ∙ none)
    (c.pair.ensures.columns ∙ ap (λ row. set now.columns.items row (Some column)) row_is)
    (c.pair.ensures.rows ∙ ap (λ row. set now.rows.items column (Some row)) row_is)
