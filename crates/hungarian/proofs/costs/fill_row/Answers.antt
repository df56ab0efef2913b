use Rattle.hungarian.proofs.Common.{◌≡◌, ◌+◌, inl, inr, sym, ◌∙◌, subst, arith, None}
use Rattle.hungarian.proofs.Mated.{cases_mate}
use Rattle.hungarian.proofs.Filling.{IsFilling, filling-none, filling-some}
use Rattle.hungarian.proofs.costs.fill_row.Goals as goal
use Rattle.hungarian.proofs.costs.fill_row.Goals.{in-Some, in_default}

pub loop-column-preserved : goal.loop-column-preserved
loop-column-preserved c =
    let old = c.args.grid.now in
    let now = c.loop-column.grid in
    let table = c.args.table.now in
    let f = c.loop-column.invariant in
    let column = c.loop-column.column in
    let filling = IsFilling table c.args.row c.args.columns (column + 1) old in
    elim c.match-cost_at.branch [
      | in-Some w ↦ subst filling (sym (w.grid-is ∙ w.set.ensures))
          (filling-some table c.args.row c.args.columns column w.in-Some.cost old now f c.loop-column-test.true
          (omega (arith, c.requires.row_in, f.rows)) (f.columns_are ∙ sym c.requires.columns_are)
          (sym c.cost_at.ensures ∙ w.in-Some.is))
      | in_default w ↦
          let none : c.cost_at.result ≡ None = elim (cases_mate c.cost_at.result) [
            | inl none ↦ none
            | inr some ↦ absurd (w.in_default.not-Some some.0 some.1)
          ] in
          subst filling (sym w.grid-is)
          (filling-none table c.args.row c.args.columns column old now f c.loop-column-test.true (sym c.cost_at.ensures ∙ none))
    ]
