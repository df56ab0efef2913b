use Rattle.board_core.proofs.Common.{◌+◌, refl, ◌∙◌, ap, arith, take_all, sum_by-take-le, Entry, confirmed_total, is_confirmed, outcomes_in}
use Rattle.board_core.proofs.FewOutcomes.{sum-more}
use Rattle.board_core.proofs.board.totals.confirmed_in.Goals as goal

pub loop-entry-init : goal.loop-entry-init
loop-entry-init c = refl

pub overflow_add-sum : goal.overflow_add-sum
overflow_add-sum c = omega (
  arith,
  c.requires,
  c.loop-entry.invariant,
  c.confirmed_by-sum.ensures,
  sum-more (λ (e : Entry). outcomes_in is_confirmed e.event) c.args.entries.now c.loop-entry.entry-index c.entry-item.result c.loop-entry-test.true c.entry-item.is,
  sum_by-take-le (λ (e : Entry). outcomes_in is_confirmed e.event) c.args.entries.now (c.loop-entry.entry-index + 1),
)

pub loop-entry-preserved : goal.loop-entry-preserved
loop-entry-preserved c = omega (
  arith,
  c.loop-entry.invariant,
  c.confirmed_by-sum.ensures,
  sum-more (λ (e : Entry). outcomes_in is_confirmed e.event) c.args.entries.now c.loop-entry.entry-index c.entry-item.result c.loop-entry-test.true c.entry-item.is,
)

pub returns : goal.returns
returns c = c.loop-entry.invariant ∙ ap confirmed_total (take_all c.loop-entry.entry-index c.args.entries.now (omega (arith, c.loop-entry-test.false)))
