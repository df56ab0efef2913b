use Rattle.adaptive_roads.proofs.Common.{inl, inr, subst, arith, cases_eq, Contains-get_or, IsCovered}
use Rattle.adaptive_roads.proofs.contraction.Growths.{outgoing-wider, shortcuts-append, covered-wider, at_loop}
use Rattle.adaptive_roads.proofs.contraction.shortcuts.cover.Goals as goal

pub cover_pair-requires-clause-onward : goal.cover_pair-requires-clause-onward
cover_pair-requires-clause-onward c =
    outgoing-wider c.args.node c.args.graph.now c.loop-onward.graph _ c.loop-onward.invariant.grown
    (c.requires.outs _ (Contains-get_or c.args.outs.now c.loop-onward.onward-index _ c.loop-onward-test.true))

pub returns-in_err-cover_pair-clause-grown : goal.returns-in_err-cover_pair-clause-grown
returns-in_err-cover_pair-clause-grown c =
    shortcuts-append c.args.node c.args.graph.now c.loop-onward.graph c.cover_pair.new.graph c.loop-onward.invariant.grown c.cover_pair.ensures.grown

pub returns-then-not-branch-clause-grown : goal.returns-then-not-branch-clause-grown
returns-then-not-branch-clause-grown c =
    shortcuts-append c.args.node c.args.graph.now c.loop-onward.graph c.cover_pair.new.graph c.loop-onward.invariant.grown c.cover_pair.ensures.grown

pub loop-onward-preserved : goal.loop-onward-preserved
loop-onward-preserved c = record {
  graph = c.cover_pair.ensures.graph;
  grown = shortcuts-append c.args.node c.args.graph.now c.loop-onward.graph c.cover_pair.new.graph c.loop-onward.invariant.grown c.cover_pair.ensures.grown;
  covered = λ place onward below is. elim (cases_eq place c.loop-onward.onward-index) [
    | inl same ↦
        subst (IsCovered c.cover_pair.new.graph c.args.node c.args.into)
        (at_loop c.args.outs.now c.loop-onward.onward-index place _ onward same c.loop-onward-test.true is)
        (c.in_ok-cover_pair.ensures.covered c.if-not-branch.false)
    | inr differs ↦
        covered-wider c.args.node c.loop-onward.graph c.cover_pair.new.graph c.args.into onward c.cover_pair.ensures.grown
        (c.loop-onward.invariant.covered place onward (omega arith) is)
  ];
}
