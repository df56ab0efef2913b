use Rattle.adaptive_roads.proofs.Common.{inl, inr, ap, subst, arith, is_some, cases_eq, Contains-get_or, IsCovered}
use Rattle.adaptive_roads.proofs.contraction.Growths.{incoming-wider, outgoing-wider, shortcuts-append, covered-wider, at_loop}
use Rattle.adaptive_roads.proofs.contraction.shortcuts.cover_all.Goals as goal

pub cover-requires-clause-into : goal.cover-requires-clause-into
cover-requires-clause-into c =
    incoming-wider c.args.node c.args.graph.now c.loop-into.graph _ c.loop-into.invariant.grown
    (c.requires.ins _ (Contains-get_or c.args.ins.now c.loop-into.into-index _ c.loop-into-test.true))

pub cover-requires-clause-outs : goal.cover-requires-clause-outs
cover-requires-clause-outs c = λ onward there.
    outgoing-wider c.args.node c.args.graph.now c.loop-into.graph onward c.loop-into.invariant.grown (c.requires.outs onward there)

pub returns-in_err-looked-clause-grown : goal.returns-in_err-looked-clause-grown
returns-in_err-looked-clause-grown c =
    shortcuts-append c.args.node c.args.graph.now c.loop-into.graph c.cover.new.graph c.loop-into.invariant.grown c.cover.ensures.grown

pub returns-in_default-clause-grown : goal.returns-in_default-clause-grown
returns-in_default-clause-grown c =
    shortcuts-append c.args.node c.args.graph.now c.loop-into.graph c.cover.new.graph c.loop-into.invariant.grown c.cover.ensures.grown

pub loop-into-preserved : goal.loop-into-preserved
loop-into-preserved c = record {
  graph = c.cover.ensures.graph;
  room = c.cover.ensures.room;
  grown = shortcuts-append c.args.node c.args.graph.now c.loop-into.graph c.cover.new.graph c.loop-into.invariant.grown c.cover.ensures.grown;
  covered = λ place into onward below is there. elim (cases_eq place c.loop-into.into-index) [
    | inl same ↦
        subst (λ n. IsCovered c.cover.new.graph c.args.node n onward)
        (at_loop c.args.ins.now c.loop-into.into-index place _ into same c.loop-into-test.true is)
        (c.in_ok-looked.ensures.covered (ap is_some c.in-Some.is) _ there)
    | inr differs ↦
        covered-wider c.args.node c.loop-into.graph c.cover.new.graph into onward c.cover.ensures.grown
        (c.loop-into.invariant.covered place into onward (omega arith) is there)
  ];
}
