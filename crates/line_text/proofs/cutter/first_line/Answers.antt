use Rattle.line_text.proofs.Common.{sym, arith, false_from_ne_true}
use Rattle.line_text.proofs.LineLemmas.{first_line-found, first_line-none, has_end-none}
use Rattle.line_text.proofs.cutter.first_line.Goals as goal

pub returns-in-Some-clause-line : goal.returns-in-Some-clause-line
returns-in-Some-clause-line c =
    let found = c.in-Some.ensures in
    sym (first_line-found c.args.piece.now c.in-Some.end found.0.high (λ k below. false_from_ne_true _ (found.0.before k (omega arith) below)) found.1)

pub returns-in-None-clause-line : goal.returns-in-None-clause-line
returns-in-None-clause-line c =
    sym (first_line-none c.args.piece.now (λ k below. false_from_ne_true _ (c.in-None.ensures k (omega arith) below)))

pub returns-in-None-clause-whole : goal.returns-in-None-clause-whole
returns-in-None-clause-whole c =
    sym (has_end-none c.args.piece.now (λ k below. false_from_ne_true _ (c.in-None.ensures k (omega arith) below)))
