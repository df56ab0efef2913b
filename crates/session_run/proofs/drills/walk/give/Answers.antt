use Rattle.session_run.proofs.Common.{Bool, sym, subst, ◌∙◌, Answers}
use Rattle.session_run.proofs.DrillSteps.{give-goes}
use Rattle.session_run.proofs.drills.walk.give.Goals as goal

pub returns-then-is_whole-clause-goes : goal.returns-then-is_whole-clause-goes
returns-then-is_whole-clause-goes g c left =
    give-goes left c.args.board.now c.answer.new.board c.args.command.now c.requires.drilling
    (subst (λ (whole : Bool). Answers whole c.args.command.now c.args.board.now c.answer.new.board) (sym c.is_whole.ensures ∙ c.if-is_whole.true) c.in_ok-answer.ensures.answered)
