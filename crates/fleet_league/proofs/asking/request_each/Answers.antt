use Rattle.fleet_league.proofs.Common.{◌≡◌, [], ◌∷◌, ◌++◌, sym, ap, subst, ◌∙◌, Command, IsSpelledCommand, Recorded, state_of, fed_entry}
use Rattle.fleet_league.proofs.Outcomes.{on_err}
use Rattle.fleet_league.proofs.WinsAsked.{next-spelled, requested-more, requests-cut}
use Rattle.fleet_league.proofs.asking.request_each.Goals as goal

pub apply-requires-clause-spelled : goal.apply-requires-clause-spelled
apply-requires-clause-spelled c =
    subst (λ (command : Command). IsSpelledCommand c.loop-win.board.start.settings.log command) (sym c.request_of.ensures)
    (next-spelled c.args.board.now c.loop-win.board c.args.wins.now c.loop-win.win-index _ c.requires.may c.loop-win.invariant
    c.loop-win-test.true)

pub returns-in_err-apply-clause-cut : goal.returns-in_err-apply-clause-cut
returns-in_err-apply-clause-cut c =
    on_err c.from_residual.result (
      c.loop-win.win-index,
      ap (λ (b : Recorded). b.history) c.in_err-apply.ensures.no_memory ∙ c.loop-win.invariant.history
          ∙ ap (λ entries. c.args.board.now.history ++ entries) (requests-cut c.args.wins.now c.loop-win.win-index),
    )

pub loop-win-preserved : goal.loop-win-preserved
loop-win-preserved c =
    requested-more c.args.board.now c.loop-win.board c.apply.new.self c.args.wins.now c.loop-win.win-index _ c.loop-win.invariant
    c.loop-win-test.true c.in_ok-apply.ensures.others
    (subst (λ command. c.apply.new.self.history ≡ c.loop-win.board.history ++ fed_entry (state_of c.loop-win.board) 1 command ∷ [])
    c.request_of.ensures c.in_ok-apply.ensures.entry)
