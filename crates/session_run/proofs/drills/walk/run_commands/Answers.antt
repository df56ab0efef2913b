use Rattle.session_run.proofs.Common.{◌≡◌, ℕ, ◌+◌, List, [], length, take, refl, ap, sym, subst, ◌∙◌, arith, flat_map, take_all, Command, Entry, Follows, done, entries_of, fed_commands, steps_with, GoesBy}
use Rattle.session_run.proofs.DrillSteps.{goes-none, goes-then, steps-more}
use Rattle.session_run.proofs.drills.walk.run_commands.Goals as goal

pub loop-command-init : goal.loop-command-init
loop-command-init g c = record { goes = goes-none 999999999 c.args.board.now c.requires.drilling; tools = refl }

pub take_steps-requires-clause-given : goal.take_steps-requires-clause-given
unfolding entries_of
take_steps-requires-clause-given g c =
    omega (
      arith,
      c.loop-command.invariant.goes.fed,
      ap (λ (h : List Entry). length (fed_commands 1 h)) c.requires.fresh,
      c.loop-command-test.true,
      c.requires.few,
    )

pub take_steps-requires-clause-reported : goal.take_steps-requires-clause-reported
unfolding entries_of
take_steps-requires-clause-reported g c =
    omega (arith, c.loop-command.invariant.goes.reported, ap (λ (h : List Entry). length (fed_commands 2 h)) c.requires.fresh)

pub loop-command-preserved : goal.loop-command-preserved
loop-command-preserved g c =
    let i : ℕ = c.loop-command.command-index in
    let commands : List Command = c.args.commands.now in record {
      goes = subst (λ steps. GoesBy steps (i + 1) 999999999 c.take_steps.new.left c.args.board.now c.take_steps.new.board)
          (sym (steps-more c.args.vehicles i commands _ c.loop-command-test.true))
          (goes-then (flat_map (steps_with c.args.vehicles) (take i commands)) _ i 1 999999999 c.loop-command.left c.take_steps.new.left
          c.args.board.now c.loop-command.board c.take_steps.new.board c.loop-command.invariant.goes c.in_ok-take_steps.ensures.goes);
      tools = c.take_steps.ensures.tools ∙ c.loop-command.invariant.tools;
    }

pub returns-clause-follows : goal.returns-clause-follows
returns-clause-follows g c =
    let goes = c.loop-command.invariant.goes in
    let all : take c.loop-command.command-index c.args.commands.now ≡ c.args.commands.now =
    take_all c.loop-command.command-index c.args.commands.now (omega (arith, c.loop-command-test.false)) in
    let none : Follows c.args.board.now.start [] c.args.board.now.history =
    subst (λ (h : List Entry). Follows c.args.board.now.start [] h) (sym c.requires.fresh) done in
    subst (λ commands. Follows c.loop-command.board.start (flat_map (steps_with c.args.vehicles) commands) c.loop-command.board.history) all
    (goes.follows [] none)
