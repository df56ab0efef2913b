use Rattle.session_run.proofs.Common.{◌≡◌, ◌∷◌, [], map, ap, sym, subst, ◌∙◌, arith, length, range_with_len, on_ok_weaker, drive, give, State, steps_with, GoesBy}
use Rattle.session_run.proofs.DrillSteps.{goes-then, steps-of-clock, steps-of-other}
use Rattle.session_run.proofs.drills.walk.take_steps.Goals as goal
use Rattle.session_run.proofs.drills.walk.take_steps.Goals.{in-Clock, in_default}

pub drive_all-requires-clause-drilling : goal.drive_all-requires-clause-drilling
drive_all-requires-clause-drilling g c = (c.in_ok-give.ensures.goes c.args.left.now).drilling

pub drive_all-requires-clause-vehicles : goal.drive_all-requires-clause-vehicles
drive_all-requires-clause-vehicles g c =
    ap (λ (s : State). length s.vehicles) (c.in_ok-give.ensures.goes c.args.left.now).start ∙ c.requires.vehicles

pub drive_all-requires-clause-few : goal.drive_all-requires-clause-few
drive_all-requires-clause-few g c = omega (arith, (c.in_ok-give.ensures.goes c.args.left.now).reported, c.requires.reported)

pub returns-then-matches-clause-goes : goal.returns-then-matches-clause-goes
returns-then-matches-clause-goes g c =
    let is : steps_with c.args.vehicles c.args.command.now ≡ give c.args.command.now ∷ map drive (range_with_len 0 c.args.vehicles) =
    elim c.match-matches.branch [
      | in-Clock w ↦ steps-of-clock c.args.vehicles c.args.command.now w.in-Clock.time w.in-Clock.is
      | in_default w ↦ absurd (cc (sym w.matches-is ∙ c.if-matches.true))
    ] in
    on_ok_weaker c.drive_all.result (λ goes. subst (λ steps. GoesBy steps 1 c.args.left.now c.drive_all.new.left c.args.board.now c.drive_all.new.board) (sym is)
    (goes-then (give c.args.command.now ∷ []) (map drive (range_with_len 0 c.args.vehicles)) 1 0 c.args.left.now c.args.left.now c.drive_all.new.left
    c.args.board.now c.give.new.board c.drive_all.new.board (c.in_ok-give.ensures.goes c.args.left.now) goes)) c.drive_all.ensures

pub returns-clause-goes : goal.returns-clause-goes
returns-clause-goes g c =
    let is : steps_with c.args.vehicles c.args.command.now ≡ give c.args.command.now ∷ [] =
    elim c.match-matches.branch [
      | in-Clock w ↦ absurd (cc (sym w.matches-is ∙ c.if-matches.false))
      | in_default w ↦ steps-of-other c.args.vehicles c.args.command.now w.in_default.not-Clock
    ] in
    subst (λ steps. GoesBy steps 1 c.args.left.now c.args.left.now c.args.board.now c.give.new.board) (sym is) (c.in_ok-give.ensures.goes c.args.left.now)
