use Rattle.session_run.proofs.Common.{◌∷◌, [], length, map, sym, subst, ap, arith, range_with_len, map-range_with_len_more, drive, State, GoesBy}
use Rattle.session_run.proofs.DrillSteps.{goes-none, goes-then}
use Rattle.session_run.proofs.drills.reports.drive_all.Goals as goal

pub loop-place-init : goal.loop-place-init
loop-place-init c = goes-none c.args.left.now c.args.board.now c.requires.drilling

pub drive-requires-clause-drilling : goal.drive-requires-clause-drilling
drive-requires-clause-drilling c = c.loop-place.invariant.drilling

pub drive-requires-clause-place : goal.drive-requires-clause-place
drive-requires-clause-place c =
    omega (arith, c.loop-place-test.true, c.requires.vehicles, ap (λ (s : State). length s.vehicles) c.loop-place.invariant.start)

pub drive-requires-clause-few : goal.drive-requires-clause-few
drive-requires-clause-few c = omega (arith, c.loop-place.invariant.reported, c.requires.few)

pub loop-place-preserved : goal.loop-place-preserved
loop-place-preserved c =
    subst (λ steps. GoesBy steps 0 c.args.left.now c.drive.new.left c.args.board.now c.drive.new.board)
    (sym (map-range_with_len_more drive 0 c.loop-place.place c.loop-place.place (omega arith)))
    (goes-then (map drive (range_with_len 0 c.loop-place.place)) (drive c.loop-place.place ∷ []) 0 0 c.args.left.now c.loop-place.left c.drive.new.left
    c.args.board.now c.loop-place.board c.drive.new.board c.loop-place.invariant c.in_ok-drive.ensures)

pub returns : goal.returns
returns c =
    subst (λ n. GoesBy (map drive (range_with_len 0 n)) 0 c.args.left.now c.loop-place.left c.args.board.now c.loop-place.board)
    (omega (arith, c.loop-place-test.false, c.loop-place.auto.place-end)) c.loop-place.invariant
