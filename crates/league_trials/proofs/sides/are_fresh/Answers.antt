use Rattle.std.proofs.Common.{refl, sym, ap, subst, ◌∙◌, arith}
use Rattle.std.specs.Prelude.{All, is_some}
use Rattle.std.proofs.lemmas.List.{take_all}
use Rattle.std.proofs.lemmas.List.Elements.{All-more}
use Rattle.board_core.specs.Recorded.{state_of}
use Rattle.league_trials.specs.Sides.{IsFreshRide}
use Rattle.league_trials.proofs.DaySides.{not-accepted}
use Rattle.league_trials.proofs.sides.are_fresh.Goals as goal

pub loop-ride-preserved : goal.loop-ride-preserved
loop-ride-preserved c =
    All-more (IsFreshRide c.args.nodes (state_of c.args.board.now)) c.args.rides.now c.loop-ride.ride-index _ c.loop-ride-test.true
    c.loop-ride.invariant (record {
      of_map = c.if-not-fits.ensures refl;
      not_accepted = not-accepted (state_of c.args.board.now) _
          (ap is_some (sym c.request_state.ensures) ∙ sym c.is_some.ensures ∙ c.if-is_some.false);
    })

pub returns : goal.returns
returns c true_now =
    subst (All (IsFreshRide c.args.nodes (state_of c.args.board.now))) (take_all c.loop-ride.ride-index c.args.rides.now (omega arith))
    c.loop-ride.invariant
