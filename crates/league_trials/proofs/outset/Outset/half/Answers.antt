use Rattle.std.proofs.Common.{sym, subst}
use Rattle.ride_model.specs.Fleet.{MayStart}
use Rattle.league_trials.proofs.HalfFleets.{half-start}
use Rattle.league_trials.proofs.outset.Outset.half.Goals as goal

pub invariant_of-result : goal.invariant_of-result
invariant_of-result g c =
    let inside = c.self.inside in (
      subst (MayStart inside.roads.now inside.settings) (sym c.in-Ok.ensures)
          (half-start inside.roads.now inside.settings c.args.rest inside.fleet c.self.invariant.0),
      c.self.invariant.1,
    )
