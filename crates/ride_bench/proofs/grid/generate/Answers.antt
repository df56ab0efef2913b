use Rattle.std.proofs.Common.{List, sym, ap, subst}
use Rattle.ride_model.specs.declared.network.RoadArc.{RoadArc}
use Rattle.plan_trials.specs.trial_town.Streets.{AreStreets}
use Rattle.ride_bench.proofs.grid.generate.Goals as goal
use Rattle.ride_bench.proofs.grid.generate.Goals.{then-node-grid-ne0+then-node-grid+in_ok-add_street, else-node-grid-ne0}

pub add_street-requires-then-node-grid-2-clause-streets :
    goal.add_street-requires-then-node-grid-2-clause-streets
add_street-requires-then-node-grid-2-clause-streets c =
    let nodes = c.args.grid.nodes in
    elim c.if-node-grid-ne0.branch [
      | then-node-grid-ne0+then-node-grid+in_ok-add_street w ↦
          subst (λ (arcs : List RoadArc). AreStreets nodes arcs) (sym (ap (λ v. v.items) w.arcs-is)) w.add_street.ensures.streets
      | else-node-grid-ne0 w ↦
          subst (λ (arcs : List RoadArc). AreStreets nodes arcs) (sym (ap (λ v. v.items) w.arcs-is)) c.loop-place.invariant.fit
    ]
