use Rattle.adaptive_roads.proofs.Common.{◌≡◌, ◌-◌, ◌+◌, suc, get_or, refl, sym, ap, ◌∙◌, subst, arith, Out, RoadArc, no_arc, level_in, IsFound}
use Rattle.adaptive_roads.proofs.contraction.Collecting.{IsCursor, cursor-first, cursor-next}
use Rattle.adaptive_roads.proofs.contraction.Witnesses.{found-onward}
use Rattle.adaptive_roads.proofs.contraction.witness.Witness.relax.Goals as goal

pub loop-cursor-init : goal.loop-cursor-init
loop-cursor-init c =
    let g = c.args.graph.now in
    record {
      at_arc = subst (IsCursor Out g.arcs.items c.args.node) (sym c.first-cursor.ensures)
          (cursor-first Out g.arcs.items g.chains.items g.first_out.items g.levels.items c.args.node c.requires.graph.chained_out);
      room = c.requires.room;
      floor = c.requires.floor;
      ways = λ source found w. w;
    }

pub next-cursor-requires-clause-place : goal.next-cursor-requires-clause-place
next-cursor-requires-clause-place c =
    let at : c.loop-cursor.cursor ≡ suc (c.loop-cursor.cursor - 1) = omega arith in
    (c.loop-cursor.invariant.at_arc (c.loop-cursor.cursor - 1) at).0

pub loop-cursor-preserved : goal.loop-cursor-preserved
loop-cursor-preserved c =
    let g = c.args.graph.now in
    let place = c.loop-cursor.cursor - 1 in
    let at : c.loop-cursor.cursor ≡ suc place = omega arith in
    let (low, tail) = c.loop-cursor.invariant.at_arc place at in
    let same : c.arc-arc.result ≡ get_or g.arcs.items place no_arc = c.arc-arc.ensures in
    record {
      at_arc = subst (IsCursor Out g.arcs.items c.args.node) (sym c.next-cursor.ensures)
          (cursor-next Out g.arcs.items g.chains.items g.first_out.items g.levels.items c.args.node place c.requires.graph.chained_out low tail);
      room = c.improve.ensures.room g.nodes c.loop-cursor.invariant.room;
      floor = c.improve.ensures.floor ∙ c.loop-cursor.invariant.floor;
      ways = λ source found w.
          let onward = found-onward g c.args.avoided source c.args.node place c.args.time (c.args.time + c.from.result) c.requires.graph low found tail
          (sym (ap (λ (a : RoadArc). level_in g.levels.items a.head) same) ∙ c.if-not-is_in_core.ensures.0 refl)
          (λ e. c.if-arc-avoided.false (ap (λ (a : RoadArc). a.head) same ∙ e))
          (ap (λ (a : RoadArc). c.args.time + a.seconds) (sym same) ∙ ap (λ s. c.args.time + s) (sym c.from.ensures)) in
          c.improve.ensures.ways g c.args.avoided source
          (subst (λ (a : RoadArc). IsFound g c.args.avoided source a.head (c.args.time + c.from.result)) (sym same) onward)
          (c.loop-cursor.invariant.ways source found w);
    }
