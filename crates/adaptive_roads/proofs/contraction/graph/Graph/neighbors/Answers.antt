use Rattle.adaptive_roads.proofs.Common.{◌≡◌, ◌-◌, suc, [], ◌∷◌, ◌++◌, refl, sym, ap, ◌∙◌, subst, arith, false≢true, RoadArc, firsts_in, arc_at, neighbor_of, IsOnward, level_in}
use Rattle.adaptive_roads.proofs.contraction.Collecting.{IsCollecting, chains_of, collecting-begun, collecting-passed, collecting-pushed}
use Rattle.adaptive_roads.proofs.contraction.graph.Graph.neighbors.Goals as goal

pub loop-cursor-init : goal.loop-cursor-init
loop-cursor-init c =
    let g = c.args.self.now in
    subst (λ cursor. IsCollecting c.args.side g.arcs.items g.levels.items c.args.node cursor c.clear.new.self.items) (sym c.first-cursor.ensures)
    (collecting-begun c.args.side g.arcs.items g.chains.items (firsts_in c.args.side g) g.levels.items c.args.node c.clear.new.self.items
    (chains_of c.args.side g c.requires.graph) c.clear.ensures.items)

pub next-cursor-requires-clause-place : goal.next-cursor-requires-clause-place
next-cursor-requires-clause-place c =
    let at : c.loop-cursor.cursor ≡ suc (c.loop-cursor.cursor - 1) = omega arith in
    (c.loop-cursor.invariant.at_arc (c.loop-cursor.cursor - 1) at).0

pub loop-cursor-preserved-then-arc-node : goal.loop-cursor-preserved-then-arc-node
loop-cursor-preserved-then-arc-node c =
    let g = c.args.self.now in
    let place = c.loop-cursor.cursor - 1 in
    let at : c.loop-cursor.cursor ≡ suc place = omega arith in
    subst (λ cursor. IsCollecting c.args.side g.arcs.items g.levels.items c.args.node cursor c.loop-cursor.list.items) (sym c.next-cursor.ensures)
    (collecting-passed c.args.side g.arcs.items g.chains.items (firsts_in c.args.side g) g.levels.items c.args.node c.loop-cursor.cursor c.loop-cursor.list.items place
    (chains_of c.args.side g c.requires.graph) c.loop-cursor.invariant at
    (λ onward. onward.apart (sym (ap (λ (a : RoadArc). a.head) c.arc-arc.ensures) ∙ c.if-arc-node.true)))

pub loop-cursor-preserved-then-not-is_in_core : goal.loop-cursor-preserved-then-not-is_in_core
loop-cursor-preserved-then-not-is_in_core c =
    let g = c.args.self.now in
    let place = c.loop-cursor.cursor - 1 in
    let at : c.loop-cursor.cursor ≡ suc place = omega arith in
    subst (λ cursor. IsCollecting c.args.side g.arcs.items g.levels.items c.args.node cursor c.loop-cursor.list.items) (sym c.next-cursor.ensures)
    (collecting-passed c.args.side g.arcs.items g.chains.items (firsts_in c.args.side g) g.levels.items c.args.node c.loop-cursor.cursor c.loop-cursor.list.items place
    (chains_of c.args.side g c.requires.graph) c.loop-cursor.invariant at
    (λ onward.
    let live : level_in g.levels.items c.arc-arc.result.head ≡ 4294967295 = ap (λ (a : RoadArc). level_in g.levels.items a.head) c.arc-arc.ensures ∙ onward.live in
    false≢true (c.if-not-is_in_core.ensures.1 live)))

pub loop-cursor-preserved : goal.loop-cursor-preserved
loop-cursor-preserved c =
    let g = c.args.self.now in
    let place = c.loop-cursor.cursor - 1 in
    let at : c.loop-cursor.cursor ≡ suc place = omega arith in
    let (low, tail) = c.loop-cursor.invariant.at_arc place at in
    let onward : IsOnward c.args.side g.arcs.items g.levels.items c.args.node place = record {
      there = low;
      tail = tail;
      live = sym (ap (λ (a : RoadArc). level_in g.levels.items a.head) c.arc-arc.ensures) ∙ c.if-not-is_in_core.ensures.0 refl;
      apart = λ same. c.if-arc-node.false (ap (λ (a : RoadArc). a.head) c.arc-arc.ensures ∙ same);
    } in
    let pushed : c.push.new.self.items ≡ c.loop-cursor.list.items ++ neighbor_of (arc_at c.args.side g.arcs.items place) ∷ []
    = c.in_ok-push.ensures.items ∙ ap (λ (a : RoadArc). c.loop-cursor.list.items ++ neighbor_of a ∷ []) c.arc-arc.ensures in
    subst (λ cursor. IsCollecting c.args.side g.arcs.items g.levels.items c.args.node cursor c.push.new.self.items) (sym c.next-cursor.ensures)
    (subst (IsCollecting c.args.side g.arcs.items g.levels.items c.args.node _) (sym pushed)
    (collecting-pushed c.args.side g.arcs.items g.chains.items (firsts_in c.args.side g) g.levels.items c.args.node c.loop-cursor.cursor c.loop-cursor.list.items place
    (chains_of c.args.side g c.requires.graph) c.loop-cursor.invariant at onward))
