use Rattle.adaptive_roads.proofs.Common.{◌-◌, length, get_or, ap, arith, RoadArc, arc_at, chain_at, next_of, firsts_in, IsLive}
use Rattle.adaptive_roads.proofs.contraction.ChainSteps.{first-le}
use Rattle.adaptive_roads.proofs.contraction.Collecting.{chains_of, arc-fits}
use Rattle.adaptive_roads.proofs.contraction.Pruning.{same-none}
use Rattle.adaptive_roads.proofs.contraction.graph.Graph.prune.Goals as goal

pub chain-init : goal.chain-init
chain-init c =
    let g = c.args.self.now in
    let side = c.args.side in
    record {
      graph = c.requires.graph;
      same = same-none g;
      within = omega (
        arith,
        c.first-cursor.ensures,
        first-le (length g.arcs.items) (λ place. (arc_at side g.arcs.items place).tail) (λ node. get_or (firsts_in side g) node 0)
            (λ place. next_of side (chain_at g.chains.items place)) (IsLive side g.arcs.items g.levels.items) (chains_of side g c.requires.graph) c.args.node,
      );
    }

pub is_in_core-requires-clause-node : goal.is_in_core-requires-clause-node
is_in_core-requires-clause-node c =
    let g = c.chain.self in
    let side = c.args.side in
    let lower = (chains_of side g c.chain.invariant.graph).next_lower (c.chain.cursor - 1) (omega (arith, c.chain.invariant.within, c.if-cursor-eq0.false)) in
    let fit = arc-fits side g c.chain.invariant.graph (c.next-next.result - 1) (omega (arith, lower, c.next-next.ensures, c.chain.invariant.within, c.if-cursor-eq0.false, c.if-next-eq0.false)) in
    omega (arith, fit.1, ap (λ (a : RoadArc). a.head) c.arc-arc.ensures)

pub pass_over-requires-clause-later : goal.pass_over-requires-clause-later
pass_over-requires-clause-later c =
    let g = c.chain.self in
    let lower = (chains_of c.args.side g c.chain.invariant.graph).next_lower (c.chain.cursor - 1) (omega (arith, c.chain.invariant.within, c.if-cursor-eq0.false)) in
    omega (arith, lower, c.next-next.ensures, c.chain.invariant.within, c.if-cursor-eq0.false, c.if-next-eq0.false)
