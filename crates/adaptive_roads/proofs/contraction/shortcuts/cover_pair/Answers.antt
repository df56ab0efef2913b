use Rattle.adaptive_roads.proofs.Common.{◌≡◌, ◌+◌, refl, subst, arith, ReachesPast}
use Rattle.adaptive_roads.proofs.contraction.Growths.{contained-fit, past-wider, shortcuts-pushed, over-node, covered-pushed}
use Rattle.adaptive_roads.proofs.contraction.shortcuts.cover_pair.Goals as goal

pub reaches-requires : goal.reaches-requires
reaches-requires c = record {
  room = (c.args.graph.now.nodes, c.requires.room, (contained-fit c.args.graph.now _ c.requires.graph c.requires.onward.linked).head);
}

pub add-requires-clause-fits : goal.add-requires-clause-fits
add-requires-clause-fits c =
    let into = contained-fit c.args.graph.now _ c.requires.graph c.requires.into.linked in
    let onward = contained-fit c.args.graph.now _ c.requires.graph c.requires.onward.linked in
    record {
      some_tail = into.some_tail;
      tail = into.tail;
      some_head = onward.some_head;
      head = onward.head;
      seconds = omega (arith, c.if-seconds-gt-LONGEST_ARC.false);
    }

pub returns-then-reaches-clause-covered : goal.returns-then-reaches-clause-covered
returns-then-reaches-clause-covered c = λ _ differ.
    let (base, grown, ways) = c.requires.ways in
    let graph = c.args.graph.now in
    let total : c.from.result + c.from-2.result ≡ c.args.into.seconds + c.args.onward.seconds = omega (arith, c.from.ensures, c.from-2.ensures) in
    subst (ReachesPast graph.arcs.items graph.levels.items _ c.args.node c.args.into.node c.args.onward.node) total
    (past-wider c.args.node base graph c.args.node c.args.into.node c.args.onward.node (c.from.result + c.from-2.result) grown
    (c.if-reaches.ensures refl base c.args.node c.args.into.node ways))

pub returns-clause-grown : goal.returns-clause-grown
returns-clause-grown c =
    shortcuts-pushed c.args.node c.args.graph.now c.add.new.self _ c.in_ok-add.ensures.ok
    (over-node c.args.graph.now c.args.node c.args.into c.args.onward (c.from.result + c.from-2.result) c.requires.into c.requires.onward
    (omega (arith, c.from.ensures, c.from-2.ensures)))

pub returns-clause-covered : goal.returns-clause-covered
returns-clause-covered c = λ _.
    covered-pushed c.args.node c.args.graph.now c.add.new.self c.args.into c.args.onward (c.from.result + c.from-2.result) c.requires.graph
    c.requires.into c.requires.onward (omega (arith, c.from.ensures, c.from-2.ensures)) c.in_ok-add.ensures.ok
