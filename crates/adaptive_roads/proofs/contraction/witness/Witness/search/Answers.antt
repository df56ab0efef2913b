use Rattle.adaptive_roads.proofs.Common.{refl}
use Rattle.adaptive_roads.proofs.contraction.Witnesses.{found-source}
use Rattle.adaptive_roads.proofs.contraction.witness.Witness.search.Goals as goal

pub returns-then-not-begin-clause-room : goal.returns-then-not-begin-clause-room
returns-then-not-begin-clause-room c = c.begin.ensures.room c.args.graph.now.nodes c.requires.room

pub settling-init : goal.settling-init
settling-init c = record {
  room = c.begin.ensures.room c.args.graph.now.nodes c.requires.room;
  ways = c.if-not-begin.ensures.ways refl c.args.graph.now c.args.avoided (found-source c.args.graph.now c.args.avoided c.args.source c.requires.live c.requires.apart);
}
