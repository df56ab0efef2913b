use Rattle.road_times.proofs.Common.{arith, ◌∙◌, sym, Some, length-set}
use Rattle.road_times.proofs.Lists.{listed-settled, room_for_one}
use Rattle.road_times.proofs.search.Search.settle.Goals as goal

pub index_mut-requires-2 : goal.index_mut-requires-2
index_mut-requires-2 c =
    let old = c.args.self.now in
    omega (arith, c.requires.ready.listed.sized, c.requires.ready.listed.counted, room_for_one old.labels.items c.args.node c.requires.inside c.requires.unsettled, old.settled.ok.0)

pub returns-clause-ready : goal.returns-clause-ready
returns-clause-ready c =
    let old = c.args.self.now in
    record {
      rooms = c.requires.ready.rooms ∙ sym (length-set old.labels.items c.args.node (Some c.args.label));
      listed = listed-settled old.labels.items old.settled.items old.count c.args.node c.args.label c.requires.ready.listed c.requires.inside c.requires.unsettled;
    }
