use Rattle.adaptive_roads.proofs.Common.{arith, Contains}
use Rattle.adaptive_roads.proofs.hierarchy_laws.Ways.{reaches-carried, way-from_walk}
use Rattle.adaptive_roads.proofs.hierarchy_laws.ways_are_carried.Goals as goal

pub returns-clause-onto : goal.returns-clause-onto
returns-clause-onto c roads links level core x y limit h = reaches-carried (Contains roads.arcs) (Contains links) x y limit h.complete

pub returns-clause-back : goal.returns-clause-back
returns-clause-back c roads links level core x y limit h = reaches-carried (Contains links) (Contains roads.arcs) x y limit h.sound

pub returns-clause-walks : goal.returns-clause-walks
returns-clause-walks c roads x y walk walked =
    record { way = walk; walked = way-from_walk roads x y walk walked; lighter = omega arith }
