use Rattle.gr_reader.proofs.Common.{sym, arith}
use Rattle.gr_reader.proofs.MapLemmas.{arc-gives}
use Rattle.gr_reader.proofs.lines.MapLines.arc_line.Goals as goal

pub returns : goal.returns
returns c so_far holds few =
    arc-gives c.add.result c.args.number c.args.self.now c.add.new.self so_far c.in-Some.problem c.in_ok-arc.arc c.args.fields.now
    holds c.in-Some.is few (omega (arith, c.ranges.number)) (sym c.in_ok-arc.ensures.value) c.in_ok-arc.ensures.within
    c.add.ensures.problem c.add.ensures.arcs c.add.ensures.found c.add.ensures.err
