use Rattle.fleet_board.proofs.Common.{◌≡◌, ◌+◌, ◌-◌, length, take, drop, ◌∙◌, arith, min, take_all}
use Rattle.fleet_board.proofs.Tails.{slice-tail}
use Rattle.fleet_board.proofs.scribes.copies_of.Goals as goal

pub returns : goal.returns
returns c =
    let entries = c.args.entries.now in
    let from = c.min-from.result in
    let many = c.min-many.result in
    let from_is : from ≡ min c.args.from (length entries) = omega (arith, c.min-from.ensures) in
    let many_is : many ≡ min c.args.most (length entries - from) = omega (arith, c.min-many.ensures) in
    c.loop-entry.invariant
    ∙ take_all c.loop-entry.entry-index (take (from + many - from) (drop from entries)) c.loop-entry-test.false
    ∙ slice-tail c.args.from c.args.most from many entries from_is many_is
