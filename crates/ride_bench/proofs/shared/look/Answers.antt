use Rattle.std.proofs.Common.{◌≡◌, List, ◌+◌, length, ap, ◌∙◌, arith}
use Rattle.ride_model.specs.declared.entry.Entry.{Entry}
use Rattle.turn_lock.specs.Passes.{knowledge}
use Rattle.ride_bench.proofs.Looks.{look-within}
use Rattle.ride_bench.proofs.shared.look.Goals as goal

pub returns-clause-next : goal.returns-clause-next
returns-clause-next g c =
    let behind : c.in_ok-next.next ≡ c.args.from + length c.in_ok-tail.tail.entries.items
    = c.in_ok-next.ensures ∙ ap (λ (es : List Entry). c.args.from + length es) c.as_slice-entries.ensures.value in (
      omega (arith, behind),
      look-within (knowledge c.args.scribe.now) (knowledge c.tail.new.pass) c.args.from 1024 c.in_ok-next.next c.in_ok-tail.tail.entries.items
          c.tail.ensures.none c.requires.from c.in_ok-tail.ensures.entries behind,
    )
