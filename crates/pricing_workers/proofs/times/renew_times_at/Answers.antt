use Rattle.pricing_workers.proofs.Common.{arith, HasRows}
use Rattle.pricing_workers.proofs.Added.{all-added}
use Rattle.pricing_workers.proofs.times.renew_times_at.Goals as goal

pub returns-clause-rows : goal.returns-clause-rows
returns-clause-rows c =
    all-added (HasRows c.args.nodes) c.args.place c.args.times.now.items c.push.new.self.items c.in_ok-new.field-0
    (omega (arith, c.if-place-len.false, c.len.ensures)) c.in_ok-push.ensures.items c.requires.rows c.in_ok-new.ensures
