use Rattle.board_core.proofs.Common.{state_at}
use Rattle.board_core.proofs.Placed.{placed-at}
use Rattle.board_core.proofs.Steps.{duty-none, duty-set}
use Rattle.board_core.proofs.service.Service.set_duty.Goals as goal

pub returns-in_default : goal.returns-in_default
returns-in_default c = λ rest.
    duty-none (state_at c.args.setup.now c.args.self.now rest) c.args.id c.args.duty
    c.in_default.ensures.placed

pub returns : goal.returns
returns c = λ rest.
    duty-set (state_at c.args.setup.now c.args.self.now rest) c.args.id c.args.duty (c.in-Some.place, c.index_mut-vehicle.result.now)
    (placed-at c.args.self.now.vehicles.items c.args.id c.in-Some.place c.index_mut-vehicle.result.now
    c.in-Some.ensures.placed c.index_mut-vehicle.ensures.value)
