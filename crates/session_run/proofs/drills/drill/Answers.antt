use Rattle.session_run.proofs.Common.{Bool, sym, subst, ◌∙◌, KeepsCount, KeepsCount-none}
use Rattle.session_run.proofs.DrillCity.{line-is-logged}
use Rattle.session_run.proofs.drills.drill.Goals as goal

pub returns-in-Ok-clause-drilled : goal.returns-in-Ok-clause-drilled
returns-in-Ok-clause-drilled g c memory =
    let (entries, drilled, line_is) = c.in-Ok.ensures in (
      entries,
      drilled,
      line-is-logged c.write_all.result _ _ c.as_slice.result.now _ c.is_err.result (c.as_slice.ensures.value ∙ line_is) c.is_err.ensures.value
          c.write_all.ensures.whole c.write_all.ensures.prefix,
    )

pub returns-in-Ok-clause-sink_faults : goal.returns-in-Ok-clause-sink_faults
returns-in-Ok-clause-sink_faults g c =
    subst (λ (failed : Bool). KeepsCount failed (g.K.Sink.faults c.args.out.now) (g.K.Sink.faults c.write_all.new.sink)) (sym c.is_err.ensures.value)
    c.write_all.ensures.faults

pub returns-in-Err-clause-sink_faults : goal.returns-in-Err-clause-sink_faults
returns-in-Err-clause-sink_faults g c = KeepsCount-none (g.K.Sink.faults c.args.out.now)
