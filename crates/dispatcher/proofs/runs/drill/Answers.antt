use Rattle.dispatcher.proofs.Common.{inr, refl, sym, ◌∙◌, a_drill, sink-status, source-status, whole-status}
use Rattle.dispatcher.proofs.Reading.{none-read}
use Rattle.dispatcher.proofs.Running.{run-of}
use Rattle.dispatcher.proofs.TextRuns.{nothing}
use Rattle.dispatcher.proofs.runs.drill.Goals as goal

pub returns : goal.returns
returns g c =
    let ran = c.drill.result in
    let drill = c.drill.ensures in
    let read = none-read nothing _ c.requires.fresh in
    run-of (a_drill c.args.plan.now) _ _ _ c.status.result (inr (inr (record {
      all_asked = read.asked;
      all_brought = read.brought;
      back = read.back;
      meaning = nothing;
      means = read.means;
      did = record {
        ran = ran;
        status_is = c.status.ensures;
        no_source = drill.no_source;
        no_limit = drill.no_limit;
        drilled = drill.drilled;
        nothing_written = drill.nothing_written;
      };
      all_read = λ zero. read.spent;
      shelf_sound = λ zero. refl;
      sink_sound = λ zero. drill.sink_faults.stays (whole-status ran (sym c.status.ensures ∙ zero)).sink;
      shelf_fault = λ five. absurd (cc (source-status ran (sym c.status.ensures ∙ five), drill.no_source));
      sink_fault = λ six. drill.sink_faults.rose (sink-status ran (sym c.status.ensures ∙ six));
      untouched = λ none. refl;
    })))
