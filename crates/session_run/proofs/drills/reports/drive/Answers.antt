use Rattle.session_run.proofs.Common.{◌∷◌, [], length, refl, sym, ap, arith, length-append, Command, fed_commands, State, Recorded, state_of}
use Rattle.session_run.proofs.Answering.{applied-commands}
use Rattle.session_run.proofs.DriverReports.{report-asks_for_none}
use Rattle.session_run.proofs.DrillSteps.{reporting-done, reporting-none, reporting-then}
use Rattle.session_run.proofs.drills.reports.drive.Goals as goal

pub loop-init : goal.loop-init
loop-init c = record {
  reporting = reporting-none c.args.place c.args.board.now c.requires.drilling;
  counted = refl;
  turns = omega arith;
}

pub report_of-requires : goal.report_of-requires
report_of-requires c =
    omega (arith, c.requires.place, ap (λ (s : State). length s.vehicles) c.loop.invariant.reporting.start)

pub returns-in_default : goal.returns-in_default
returns-in_default c =
    let (v, there, is) = c.in_default.ensures.report in
    reporting-done c.args.place c.args.left.now c.loop.left c.args.board.now c.loop.board v c.loop.invariant.reporting there
    (sym is) c.loop.invariant.counted

pub loop-preserved : goal.loop-preserved
loop-preserved c =
    let old : Recorded = c.loop.board in
    let new : Recorded = c.apply.new.self in
    let command : Command = c.in-Some.command in
    let (v, there, is) = c.in-Some.ensures.report in
    let start = ap (λ (b : Recorded). b.start) c.apply.ensures.others in
    let feeds = ap (λ (b : Recorded). b.feeds) c.apply.ensures.others in
    let desks = ap (λ (b : Recorded). b.desks) c.apply.ensures.others in
    let more = applied-commands 2 old new command c.loop.invariant.reporting.drilling.session start feeds desks c.in_ok-apply.ensures.entry in
    record {
      reporting = reporting-then c.args.place c.args.board.now old new command v c.loop.invariant.reporting there (sym is)
          (report-asks_for_none (state_of old) v (state_of old).clock command (sym is)) start feeds desks c.in_ok-apply.ensures.entry;
      counted = omega (
        arith,
        c.loop.invariant.counted,
        c.loop.invariant.turns,
        c.loop-test.true,
        ap length more,
        length-append (fed_commands 2 old.history) (command ∷ []),
      );
      turns = omega (arith, c.loop.invariant.turns, c.loop-test.true);
    }
