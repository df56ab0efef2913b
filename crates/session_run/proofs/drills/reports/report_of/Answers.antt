use Rattle.session_run.proofs.Common.{◌≡◌, Some, length, refl, sym, ap, ◌∙◌, arith, slice_get, slice_get_read, next_report, Recorded, state_of}
use Rattle.session_run.proofs.DrillFleet.{as-many-vehicles, vehicle-stands, report-is-spelled}
use Rattle.session_run.proofs.drills.reports.report_of.Goals as goal

pub bounds-vehicles-place : goal.bounds-vehicles-place
bounds-vehicles-place c =
    omega (
      arith,
      c.requires,
      as-many-vehicles c.args.board.now c.entries-history.ensures.start c.entries-history.ensures.legal,
      ap length c.vehicles.ensures,
    )

-- the vehicle at the place
there : (c : goal.After-now) → slice_get (state_of c.args.board.now).vehicles c.args.place ≡ Some c.index-vehicles-place.result
there c =
    ap (λ vs. slice_get vs c.args.place) (sym c.vehicles.ensures)
    ∙ slice_get_read c.vehicles.result.now (length c.vehicles.result.now) c.args.place c.index-vehicles-place.result refl
    (omega (
      arith,
      c.requires,
      as-many-vehicles c.args.board.now c.entries-history.ensures.start c.entries-history.ensures.legal,
      ap length c.vehicles.ensures,
    )) c.index-vehicles-place.is

pub next_report-requires : goal.next_report-requires
next_report-requires c =
    let board : Recorded = c.args.board.now in
    let start = c.entries-history.ensures.start in
    let stands = vehicle-stands board c.args.place c.index-vehicles-place.result start c.entries-history.ensures.legal (there c) in
    (board.start.roads, start.map_fits, stands.0.routed)

pub returns-clause-report : goal.returns-clause-report
returns-clause-report c = (
  c.index-vehicles-place.result,
  there c.before,
  c.next_report.ensures ∙ ap (λ time. next_report c.index-vehicles-place.result time) c.now.ensures,
)

pub returns-clause-spelled : goal.returns-clause-spelled
returns-clause-spelled c =
    let board : Recorded = c.args.board.now in
    let start = c.entries-history.ensures.start in
    let stands = vehicle-stands board c.args.place c.index-vehicles-place.result start c.entries-history.ensures.legal (there c.before) in
    report-is-spelled board.start.settings.log board.start.roads c.index-vehicles-place.result c.now.result c.next_report.result start.map_fits stands.0 stands.1
    c.next_report.ensures
