use Rattle.fleet_file.proofs.Common.{◌==◌, List, sym, ◌∙◌, ap, subst, arith, list_any, Vehicle, IsFleet}
use Rattle.fleet_file.proofs.FleetLemmas.{IsFleet-push}
use Rattle.fleet_file.proofs.lines.FleetLines.vehicle_line.Goals as goal

pub returns-clause-within : goal.returns-clause-within
returns-clause-within c =
    let vehicles : List Vehicle = c.args.self.now.vehicles.items in
    let new = c.in-Some.new in
    record {
      values = c.requires.values;
      vehicles = subst IsFleet (sym c.in-Ok.ensures.items)
          (IsFleet-push vehicles c.idle_vehicle.result c.args.fields.now new c.requires.vehicles (sym c.in-Some.is ∙ c.read_vehicle.ensures)
          (ap (λ (v : Vehicle). v.id) c.idle_vehicle.ensures)
          (ap (λ vs. list_any (λ (v : Vehicle). v.id == new.id) vs) (sym c.as_slice.ensures.value) ∙ sym c.has_id.ensures ∙ c.if-has_id.false)
          (omega (arith, c.args.self.now.vehicles.ok.0)));
    }
