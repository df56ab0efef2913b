use Rattle.dispatcher.proofs.Common.{string_bytes, fleet_format, FleetRefused}
use Rattle.dispatcher.proofs.Bringing.{asks-none, asks-one}
use Rattle.dispatcher.proofs.files.bring_fleet.Goals as goal

pub returns-in_default-clause-asks : goal.returns-in_default-clause-asks
returns-in_default-clause-asks g c = asks-none (fleet_format c.args.map.now.nodes) FleetRefused (string_bytes c.args.name) _ _ c.in_default.ensures

pub returns-clause-asks : goal.returns-clause-asks
returns-clause-asks g c =
    asks-one (fleet_format c.args.map.now.nodes) FleetRefused (string_bytes c.args.name) _ _ _ _ _ _ c.fleet_from-read.result c.in-Ok.ensures
    c.fleet_from-read.ensures.answer c.fleet_from-read.ensures.read c.fleet_from-read.ensures.source_fault c.give_back.ensures
