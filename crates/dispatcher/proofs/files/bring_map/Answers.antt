use Rattle.dispatcher.proofs.Common.{string_bytes, map_format, MapRefused}
use Rattle.dispatcher.proofs.Bringing.{asks-none, asks-one}
use Rattle.dispatcher.proofs.files.bring_map.Goals as goal

pub returns-in_default-clause-asks : goal.returns-in_default-clause-asks
returns-in_default-clause-asks g c = asks-none map_format MapRefused (string_bytes c.args.name) _ _ c.in_default.ensures

pub returns-clause-asks : goal.returns-clause-asks
returns-clause-asks g c =
    asks-one map_format MapRefused (string_bytes c.args.name) _ _ _ _ _ _ c.map_from-read.result c.in-Ok.ensures
    c.map_from-read.ensures.answer c.map_from-read.ensures.read c.map_from-read.ensures.source_fault c.give_back.ensures
