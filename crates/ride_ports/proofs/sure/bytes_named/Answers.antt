use Rattle.ride_ports.proofs.Common.{Some, None}
use Rattle.ride_ports.proofs.FileLemmas.{bytes_at-with_empty_others}
use Rattle.ride_ports.proofs.sure.bytes_named.Goals as goal

pub returns-in-Some : goal.returns-in-Some
returns-in-Some c =
    bytes_at-with_empty_others c.args.files.now c.args.name.now (Some c.in-Some.file.now) c.in-Some.ensures

pub returns-in-None : goal.returns-in-None
returns-in-None c = bytes_at-with_empty_others c.args.files.now c.args.name.now None c.in-None.ensures
