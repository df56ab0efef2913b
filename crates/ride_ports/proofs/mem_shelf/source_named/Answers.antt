use Rattle.ride_ports.proofs.Common.{Some, None, ap, sym, option_map, source_of}
use Rattle.ride_ports.proofs.FileLemmas.{file_named-map}
use Rattle.ride_ports.proofs.mem_shelf.source_named.Goals as goal

pub returns-in_err-file : goal.returns-in_err-file
returns-in_err-file c =
    rw c.from_residual.ensures
    (sym (ap (option_map source_of) (file_named-map c.args.files.now c.args.name.now None c.in_err-file.ensures.first)))

pub returns : goal.returns
returns c =
    rw c.new.ensures
    (sym (ap (option_map source_of) (file_named-map c.args.files.now c.args.name.now (Some c.in_ok-file.file.now) c.in_ok-file.ensures.first)))
