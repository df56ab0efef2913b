use Rattle.ride_ports.proofs.Common.{map, file_state}
use Rattle.ride_ports.proofs.ShelfLemmas.{bytes_at-of_source}
use Rattle.ride_ports.proofs.mem_shelf.MemShelfShelf.bring.Goals as goal

pub returns-in-Some-clause-bytes : goal.returns-in-Some-clause-bytes
returns-in-Some-clause-bytes c =
    rw (← c.self.view_is, ← c.as_str.ensures.value)
    (bytes_at-of_source (map file_state c.self.inside.files.now) c.as_str.result.now c.in-Some.source c.in-Some.ensures)
