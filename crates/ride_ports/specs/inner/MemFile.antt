-- What a contract sees of a file in memory.
use Rattle.std.specs.Prelude.{◌≡◌, List, All, AllPairs, bytes_eq, false}
use Rattle.ride_ports.specs.inner.Calls.{ArePieces}
use Rattle.ride_ports.specs.inner.Memory.{FileState}
use Rattle.ride_ports.specs.declared.mem_shelf.MemFile.{MemFile}

abbrev pub file_state : MemFile → FileState
file_state f = record { name = f.name.now; bytes = f.bytes.now; pieces = f.pieces.now; failing = f.failing.now }

-- each piece of each file has a byte
abbrev pub HavePieces : List MemFile → Type 0
HavePieces files = All (λ (f : MemFile). ArePieces f.pieces.now) files

-- no two files have one name
abbrev pub HaveDistinctNames : List MemFile → Type 0
HaveDistinctNames files = AllPairs (λ (f g : MemFile). bytes_eq f.name.now g.name.now ≡ false) files
