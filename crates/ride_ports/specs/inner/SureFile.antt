-- What a contract sees of a file of the shelf that never fails.
use Rattle.std.specs.Prelude.{◌≡◌, List, AllPairs, bytes_eq, false}
use Rattle.ride_ports.specs.Contents.{StoredFile}
use Rattle.ride_ports.specs.declared.sure.SureFile.{SureFile}

abbrev pub stored_file : SureFile → StoredFile
stored_file f = record { name = f.name.now; bytes = f.bytes.now }

-- no two files have one name
abbrev pub HaveDistinctNames : List SureFile → Type 0
HaveDistinctNames files = AllPairs (λ (f g : SureFile). bytes_eq f.name.now g.name.now ≡ false) files
