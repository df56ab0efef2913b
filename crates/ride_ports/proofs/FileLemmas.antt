-- Looking up a file of a shelf over memory, as its contracts see it.
use Rattle.ride_ports.proofs.Common.{◌≡◌, ℕ, List, [], Option, None, Some, refl, ap, sym, ◌∙◌, map, find, bytes_eq, option_map, option_or, bytes_at, StoredFile, FileState, file_named, file_state}
use Rattle.ride_ports.specs.inner.Sure.{with_empty_others}
use Rattle.ride_ports.specs.inner.SureFile.{stored_file}
use Rattle.ride_ports.specs.declared.mem_shelf.MemFile.{MemFile}
use Rattle.ride_ports.specs.declared.sure.SureFile.{SureFile}
use Rattle.ride_ports.proofs.ShelfLemmas.{find-map}

-- the first file with this name, as the contract sees it
pub file_named-map : (files : List MemFile) (name : List ℕ) (found : Option MemFile) →
    found ≡ find (λ (f : MemFile). bytes_eq f.name.now name) files → file_named (map file_state files) name ≡ option_map file_state found
file_named-map files name found is =
    find-map file_state (λ (f : FileState). bytes_eq f.name name) files ∙ ap (option_map file_state) (sym is)

bytes-or_empty : (found : Option SureFile) →
    option_or (option_map (λ (f : StoredFile). f.bytes) (option_map stored_file found)) (Some [])
    ≡ option_or (option_map (λ (f : SureFile). f.bytes.now) found) (Some [])
bytes-or_empty None = refl
bytes-or_empty (Some f) = refl

-- the bytes of a name, from the first file with this name
pub bytes_at-with_empty_others : (files : List SureFile) (name : List ℕ) (found : Option SureFile) →
    found ≡ find (λ (f : SureFile). bytes_eq f.name.now name) files →
    bytes_at (with_empty_others (map stored_file files)) name ≡ option_or (option_map (λ (f : SureFile). f.bytes.now) found) (Some [])
bytes_at-with_empty_others files name found is =
    ap (λ o. option_or (option_map (λ (f : StoredFile). f.bytes) o) (Some [])) (find-map stored_file (λ (f : StoredFile). bytes_eq f.name name) files ∙ ap (option_map stored_file) (sym is))
    ∙ bytes-or_empty found
