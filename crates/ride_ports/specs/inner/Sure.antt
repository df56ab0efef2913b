-- What a contract sees of the shelf that never fails.
use Rattle.std.specs.Prelude.{List, [], Some}
use Rattle.ride_ports.specs.Contents.{Contents, StoredFile}
use Rattle.ride_ports.specs.inner.Ledger.{LedgerState}

-- the files of a shelf, and what it keeps of its calls
pub record SureShelfState : Type 0 where
  pub files : List StoredFile
  pub ledger : LedgerState

-- every further name has the empty bytes
abbrev pub with_empty_others : List StoredFile → Contents
with_empty_others files = record { files = files; other = Some [] }
