-- What a contract sees of the forms over memory.
use Rattle.std.specs.Prelude.{ℕ, ◌||◌, ◌==◌, Bool, List, length, map, find, Option, None, is_none, bytes_eq}
use Rattle.std.specs.List.{list_any}
use Rattle.ride_ports.specs.Contents.{Contents}
use Rattle.ride_ports.specs.inner.Ledger.{LedgerState}
use Rattle.ride_ports.specs.inner.Calls.{CallState, fails_next, no_call}

-- the bytes that a source has left, and its calls
pub record SourceState : Type 0 where
  pub left : List ℕ
  pub calls : CallState

-- the bytes that a sink has taken, how many it takes in all, and its calls
pub record SinkState : Type 0 where
  pub written : List ℕ
  pub room : ℕ
  pub calls : CallState

-- a sink fails at the calls that are listed, and where it is full
abbrev pub refuses_next : SinkState → Bool
refuses_next sink = fails_next sink.calls || (length sink.written == sink.room)

-- a file of a shelf: its name, its bytes, and the calls of the sources that read it
pub record FileState : Type 0 where
  pub name : List ℕ
  pub bytes : List ℕ
  pub pieces : List ℕ
  pub failing : List ℕ

-- the files of a shelf, the numbers of the calls of `bring` that fail, and its ledger
pub record ShelfState : Type 0 where
  pub files : List FileState
  pub failing : List ℕ
  pub ledger : LedgerState

-- the first file with this name
abbrev pub file_named : List FileState → List ℕ → Option FileState
file_named files name = find (λ (f : FileState). bytes_eq f.name name) files

-- the names and the bytes of the files, and no other name
abbrev pub contents_of : List FileState → Contents
contents_of files = record { files = map (λ (f : FileState). record { name = f.name; bytes = f.bytes }) files; other = None }

-- a source of this file, none of which is read yet
abbrev pub source_of : FileState → SourceState
source_of f = record { left = f.bytes; calls = no_call f.pieces f.failing }

-- the call of `bring` with this number fails where it is listed or where no file has the name
abbrev pub refuses : ShelfState → ℕ → List ℕ → Bool
refuses shelf call name = list_any (λ number. number == call) shelf.failing || is_none (file_named shelf.files name)
