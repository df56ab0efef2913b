-- What reads and writes do to the bytes that a source has left and a sink has taken, where
-- those are told. What is not told stays untold.
use Rattle.std.specs.Prelude.{◌≡◌, ℕ, List, ◌++◌, Option}
use Rattle.std.specs.Io.KnownBytes.{prepend_known, append_known}

-- the bytes that were left are these and then those that are left now
pub record Reads (before after : Option (List ℕ)) (bytes : List ℕ) : Type 0 where
  pub split : before ≡ prepend_known bytes after

-- the bytes written now are those written before and then these
pub record Writes (before after : Option (List ℕ)) (bytes : List ℕ) : Type 0 where
  pub joined : after ≡ append_known before bytes

-- a prefix of the piece was written, and the rest of the piece was not
pub record WritesPrefix (before after : Option (List ℕ)) (piece : List ℕ) : Type 0 where
  pub done : List ℕ
  pub rest : List ℕ
  pub whole : piece ≡ done ++ rest
  pub written : Writes before after done
