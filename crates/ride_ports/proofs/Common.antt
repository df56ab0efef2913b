-- The names that most proofs of this crate cite, passed on from one place. Declares nothing.
pub use Rattle.std.proofs.Common.{None, Some, ℕ, ap, refl, sym, ◌∙◌, ◌≡◌, List, Option, [], arith, map, Bool, bytes_eq, false, find, length, subst, take, ◌-◌, ◌≤◌, IfSome, append-nil, append_assoc, cond, drop, length-drop, true, ◌++◌, ◌+◌, ◌<◌, ◌∷◌, take-append-drop}
pub use Rattle.std.proofs.lemmas.List.{take_rest}
pub use Rattle.std.specs.Option.{option_map, option_or}
pub use Rattle.ride_ports.specs.Bytes.{Writes, Reads, WritesPrefix}
pub use Rattle.ride_ports.specs.Contents.{StoredFile, bytes_at}
pub use Rattle.ride_ports.specs.Count.{KeepsCount, Rose}
pub use Rattle.ride_ports.specs.inner.MemFile.{file_state}
pub use Rattle.ride_ports.specs.inner.Memory.{FileState, file_named, source_of, SourceState, contents_of}
