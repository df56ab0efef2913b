-- The names that most proofs of this crate cite, passed on from one place. Declares nothing.
pub use Rattle.ride_model.proofs.Common.{List, None, Option, [], ap, arith, bytes_eq-Decides, codes, false, false_from_ne_true, if◌then◌else◌, inl, inr, length, map, ne_eqb, refl, rules, slice_index_or, subst, string_bytes, sym, true, ℕ, ◌∙◌, ◌∷◌, ◌≡◌, ◌≢◌}
pub use Rattle.std.proofs.Common.{bytes_eq}
pub use Rattle.clap.specs.Faults.{is_simple_and_free, fault_of}
pub use Rattle.clap.specs.Matches.{first_value, found_of}
pub use Rattle.clap.specs.Simple.{App, HasMatchesOf, app_of, matches_of}
pub use Rattle.run_words.specs.Words.{command_by_word, asked_by_word}
unfoldable pub use Rattle.run_words.specs.Words.{values_of, word_of}
pub use Rattle.run_words.specs.inner.Words.{found_by}
