-- The names that most proofs of this crate cite, passed on from one place. Declares nothing.
pub use Rattle.ride_model.proofs.Common.{All, All-append, Bool, Err, IfErr, IfSome, List, MatchOption, MatchResult, None, Ok, OnOk, Option, Result, Some, [], ap, arith, bytes_eq, codes, cond, false, if◌then◌else◌, is_some, length, length_push, ltb-false, ltb-true, min, nat_lt, refl, subst, suc, sym, take, take-append-le, take-nil, take_all, true, zero, ℕ, ◌++◌, ◌+◌, ◌-◌, ◌<◌, ◌==◌, ◌^◌, ◌||◌, ◌∙◌, ◌∷◌, ◌≡◌, ◌≢◌, ◌≤◌}
pub use Rattle.gr_reader.specs.MapText.{MapSoFar, after_words, arc_line, checked_arc, checked_problem, map_format, map_of, map_text, problem_line, problem_of}
pub use Rattle.gr_reader.specs.declared.errors.MapError.{MapError}
pub use Rattle.gr_reader.specs.declared.errors.MapError.TheVariants.{NoMemory, ReadFault, TooLong}
pub use Rattle.gr_reader.specs.declared.lines.MapLines.{MapLines}
pub use Rattle.gr_reader.specs.declared.lines.Problem.{Problem}
pub use Rattle.gr_reader.specs.inner.Reading.{Gives, Holds, HasTaken, IsArcAmong, IsProblem, IsSoFar, Refuses, is_read_fault, said}
pub use Rattle.line_text.proofs.TextLemmas.{after_lines-push, some_bytes, text_value-refused, text_value-too_long}
pub use Rattle.line_text.specs.Fields.{words_of}
unfoldable pub use Rattle.line_text.specs.Fields.{numbers_of}
unfoldable pub use Rattle.line_text.specs.Texts.{after_lines}
pub use Rattle.ride_model.specs.declared.network.RoadArc.{RoadArc}
