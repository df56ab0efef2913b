-- The names that most proofs of this crate cite, passed on from one place. Declares nothing.
pub use Rattle.std.proofs.Common.{◌≡◌, ◌∙◌, ap, ℕ, List, sym, length, arith, take, ◌++◌, [], subst, false, Bool, ◌+◌, refl, ◌≤◌, true, ◌<◌, ◌≢◌, append_assoc, cond, ◌∷◌, append-nil, drop, length-append, Err, Ok, Option, Some, ◌^◌, MatchBool, Result, nat_lt, ◌-◌, ◌==◌, None, suc, length-take-le, ◌&&◌, ◌||◌, get_or, le-ltb, min, option_map, true≢false, zero, IfSome, eqb-true, inl, inr, length-drop, lt-ltb, ltb-false, not, subst₂, take-append-drop, take_all, ◌*◌, take_at, OnErr, OnOk, is_err, IfErr, MatchResult, add-one, le-leb, leb-true, length-take, ltb-true, nat_le, ne_eqb, take-take, ◌⊎◌, drop-drop, decimal, is_ok, map, option_and_then}
pub use Rattle.std.proofs.Math.Nat.{pow-le-pow_right}
pub use Rattle.std.proofs.Math.Seq.{take-append-add, take-add, take-append_seam}
pub use Rattle.std.proofs.lemmas.Bool.{false_from_ne_true, eqb-false, not-false, not-true}
pub use Rattle.std.proofs.lemmas.List.{length_push, nil_from_length, append_cancel_left, at_drop_more, drop-take, drop_all, take-append-le, take_min, take_more, take_rest, with_items_is}
pub use Rattle.std.proofs.lemmas.Result.{err_from_is_err_and}
pub use Rattle.std.specs.List.{AllByRecursion, list_any, flat_map, join_with_byte, onto_first, slice_range}
pub use Rattle.std.specs.Str.{all_ascii_digits}
pub use Rattle.std.specs.Str.Parse.{digits_value, digits_value_after}
pub use Rattle.line_text.specs.Fields.{is_blank, before_end, begins_field, fields_of, is_dropped, is_over_long, begins_with, unless_comment, words_of}
unfoldable pub use Rattle.line_text.specs.Fields.{runs_of, without_end, numbers_of}
pub use Rattle.line_text.specs.Lines.{ended_lines, lines_of, rest_of, last_line}
unfoldable pub use Rattle.line_text.specs.Lines.{ended_after, rest_after}
pub use Rattle.line_text.specs.Numbers.{number_of}
pub use Rattle.line_text.specs.Texts.{Format, after_ended, and_then, text_value}
unfoldable pub use Rattle.line_text.specs.Texts.{after_lines}
pub use Rattle.line_text.specs.declared.line_reader.answers.NextLine.{NextLine}
pub use Rattle.line_text.specs.declared.line_reader.answers.NextLine.TheVariants.{End, Line, Unfinished}
pub use Rattle.line_text.specs.declared.line_reader.answers.ReadStop.{ReadStop}
pub use Rattle.line_text.specs.declared.line_reader.answers.ReadStop.TheVariants.{TooLong, SourceFailed}
pub use Rattle.line_text.specs.declared.line_reader.limits.Limits.{Limits}
pub use Rattle.line_text.specs.inner.Cutter.{CutterState, EndsLine, Continues, HasTaken, ShowsRest, kept, Shows, begun, taken, taken_len}
unfoldable pub use Rattle.line_text.specs.inner.Lines.{first_line}
pub use Rattle.line_text.specs.inner.Reading.{HasRead, IsRefused, AreFirst, counted_lines, GoesOn}
pub use Rattle.line_text.specs.inner.line_reader.Reader.{HasGiven, IsNext, IsNextLine, IsStopped, ReaderState, IsAtEnd, IsShown, IsCutOff, IsFilled, IsLast}
pub use Rattle.line_text.specs.inner.text_page.Output.{OutputState, HasPut, PageState, IsFresh, Puts, told_page}
pub use Rattle.line_text.specs.line_reader.Limits.{IsTooLong, IsWithinLimits, lines_within}
pub use Rattle.ride_ports.proofs.ByteLemmas.{Reads-then, Reads-none, Reads-to_end, Reads-told, Writes-none, Writes-then, Writes-told, WritesPrefix-of_first, WritesPrefix-of_second}
pub use Rattle.ride_ports.specs.Bytes.{Reads, Writes, WritesPrefix}
pub use Rattle.ride_ports.specs.Count.{KeepsCount}
