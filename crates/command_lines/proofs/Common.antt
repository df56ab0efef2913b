-- The names that most proofs of this crate cite, passed on from one place. Declares nothing.
pub use Rattle.ride_model.proofs.Common.{All, AllByRecursion, Bool, IfSome, IsOneOrTwo, IsSpelled, IsSpelledCommand, List, MatchBool, None, Option, Some, [], ap, append-nil, append_assoc, arith, codes, cond, cons_option, decimal, drop, eqb-false, eqb-true, err_from_is_err_and, false, get_or, join_with_byte, le-ltb, length, length-append, length-decimal-le, length-take-le, length_push, map, min, nat_lt, option_and_then, recursion_from_All, refl, subst, suc, sym, take, take-append-drop, take_more, true, unwrap_or, zero, ℕ, ◌++◌, ◌+◌, ◌-◌, ◌<◌, ◌==◌, ◌^◌, ◌∙◌, ◌∷◌, ◌≡◌, ◌≢◌, ◌≤◌}
pub use Rattle.command_lines.specs.Commands.{command_from, command_of_fields, commands_of, said_by, verb_of, said_by_words, spelling_of}
unfoldable pub use Rattle.command_lines.specs.Commands.{commands_from}
pub use Rattle.command_lines.specs.Limits.{AreFirst, ended_commands, limits_of}
pub use Rattle.command_lines.specs.declared.forms.FeedForm.{FeedForm}
pub use Rattle.command_lines.specs.declared.verbs.Verb.{Verb}
pub use Rattle.command_lines.specs.inner.Feeds.{FeedState, HasGiven, IsStopped, HasCut, lines_ahead}
pub use Rattle.command_lines.specs.inner.Limits.{IsForm}
pub use Rattle.line_text.proofs.LineLemmas.{ended_lines-append, last_line-some}
pub use Rattle.line_text.proofs.PrintedLemmas.{IsPlain, fields_of-joined, joined-number, length-joined, numbers_of-decimals, numbers_of-small, plain-decimals}
pub use Rattle.line_text.specs.Fields.{is_over_long, words_of}
unfoldable pub use Rattle.line_text.specs.Fields.{numbers_of}
pub use Rattle.line_text.specs.Lines.{ended_lines, last_line, lines_of, rest_of}
unfoldable pub use Rattle.line_text.specs.Lines.{ended_after}
pub use Rattle.line_text.specs.declared.line_reader.limits.Limits.{Limits}
pub use Rattle.line_text.specs.inner.line_reader.Reader.{IsAtEnd, IsNext, IsNextLine, ReaderState, StopsAt}
pub use Rattle.ride_model.specs.declared.command.Command.{Command}
pub use Rattle.ride_model.specs.declared.command.Command.TheVariants.{Ask, At, Bad, Cancel, Clock, Done, Off, On, Request}
