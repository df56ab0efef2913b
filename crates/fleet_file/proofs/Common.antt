-- The names that most proofs of this crate cite, passed on from one place. Declares nothing.
pub use Rattle.model_laws.proofs.Common.{idle_vehicle, All, All-append, AllByRecursion, Bool, Err, IfSome, IsDistinct, IsDistinct-push, IsFleet, IsLawful, IsSettings, List, MatchResult, MayStart, None, Ok, Option, Result, RoadMap, Settings, Some, Vehicle, [], ap, arith, bytes_eq, codes, cond, eq-eqb, eqb-false, eqb-true, false, false_from_ne_true, is_some, le-leb, length, length_push, list_any, ltb-false, map, map_push, nat_eq, nat_eq_equiv, nat_le, nat_lt, or_parts, refl, slice_index_or, subst, suc, sym, take, true, true≢false, zero, ℕ, ◌++◌, ◌+◌, ◌<◌, ◌==◌, ◌^◌, ◌||◌, ◌∙◌, ◌∷◌, ◌≡◌, ◌≢◌, ◌≤◌}
pub use Rattle.fleet_file.specs.FleetText.{fleet_text, FleetSoFar, after_words, fleet_format, vehicle_from, has_value_out, is_out, setting_line, setting_of, settings_of, vehicle_line, Setting, all_settings}
pub use Rattle.fleet_file.specs.declared.errors.FleetError.{FleetError}
pub use Rattle.fleet_file.specs.declared.errors.FleetError.TheVariants.{NoMemory, ReadFault, TooLong, BadLine}
pub use Rattle.fleet_file.specs.declared.vehicles.NewVehicle.{NewVehicle}
pub use Rattle.fleet_file.specs.inner.Reading.{AreInRange, Gives, HasTaken, IsWithin, Refuses, is_read_fault, said}
pub use Rattle.line_text.proofs.TextLemmas.{after_lines-push, some_bytes, text_value-refused, text_value-taken, text_value-too_long}
pub use Rattle.line_text.specs.Fields.{words_of}
unfoldable pub use Rattle.line_text.specs.Fields.{numbers_of}
pub use Rattle.line_text.specs.Lines.{lines_of, ended_lines}
pub use Rattle.line_text.specs.Texts.{after_ended, and_then}
unfoldable pub use Rattle.line_text.specs.Texts.{after_lines}
