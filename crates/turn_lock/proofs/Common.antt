-- The names that most proofs of this crate cite, passed on from one place. Declares nothing.
pub use Rattle.std.proofs.Common.{ap, arith, ◌∙◌, Some, [], refl, ◌∷◌, List, sym, ℕ, ◌≡◌, Option, length, set, subst, true, ◌<◌, ◌≢◌, None, false, ◌++◌, eqb, get_or, suc, zero, ⊎_elim, ◌+◌, Bool, cond, eq-eqb, ne_eqb, not, ◌&&◌, ◌≤◌, append_assoc, drop, inl, inr, length-append, length-set, map, ◌%◌, ◌-◌, ◌^◌, ◌⊎◌, append-nil}
pub use Rattle.std.proofs.lemmas.List.Elements.{All-nil, All-push, filter-append}
pub use Rattle.atomic_table.proofs.Lists.{set_here, set_again, set_else, at_longer, at_set}
pub use Rattle.atomic_table.specs.Table.{State, Allows, Me, keeps, step, opening, rest, stepped, Act, Joins, Splits, Valid, carried_after, gives, takes}
pub use Rattle.turn_lock.specs.Knowledge.{after_enter, after_leave, after_note}
pub use Rattle.turn_lock.specs.declared.rule.View.{View}
pub use Rattle.turn_lock.specs.inner.History.{items_of, EndedStand, longer}
pub use Rattle.turn_lock.specs.inner.Rule.{IsKept, others_in, Fits, Leads, Spot, Stands, away, home, homes_of, turn_of, is_other}
pub use Rattle.turn_lock.specs.inner.Steps.{slots_of, first_view, with_knowledge, with_note, Continues, Grabs, HandsOn, IsJoined, Looks, Notes, both_of, left_of, right_of, spent_view}
pub use lib.ListN.{get_elem?}
pub use mathlib.Core.List.{IsPrefix}
pub use mathlib.Core.Logic.{dite}
pub use mathlib.Core.Option.{some, none, some-injective, some-ne-none}
pub use native.Mathlib.Decide.{dec_le, ℕ_discrete}
