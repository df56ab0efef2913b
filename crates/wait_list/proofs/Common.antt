-- The names that most proofs of this crate cite, passed on from one place. Declares nothing.
pub use Rattle.std.proofs.Common.{subst, sym, ◌∙◌, ◌≡◌, ◌<◌, slice_get, [], ◌∷◌, Contains, Some, List, ap, arith, length, ℕ, ◌++◌, ◌+◌, ◌≤◌, None, append_assoc, nat_eq, suc, Option, Bool, filter, get_or, inl, inr, length-append, refl, true, zero, ◌≢◌, lt-ltb, append-nil, nat_lt, cond, eqb, false, not, ◌-◌, le-ltb, ltb-true, true≢false, All}
pub use Rattle.std.proofs.lemmas.Bool.{cases_Bool, cases_eq, cond-false, cond-true, false≢true}
pub use Rattle.std.proofs.lemmas.List.Elements.{All-from_recursion, Contains-append_right, filter-append, recursion_from_All}
pub use Rattle.std.specs.List.{AllByRecursion, IsDistinct}
pub use Rattle.std.specs.List.Sorted.{IsStrictlyIncreasing}
pub use Rattle.link_lists.proofs.Kept.{Contains-from_get, held-list}
pub use Rattle.link_lists.proofs.Members.{Contains-cons_cases, Contains-here, Contains-nil, Contains-there, ByRecursion-at, ByRecursion-from, IsDistinct-first, IsDistinct-rest, with_behind-here, with_behind-other}
pub use Rattle.link_lists.proofs.Walks.{nodes_left, nodes_left-at}
pub use Rattle.link_lists.specs.inner.Family.{list_at, with_behind, Family, IsHeld}
pub use Rattle.wait_list.specs.inner.Split.{Rises, IsSplit, IsOneList, EndsWith, waiting_of}
pub use Rattle.wait_list.specs.inner.Waiting.{places_above, IsRising, places_below}
