-- The names that most proofs of this crate cite, passed on from one place. Declares nothing.
pub use Rattle.std.proofs.Common.{ap, ◌∙◌, ◌≡◌, sym, subst, length, arith, ◌+◌, ◌<◌, refl, ◌≢◌, [], ℕ, ◌∷◌, List, inl, inr, ◌++◌, None, Some, if◌then◌else◌, map, nat_eq, set, suc, zero, nat_lt, slice_get, eqb, length-set, ◌-◌, ◌^◌, ◌≤◌, ◌⊎◌, eq-eqb, ne_eqb, get_or-set_other, get_or-set_same, Option, false, get_or, true, eqb-true, le-ltb, lt-ltb, IfSome, replicate, ◌==◌}
pub use Rattle.std.proofs.lemmas.Bool.{cases_eq, cases_lt, eqb-false, or_cases}
pub use Rattle.std.proofs.lemmas.Bool.Decides.{nat_tests}
pub use Rattle.std.proofs.lemmas.List.{with_items_is, length-map, get_or_append_left, get_or_past, get_or_push, length-replicate, length_push}
pub use Rattle.std.proofs.lemmas.List.Elements.{Contains-append_cases, Contains-append_left, Contains-append_right, Contains-push, Contains-push_cases}
pub use Rattle.std.proofs.lemmas.Option.{get_or_from_slice_get, slice_get-get_or, slice_get_within}
pub use Rattle.std.specs.List.{IsDistinct, Contains, AllByRecursion, list_any}
pub use Rattle.std.specs.Vec.{with_items}
pub use Rattle.link_lists.specs.declared.circles.Link.{Link}
pub use Rattle.link_lists.specs.inner.Circles.{IsInserted, IsAlone, IsTakenOut, IsPath, Keeps, IsStep}
unfoldable pub use Rattle.link_lists.specs.inner.Circles.{next_of, family_of, before_of, circle_of, nodes_from}
pub use Rattle.link_lists.specs.inner.Family.{list_at, with_behind, without, Family, IsFamily, IsHeld, IsSameSize}
