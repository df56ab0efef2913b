-- The names that most proofs of this crate cite, passed on from one place. Declares nothing.
pub use Rattle.std.proofs.Common.{sym, arith, length, subst, ◌≡◌, ◌∙◌, ◌<◌, ap, ℕ, None, Some, [], refl, ◌+◌, ◌-◌, ◌≢◌, ◌≤◌, Option, List, inl, inr, set, suc, zero, Contains, slice_get, ◌∷◌, get_or-set_same, is_some, get_or, nat_eq, ◌/◌, ◌^◌, replicate, bit_xor, false, length-set, true, ◌%◌, true≢false, get_or-set_other, pow-add, IfNone, IsSome, sum_by, rules}
pub use Rattle.std.proofs.lemmas.Bool.{cases_lt, cases_eq, cases_order}
pub use Rattle.std.proofs.lemmas.List.{get_or_past, length-replicate}
pub use Rattle.std.proofs.lemmas.Nat.{le-div, leading_top, xor_lt}
pub use Rattle.std.proofs.lemmas.Nat.Bits.{bit_at-lt, bit_at-trailing_zeros, bit_at-zero, bit_at_above, bit_at_clear_other, bit_at_clear_same, bit_at_set_other, bit_at_set_same, bit_at_xor, same_from_bits}
pub use Rattle.std.specs.Int.{w64, bit_at, leading_zeros, trailing_zeros}
pub use Rattle.std.specs.List.{IsDistinct}
pub use Rattle.link_lists.proofs.Kept.{Contains-from_get, get_or-nils, no_nodes}
pub use Rattle.link_lists.proofs.Members.{Contains-nil, Contains-cons_cases, Contains-here, Contains-left, Contains-there, Contains-without, without-absent, without-first}
pub use Rattle.link_lists.proofs.Walks.{nodes_left, nodes_left-at}
pub use Rattle.link_lists.specs.inner.Family.{list_at, without, Family, IsFamily, IsSameSize, IsHeld}
pub use Rattle.radix_queue.specs.inner.Buckets.{IsPlaced, IsLowest, IsLeastPlaced, key_in, IsBucket, Stands, opened_by, IsMarked, Waits}
