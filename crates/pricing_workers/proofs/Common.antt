-- The names that most proofs of this crate cite, passed on from one place. Declares nothing.
pub use Rattle.model_laws.proofs.Common.{All, All-append, All-drop, All-from_recursion, All-get_or, All-map, AllByRecursion, BatchCopy, Decides-and, Decides-eqb, Decides-like, IfOk-weaker, IfSome, IsBatchOver, IsFresh, IsLawful, IsLawfulSomewhere, IsNode, IsRide, IsRoadMap, IsRouted, Kind, List, MatchOption, None, Offer, Option, Pickup, Ride, RoadMap, Settings, Some, Stop, Vehicle, [], ap, append-nil, ap₂, arith, cases_eq, cases_lt, div-lt_iff_lt-mul, div-mul-add, drop, fill_by_all, flat_map-append, flat_map-cons, get_or, get_or-append-add, get_or-append_seam, get_or-flat_map, get_or-map, get_or-set_other, get_or-set_same, get_or-take, get_or_append_left, get_or_default, inl, inr, is_some, length, length-append, length-drop, length-flat_map-take, length-map, length-map-range_with_len, length-set, length-take, length-take-le, map, map-range_with_len_more, mod-mul-add, mul-add-lt, option_eq, price, range_with_len, recursion_from_All, refl, rules, same_Some, slice_eq-Decides, slice_index_or, slice_set, start_of, subst, suc, sym, take, take-append-drop, take-append-le, take-append_seam, take_all, take_more, true≢false, zero, ℕ, ◌%◌, ◌&&◌, ◌*◌, ◌++◌, ◌+◌, ◌-◌, ◌/◌, ◌<◌, ◌==◌, ◌^◌, ◌∙◌, ◌∷◌, ◌≡◌, ◌≤◌}
unfoldable pub use Rattle.model_laws.proofs.Common.{offer_of, travel}
pub use Rattle.batch_commit.specs.inner.Table.{IsTableOf, Table, HasSmallCosts, IsLeastOffer, cell_at}
pub use Rattle.insertion.specs.declared.near.Near.{Near}
pub use Rattle.insertion.specs.inner.Asked.{IsAsked, HoldsTimes, near_stop}
pub use Rattle.pricing_workers.specs.declared.times.Times.{Times}
pub use Rattle.pricing_workers.specs.declared.wanted.Plan.{Plan}
pub use Rattle.pricing_workers.specs.declared.wanted.Wanted.{Wanted}
pub use Rattle.pricing_workers.specs.inner.Cells.{IsCellOf, AreRowsOf, ArePairsOf}
pub use Rattle.pricing_workers.specs.inner.Pairs.{IsRequest, MayPrice, MayPriceAll}
pub use Rattle.pricing_workers.specs.inner.Rows.{HoldsRows, HasRows, HoldsAt, near_at, IsWide, HoldTimes, near_node}
pub use Rattle.pricing_workers.specs.inner.Wanted.{all_nodes, nodes_of, IsWanted, plan_at}
pub use Rattle.slack_tables.specs.inner.SlackOf.{slack_of}
