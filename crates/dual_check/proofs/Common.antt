-- The names that most proofs of this crate cite, passed on from one place. Declares nothing.
pub use Rattle.model_laws.proofs.Common.{All, All-contains, All-from_recursion, All-map, AllByRecursion, BatchCopy, Bool, Certifies, Contains-get_or, IfSome, IsCovered, IsDistinct, IsDistinct-cons, IsDistinct-from_apart, IsDistinct-head, IsDistinct-tail, IsFleet, IsLeastSeating, IsSome, IsSomeAnd, List, MatchBool, MatchOption, None, Offer, Option, Ride, RoadMap, Seat, Some, Vehicle, [], add-one, amount_ids, amount_of, ap, apart_from_distinct, append-nil, append_assoc, arith, cases_lt, cases_order, cond, count_by-le-length, drop, drop_all, drop_more, enumerate_from, eq-eqb, eqb, eqb-false, eqb-true, ext_get_or, false, false≢true, fill_by_all, find, find_at, find_ride, find_vehicle, get_or, get_or-map, get_or-take, get_or_past, has_amount, has_seat, inl, inr, is_some, length, length-drop, length-filter, length-filter_both, length-map, length-take, length_push, list_any, lt-ltb, map, map-id, mul-suc, ne_eqb, not, not-true, option_and_then, option_map, or_right, position_or_len, position_or_len_is, price, range_with_len, refl, ride_ids, rules, seat_cost, seat_of, seat_offer, seating_cost, slice_get-get_or, slice_index_or, subst, suc, sum, sum-map, sum_by, sum_by-cons, sum_by-filter_both, sum_by-map-range_with_len_more, sym, take, tests, true, true≢false, unwrap_or, vehicle_ids, zero, ℕ, ◌*◌, ◌++◌, ◌+◌, ◌-◌, ◌<◌, ◌==◌, ◌^◌, ◌||◌, ◌∙◌, ◌∷◌, ◌≡◌, ◌≤◌}
unfoldable pub use Rattle.model_laws.proofs.Common.{offer_of}
pub use Rattle.std.proofs.Common.{filter}
pub use Rattle.std.specs.List.{slice_get}
pub use Rattle.batch_commit.specs.inner.Answer.{place_of, CertifiesOverCells, IsSeatAt, cell_cost, cells_cost}
pub use Rattle.batch_commit.specs.inner.Table.{Table, FitsBatch, IsLeastOffer, IsTableOf}
pub use Rattle.dual_check.specs.Cells.{cell_at, GridCells}
pub use Rattle.dual_check.specs.Grid.{column_of, price_at, CertifiesPairing, row_cost, IsPairing, pairing_cost, IsLeastPairing}
pub use Rattle.dual_check.specs.inner.Costs.{cost_grid, seat_place, seat_columns, amounts_over, amount_alone}
pub use Rattle.dual_check.specs.inner.Orders.{item_of, StandsInOrder, has_item, first_if_of}
pub use Rattle.dual_check.specs.inner.Parts.{CoversRow, HasColumnsOnce, IsFree, StandsInCell, StandsInCells}
pub use Rattle.model_laws.proofs.Certificates.{sum-amounts-le, amount-cons, certified_is_least, sum-amounts}
pub use Rattle.model_laws.proofs.plain.Among.{Among, contains_from_among, among_from_contains, found_among}
pub use Rattle.model_laws.proofs.plain.Each.{each-among, each-filter, each-weaker}
pub use Rattle.model_laws.proofs.plain.Filters.{filter-all, filter-same}
pub use Rattle.model_laws.proofs.plain.Lists.{distinct-filter}
pub use Rattle.model_laws.proofs.plain.Sums.{sum_by-map}
