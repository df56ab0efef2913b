-- The names that most proofs of this crate cite, passed on from one place. Declares nothing.
pub use Rattle.model_laws.proofs.Common.{All, All-from_recursion, AllByRecursion, BatchCopy, Bool, IfOk-weaker, IfSome, IsDistinct, IsDistinct-head, IsDistinct-tail, IsLeastSeating, IsSomeAnd, List, None, Offer, Option, Ride, RoadMap, Seat, Settings, Some, Vehicle, [], add-zero, amount_ids, ap, append-nil, arith, cases_eq, cases_lt, cond, cons_option, count_by, drop, eq-eqb, eqb, eqb-false, false, false≢true, fill_by_all, filter_map, filter_map-append, get_or, get_or-drop, get_or-map, get_or-replicate, get_or-set_other, get_or-set_same, get_or-take, get_or_default, get_or_past, get_or_read, if◌then◌else◌, inl, inr, is_some, le-ltb, length, length-map, length-replicate, length-set, lt-ltb, map, map-id, map-range_with_len_more, mul-add-lt, nat_lt, ne_eqb, option_map, range_with_len, refl, replicate, ride_ids, same_Some, same_from_place, seat_of, set, subst, suc, sum, sum-map, sum_by, sum_by-cons, sum_by-replicate, sum_by-set, sym, take, true, vehicle_ids, with_items_is, zero, ℕ, ◌*◌, ◌++◌, ◌+◌, ◌-◌, ◌<◌, ◌==◌, ◌∙◌, ◌∷◌, ◌≡◌, ◌≢◌, ◌≤◌, ◌⊎◌}
pub use Rattle.std.proofs.Common.{filter}
pub use Rattle.batch_commit.specs.inner.Answer.{CertifiesOverCells, IsSeatAt}
pub use Rattle.batch_commit.specs.inner.Table.{IsTableOf, Table, FitsBatch}
pub use Rattle.dual_check.proofs.CertifiedPairings.{certified_pairing_is_least, each-range}
pub use Rattle.dual_check.proofs.ItemOrders.{map-agree, map-map}
pub use Rattle.dual_check.proofs.PairingParts.{row-of-column, sum_by-range-more}
pub use Rattle.dual_check.specs.Cells.{GridCells, cell_at, IsGrid}
pub use Rattle.dual_check.specs.Grid.{price_at, CertifiesPairing, IsPairing, column_of, row_cost, pairing_cost}
pub use Rattle.dual_check.specs.inner.Orders.{StandsInOrder, item_of, has_item}
pub use Rattle.hungarian.specs.Seats.{pays_by, prices_by, pay_at}
pub use Rattle.hungarian.specs.declared.duals.Duals.{Duals}
pub use Rattle.hungarian.specs.declared.matches.Matches.{Matches}
pub use Rattle.hungarian.specs.declared.relaxing.Reach.{Reach}
pub use Rattle.hungarian.specs.declared.search.Exit.TheVariants.{Column, Row}
pub use Rattle.hungarian.specs.declared.search.Path.{Path}
pub use Rattle.hungarian.specs.declared.search.Search.{Search}
pub use Rattle.hungarian.specs.inner.Costs.{cost_of, HasCosts}
pub use Rattle.hungarian.specs.inner.Labels.{rank_at, distance_at, IsReached, IsSized, source_at, IsPath, IsExit, IsNext, IsSearch, sooner_path, IsLeaving, IsTraced}
pub use Rattle.hungarian.specs.inner.Mates.{mate, AreMates, AreMatesBut}
pub use Rattle.hungarian.specs.inner.Partial.{IsPartial, IsTight}
pub use Rattle.hungarian.specs.inner.Rises.{column_rise, mate_rise, AreRaisable, IsColumnRaised, IsRaisable, IsRaised, rise_from}
pub use Rattle.hungarian.specs.inner.Searching.{IsSearching}
pub use Rattle.hungarian.specs.inner.Seats.{seats_by, seat_at}
pub use Rattle.hungarian.specs.inner.Turned.{IsLeft, IsReady, IsTurned, IsFlippable, IsEnd}
pub use Rattle.hungarian.specs.inner.Ways.{IsShortened, IsNearest, IsRelaxable}
pub use Rattle.model_laws.proofs.plain.Options.{none_from_not_some}
