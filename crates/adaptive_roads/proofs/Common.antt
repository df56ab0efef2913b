-- The names that most proofs of this crate cite, passed on from one place. Declares nothing.
pub use Rattle.model_laws.proofs.Common.{All, All-contains, All-from_get_or, Bool, Bor, Contains, Contains-append_cases, Contains-append_left, Contains-append_right, Contains-from_any, Contains-get_or, Contains-push, Contains-push_cases, Decides-and, Decides-eqb, Decides-like, IsArc, IsDistinct, IsDistinct-from_apart, IsFalse, IsRoadMap, IsTravel, IsWalk, List, None, Option, RoadArc, RoadMap, Some, [], ap, arith, cases_eq, cases_lt, cond, drop, eq-eqb, eqb, eqb-true, false, false≢true, get_or, get_or-append-add, get_or-drop, get_or-map, get_or-set_other, get_or-set_same, get_or-take, get_or_append_left, get_or_default, get_or_past, get_or_push, get_or_read, if◌then◌else◌, inl, inr, is_some, length, length-append, length-drop, length-map, length-replicate, length-set, length-take, length_push, list_any, ltb, ltb-false, ltb-true, map, min, nat_lt, nat_tests, ne_eqb, nil_from_length, refl, replicate, rules, same_lists, set, slice_eq-Decides, slice_range, subst, suc, sum, sum_by-append, sum_by-set, sum_by_more, sym, take, take_at, true, weight_of, zero, ℕ, ◌&&◌, ◌++◌, ◌+◌, ◌-◌, ◌<◌, ◌==◌, ◌↔◌, ◌∙◌, ◌∷◌, ◌≡◌, ◌≢◌, ◌≤◌, ◌⊎◌}
unfoldable pub use Rattle.model_laws.proofs.Common.{travel}
pub use Rattle.std.proofs.Common.{flat_map}
pub use Rattle.std.proofs.lemmas.Map.Steps.{length-le_from_distinct_below}
pub use Rattle.adaptive_roads.specs.declared.contraction.graph.Chain.{Chain}
pub use Rattle.adaptive_roads.specs.declared.contraction.graph.Graph.{Graph}
pub use Rattle.adaptive_roads.specs.declared.contraction.graph.Neighbor.{Neighbor}
pub use Rattle.adaptive_roads.specs.declared.contraction.witness.Witness.{Witness}
pub use Rattle.adaptive_roads.specs.declared.road_hierarchy.descents.Upper.{Upper}
pub use Rattle.adaptive_roads.specs.declared.road_hierarchy.selected.Step.{Step}
pub use Rattle.adaptive_roads.specs.inner.contraction.Chains.{IsChained}
pub use Rattle.adaptive_roads.specs.inner.contraction.Contracted.{IsFitContraction, Contracted, IsContractionOf}
pub use Rattle.adaptive_roads.specs.inner.contraction.Graph.{IsGraph, arc_at, chain_at, next_of, IsGraphOf, IsSameGraph, AreChained, IsLive, firsts_in, neighbor_of, no_chain, IsFit, IsOnward, relinked, HasPushed, IsNeighbor, IsTakenOut}
pub use Rattle.adaptive_roads.specs.inner.contraction.Growth.{IsCovered, HasShortcuts, IsHierarchyGraph, IsIncoming, IsOutgoing, IsShortcut}
pub use Rattle.adaptive_roads.specs.inner.contraction.Levels.{level_in, IsOrdered}
pub use Rattle.adaptive_roads.specs.inner.contraction.Witness.{IsRoomy, IsFound, IsWitness, ReachesPast, nothing_reached, reached_at}
pub use Rattle.adaptive_roads.specs.inner.hierarchy_laws.Hierarchy.{IsFalling, IsHierarchy, IsRising, flipped, IsApart, IsRemaining, IsUpDown, IsBypassed, IsHierarchyOf, IsRaised}
pub use Rattle.adaptive_roads.specs.inner.hierarchy_laws.Labels.{time_of, IsLabel, IsGathered}
pub use Rattle.adaptive_roads.specs.inner.hierarchy_laws.Ways.{Reaches, IsWay}
pub use Rattle.adaptive_roads.specs.inner.road_hierarchy.Climb.{AreClimbs, IsRelaxed, level_of, opposite, IsClimb, IsStep}
pub use Rattle.adaptive_roads.specs.inner.road_hierarchy.Descents.{upper_at, lower_at, no_upper, AreDescents, ArePlaced, upper_of, IsUpperOf}
pub use Rattle.adaptive_roads.specs.inner.road_hierarchy.Links.{IsLinkBy, HaveLevels}
pub use Rattle.adaptive_roads.specs.inner.road_hierarchy.Marks.{node_at, IsMarked, AreClosed, AreClosedBelow}
pub use Rattle.adaptive_roads.specs.inner.road_hierarchy.Meet.{IsMeeting}
pub use Rattle.adaptive_roads.specs.inner.road_hierarchy.Packed.{IsWhole, levelled, IsPacked, IsPackingOf, arc_below, arcs_below, hierarchy_of, uppers_at}
pub use Rattle.adaptive_roads.specs.inner.road_hierarchy.Parts.{start_at, IsIn, AreParts}
pub use Rattle.adaptive_roads.specs.inner.road_hierarchy.Selection.{no_step, step_at, IsFrom, IsSelectingOf, ComeEarlier, IsSelecting, IsSelectionOf, Selection, arc_of, step_from, AreLaidOut, AreStepsOf, IsFree, selection_of}
pub use Rattle.adaptive_roads.specs.inner.road_hierarchy.Sweep.{never, IsSwept, climb_to, label_for, through}
pub use Rattle.adaptive_roads.specs.inner.road_hierarchy.Tallies.{AreStarts, tally, place_of}
pub use Rattle.model_laws.proofs.TravelTimes.{travel-le, travel_is_least, travel-is_travel}
pub use Rattle.model_laws.proofs.Walks.{weight-cons}
pub use Rattle.road_times.specs.declared.side.Side.{Side}
pub use Rattle.road_times.specs.declared.side.Side.TheVariants.{Out, Back}
pub use Rattle.road_times.specs.inner.Sorting.{no_arc}
pub use Rattle.road_times.specs.inner.Turned.{turned_arc, travel_by}
