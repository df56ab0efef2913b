-- What is selected of a hierarchy for a batch.
use Rattle.std.specs.Prelude.{◌≡◌, ℕ, List}
use Rattle.ride_model.specs.Road.{RoadMap}
use Rattle.road_times.specs.declared.side.Side.TheVariants.{Out, Back}
use Rattle.adaptive_roads.specs.inner.contraction.Contracted.{Contracted, IsContractionOf}
use Rattle.adaptive_roads.specs.inner.road_hierarchy.Selection.{Selection, IsSelectionOf}

-- the hierarchy and the wanted nodes
pub record Selected : Type 0 where
  pub hierarchy : Contracted
  pub wanted : List ℕ

-- selections for rows from a node and to it, to the same wanted nodes
pub record AreSelections (hierarchy : Contracted) (out back : Selection) : Type 0 where
  pub out_is : IsSelectionOf hierarchy out
  pub out_side : out.side ≡ Out
  pub back_is : IsSelectionOf hierarchy back
  pub back_side : back.side ≡ Back
  pub same_wanted : back.wanted ≡ out.wanted

-- what was selected of a hierarchy of these roads, for these wanted nodes
pub record IsSelectedOf (roads : RoadMap) (wanted : List ℕ) (selected : Selected) : Type 0 where
  pub hierarchy_is : IsContractionOf roads selected.hierarchy
  pub same_nodes : selected.hierarchy.nodes ≡ roads.nodes
  pub wanted_are : selected.wanted ≡ wanted
