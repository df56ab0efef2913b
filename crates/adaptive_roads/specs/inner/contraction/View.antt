-- What a contract sees of a graph.
use Rattle.std.specs.Prelude.{Bool}
use Rattle.adaptive_roads.specs.declared.contraction.graph.Graph.{Graph}
use Rattle.adaptive_roads.specs.inner.contraction.Contracted.{Contracted}

abbrev pub contracted_of : Bool → Graph → Contracted
contracted_of is_spent graph =
    record { nodes = graph.nodes; arcs = graph.arcs.items; levels = graph.levels.items; order = graph.order.items; is_spent = is_spent }
