-- A graph before it has any arc.
use Rattle.adaptive_roads.proofs.Common.{◌≡◌, ℕ, zero, suc, ◌+◌, ◌<◌, inr, List, [], get_or, replicate, refl, sym, subst, arith, length-replicate, RoadArc, Side, Out, Back, Chain, AreChained, IsGraphOf, IsOrdered}
use Rattle.std.specs.Prelude.{◌^◌}

-- nothing but one number
all_same : (n x value : ℕ) → get_or (replicate n value) x value ≡ value
all_same zero x value = refl
all_same (suc n) zero value = refl
all_same (suc n) (suc x) value = all_same n x value

-- no node has a chain
chained-none : (side : Side) (places : ℕ) (levels : List ℕ) → AreChained side [] [] (replicate places 0) levels
chained-none side places levels = record {
  first_node = λ x place is. absurd (omega (arith, is, all_same places x 0));
  next_lower = λ place low. absurd (omega arith);
  next_node = λ place later low is. absurd (omega arith);
  all_first = λ place low live. absurd (omega arith);
  all_next = λ place later before low same live. absurd (omega arith);
}

-- each node is in the core
ordered-none : (nodes places : ℕ) → IsOrdered nodes (replicate places 4294967295) []
ordered-none nodes places = record {
  short = omega arith;
  cored = λ x. inr (all_same places x 4294967295);
  listed = λ k low. absurd (omega arith);
  distinct = λ x low. absurd (omega arith);
}

graph-none : (nodes : ℕ) → nodes < 2 ^ 31
    → IsGraphOf nodes [] [] (replicate (nodes + 1) 0) (replicate (nodes + 1) 0) (replicate (nodes + 1) 4294967295) []
graph-none nodes small = record {
  small = small;
  outs = length-replicate (nodes + 1) 0;
  backs = length-replicate (nodes + 1) 0;
  sized = length-replicate (nodes + 1) 4294967295;
  paired = refl;
  few = omega arith;
  fit = λ place low. absurd (omega arith);
  chained_out = chained-none Out (nodes + 1) (replicate (nodes + 1) 4294967295);
  chained_back = chained-none Back (nodes + 1) (replicate (nodes + 1) 4294967295);
  ordered = ordered-none nodes (nodes + 1);
}

-- a graph of these lists has no arc, and all its nodes are in the core
pub graph-begun : (nodes : ℕ) (arcs : List RoadArc) (chains : List Chain) (first_out first_back levels order : List ℕ) → nodes < 2 ^ 31
    → arcs ≡ [] → chains ≡ [] → first_out ≡ replicate (nodes + 1) 0 → first_back ≡ replicate (nodes + 1) 0
    → levels ≡ replicate (nodes + 1) 4294967295 → order ≡ [] → IsGraphOf nodes arcs chains first_out first_back levels order
graph-begun nodes arcs chains first_out first_back levels order small no_arcs no_chains outs backs cored none =
    subst (λ xs. IsGraphOf nodes xs chains first_out first_back levels order) (sym no_arcs)
    (subst (λ xs. IsGraphOf nodes [] xs first_out first_back levels order) (sym no_chains)
    (subst (λ xs. IsGraphOf nodes [] [] xs first_back levels order) (sym outs)
    (subst (λ xs. IsGraphOf nodes [] [] (replicate (nodes + 1) 0) xs levels order) (sym backs)
    (subst (λ xs. IsGraphOf nodes [] [] (replicate (nodes + 1) 0) (replicate (nodes + 1) 0) xs order) (sym cored)
    (subst (IsGraphOf nodes [] [] (replicate (nodes + 1) 0) (replicate (nodes + 1) 0) (replicate (nodes + 1) 4294967295)) (sym none)
    (graph-none nodes small))))))
