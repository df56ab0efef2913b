-- Arcs with one pair of neighbours more.
use Rattle.city_maker.proofs.Common.{◌≡◌, ℕ, ◌+◌, ◌<◌, ◌≤◌, Bool, true, false, cond, nat_lt, List, [], ◌∷◌, ◌++◌, length, refl, sym, ap, ◌∙◌, append_assoc, subst, arith, flat_map, range_with_len, enumerate_from, append-nil, length_push, lt-ltb, le-ltb, flat_map-append, state_after, draw_at, RoadArc, node_at, arcs_between, arcs_of, pairs_at, HasJoined}
use Rattle.city_maker.specs.declared.roads.Roads.{Roads}
use Rattle.city_maker.proofs.ListsOfRanges.{flat_map-range_more, enumerate_from-push}

abbrev pub arc : ℕ → ℕ → ℕ → RoadArc
arc tail head seconds = record { tail = tail; head = head; seconds = seconds }

pub arcs_of-push : (seed : ℕ) (pairs : List (ℕ × ℕ)) (pair : ℕ × ℕ)
    → arcs_of seed (pairs ++ pair ∷ []) ≡ arcs_of seed pairs ++ arcs_between seed (length pairs, pair)
unfolding arcs_of
arcs_of-push seed pairs pair =
    ap (flat_map (arcs_between seed)) (enumerate_from-push 0 pairs pair)
    ∙ flat_map-append (arcs_between seed) (enumerate_from 0 pairs) ((0 + length pairs, pair) ∷ [])
    ∙ ap (λ xs. arcs_of seed pairs ++ xs) (append-nil (arcs_between seed (0 + length pairs, pair)) ∙ ap (λ k. arcs_between seed (k, pair)) (let e : 0 + length pairs ≡ length pairs = omega arith in e))

-- a pair more is joined by two arcs of one draw
pub joined-more : (seed : ℕ) (pairs : List (ℕ × ℕ)) (first second seconds : ℕ) (old new : Roads) → HasJoined seed pairs old
    → seconds ≡ 30 + draw_at seed (length pairs) 91
    → new.arcs.items ≡ (old.arcs.items ++ arc first second seconds ∷ []) ++ arc second first seconds ∷ []
    → new.draws.state ≡ state_after seed (length pairs + 1)
    → HasJoined seed (pairs ++ (first, second) ∷ []) new
unfolding arcs_between
joined-more seed pairs first second seconds old new joined drawn arcs state = record {
  arcs = arcs ∙ append_assoc old.arcs.items (arc first second seconds ∷ []) (arc second first seconds ∷ [])
      ∙ ap (λ xs. xs ++ arc first second seconds ∷ arc second first seconds ∷ []) joined.arcs
      ∙ ap (λ s. arcs_of seed pairs ++ arc first second s ∷ arc second first s ∷ []) drawn
      ∙ sym (arcs_of-push seed pairs (first, second));
  draws = state ∙ ap (state_after seed) (sym (length_push pairs (first, second)));
}

pub joined-none : (seed : ℕ) (roads : Roads) → roads.arcs.items ≡ [] → roads.draws.state ≡ state_after seed 0 → HasJoined seed [] roads
unfolding arcs_of
joined-none seed roads none state = record { arcs = none; draws = state }

-- the same roads over equal pairs
pub joined-same : (seed : ℕ) (pairs others : List (ℕ × ℕ)) (roads : Roads) → pairs ≡ others → HasJoined seed pairs roads → HasJoined seed others roads
joined-same seed pairs others roads same joined = subst (λ ps. HasJoined seed ps roads) same joined

-- the pairs of the first nodes of a row, and of the first rows
abbrev pub pairs_in_row : ℕ → ℕ → ℕ → List (ℕ × ℕ)
pairs_in_row side row columns = flat_map (pairs_at side row) (range_with_len 0 columns)

abbrev pub pairs_in_rows : ℕ → ℕ → List (ℕ × ℕ)
pairs_in_rows side rows = flat_map (λ row. pairs_in_row side row side) (range_with_len 0 rows)

pub pairs_in_row-more : (side row column : ℕ) → pairs_in_row side row (column + 1) ≡ pairs_in_row side row column ++ pairs_at side row column
pairs_in_row-more side row column = flat_map-range_more (pairs_at side row) 0 column column (omega arith)

pub pairs_in_rows-more : (side row : ℕ) → pairs_in_rows side (row + 1) ≡ pairs_in_rows side row ++ pairs_in_row side row side
pairs_in_rows-more side row = flat_map-range_more (λ row. pairs_in_row side row side) 0 row row (omega arith)

-- the pairs of a node with its right neighbour and with its lower one, by what their tests give
pub pairs_at-is : (side row column : ℕ) (right lower : Bool) → nat_lt (column + 1) side ≡ right → nat_lt (row + 1) side ≡ lower
    → pairs_at side row column
    ≡ cond right ((node_at side row column, node_at side row (column + 1)) ∷ []) []
    ++ cond lower ((node_at side row column, node_at side (row + 1) column) ∷ []) []
unfolding pairs_at
pairs_at-is side row column right lower right_is lower_is = rw (right_is, lower_is) refl

-- roads that are equal
pub joined-at : (seed : ℕ) (pairs : List (ℕ × ℕ)) (roads others : Roads) → others ≡ roads → HasJoined seed pairs roads → HasJoined seed pairs others
joined-at seed pairs roads others same joined = subst (HasJoined seed pairs) (sym same) joined

module _ (side row column : ℕ) where
  right : node_at side row (column + 1) ≡ node_at side row column + 1
  right = omega arith

  lower : node_at side (row + 1) column ≡ node_at side row column + side
  lower = omega arith

  pub pairs_at-both : column + 1 < side → row + 1 < side
      → pairs_at side row column ≡ (node_at side row column, node_at side row column + 1) ∷ (node_at side row column, node_at side row column + side) ∷ []
  pairs_at-both inner upper =
      pairs_at-is side row column true true (lt-ltb (column + 1) side inner) (lt-ltb (row + 1) side upper)
      ∙ ap (λ n. (node_at side row column, n) ∷ (node_at side row column, node_at side (row + 1) column) ∷ []) right
      ∙ ap (λ n. (node_at side row column, node_at side row column + 1) ∷ (node_at side row column, n) ∷ []) lower

  pub pairs_at-right : column + 1 < side → side ≤ row + 1 → pairs_at side row column ≡ (node_at side row column, node_at side row column + 1) ∷ []
  pairs_at-right inner last =
      pairs_at-is side row column true false (lt-ltb (column + 1) side inner) (le-ltb (row + 1) side last)
      ∙ ap (λ n. (node_at side row column, n) ∷ []) right

  pub pairs_at-lower : side ≤ column + 1 → row + 1 < side → pairs_at side row column ≡ (node_at side row column, node_at side row column + side) ∷ []
  pairs_at-lower last upper =
      pairs_at-is side row column false true (le-ltb (column + 1) side last) (lt-ltb (row + 1) side upper)
      ∙ ap (λ n. (node_at side row column, n) ∷ []) lower

  pub pairs_at-none : side ≤ column + 1 → side ≤ row + 1 → pairs_at side row column ≡ []
  pairs_at-none last lowest = pairs_at-is side row column false false (le-ltb (column + 1) side last) (le-ltb (row + 1) side lowest)
