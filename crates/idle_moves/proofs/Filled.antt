-- A grid that is filled cell by cell.
use Rattle.idle_moves.proofs.Common.{◌≡◌, ℕ, zero, suc, ◌+◌, ◌*◌, ◌<◌, List, [], ◌∷◌, ◌++◌, length, set, map, take, get_or, replicate, refl, sym, ap, subst, ◌∙◌, arith, append_assoc, length-append, Option, Some, None, flat_map, set-append_seam, append-nil, length-map, length-take-le, map_more, take_more, flat_map-append, mul-add-lt, GridCells, BeginsWith, with_cell, within}

-- the next cell is empty, and is written or left so
next-cell : (written : List (Option ℕ)) (cell : Option ℕ) (grid : GridCells) (place left : ℕ) → length written ≡ place
    → place < grid.rows * grid.columns → length written + left ≡ grid.rows * grid.columns
    → grid.cells ≡ written ++ replicate left None → BeginsWith (written ++ cell ∷ []) (with_cell grid place cell)
next-cell written cell grid place zero at low sized is = absurd (omega (arith, at, low, sized))
next-cell written None grid place (suc left) at low sized is = record {
  left = left;
  sized = omega (arith, sized, length-append written (nothing ∷ []));
  cells_are = is ∙ sym (append_assoc written (None ∷ []) (replicate left None));
}
  where
    nothing : Option ℕ
    nothing = None
next-cell written (Some amount) grid place (suc left) at low sized is = record {
  left = left;
  sized = omega (arith, sized, length-append written (Some amount ∷ []));
  cells_are =
      ap (λ cells. set cells place (Some amount)) is
      ∙ ap (λ n. set (written ++ replicate (suc left) None) n (Some amount)) (sym at)
      ∙ set-append_seam written None (replicate left None) (Some amount)
      ∙ sym (append_assoc written (Some amount ∷ []) (replicate left None));
}

-- the cells so far of a row are followed by the next
pub cell-written : (before : List (Option ℕ)) (reach row column : ℕ) (times : List (Option ℕ)) (grid : GridCells)
    → length before ≡ row * grid.columns → row < grid.rows → column < grid.columns → column < length times
    → BeginsWith (before ++ map (within reach) (take column times)) grid
    → BeginsWith (before ++ map (within reach) (take (column + 1) times))
    (with_cell grid (row * grid.columns + column) (within reach (get_or times column None)))
cell-written before reach row column times grid at row_in column_in here begins =
    let cell : Option ℕ = within reach (get_or times column None) in
    let so_far : List (Option ℕ) = map (within reach) (take column times) in
    let more : before ++ map (within reach) (take (column + 1) times) ≡ (before ++ so_far) ++ cell ∷ []
    = ap (λ cells. before ++ cells) (map_more (within reach) times column None here)
    ∙ sym (append_assoc before so_far (cell ∷ [])) in
    let count : length (before ++ so_far) ≡ row * grid.columns + column
    = length-append before so_far ∙ ap (λ n. n + length so_far) at
    ∙ ap (λ n. row * grid.columns + n) (length-map (take column times) (within reach) ∙ length-take-le column times (omega (arith, here))) in
    subst (λ cells. BeginsWith cells (with_cell grid (row * grid.columns + column) cell)) (sym more)
    (next-cell (before ++ so_far) cell grid (row * grid.columns + column) begins.left count
    (omega (arith, mul-add-lt row grid.columns column grid.rows row_in column_in)) begins.sized begins.cells_are)

-- a cell that is written changes no size
pub same-rows : (grid : GridCells) (place : ℕ) (cell : Option ℕ) → (with_cell grid place cell).rows ≡ grid.rows
same-rows grid place None = refl
same-rows grid place (Some amount) = refl

pub same-columns : (grid : GridCells) (place : ℕ) (cell : Option ℕ) → (with_cell grid place cell).columns ≡ grid.columns
same-columns grid place None = refl
same-columns grid place (Some amount) = refl

-- the rows so far are followed by the next
pub rows-more : {X : Type 0} (cells : X → List (Option ℕ)) (xs : List X) (row columns : ℕ) (d : X) → row < length xs
    → length (cells (get_or xs row d)) ≡ columns → length (flat_map cells (take row xs)) ≡ row * columns
    → (flat_map cells (take (row + 1) xs) ≡ flat_map cells (take row xs) ++ cells (get_or xs row d))
    × (length (flat_map cells (take (row + 1) xs)) ≡ (row + 1) * columns)
rows-more {X} cells xs row columns d low one so_far =
    let x : X = get_or xs row d in
    let more : flat_map cells (take (row + 1) xs) ≡ flat_map cells (take row xs) ++ cells x
    = ap (flat_map cells) (take_more xs row d low)
    ∙ flat_map-append cells (take row xs) (x ∷ [])
    ∙ ap (λ ys. flat_map cells (take row xs) ++ ys) (append-nil (cells x)) in
    (more, ap length more ∙ length-append (flat_map cells (take row xs)) (cells x) ∙ rows so_far one)
  where
    rows : {a b : ℕ} → a ≡ row * columns → b ≡ columns → a + b ≡ (row + 1) * columns
    rows a_is b_is = omega (arith, a_is, b_is)

-- an empty grid
pub begins-empty : (rows columns : ℕ)
    → BeginsWith [] (record { rows = rows; columns = columns; cells = replicate (rows * columns) None })
begins-empty rows columns = record { left = rows * columns; sized = omega arith; cells_are = refl }

-- a grid of which all cells were written
pub begins-all : (cells : List (Option ℕ)) (grid : GridCells) → BeginsWith cells grid → length cells ≡ grid.rows * grid.columns
    → grid.cells ≡ cells
begins-all cells grid begins sized =
    begins.cells_are ∙ ap (λ n. cells ++ replicate n None) (none begins.left begins.sized) ∙ append-nil cells
  where
    none : (left : ℕ) → length cells + left ≡ grid.rows * grid.columns → left ≡ 0
    none left h = omega (arith, h, sized)
