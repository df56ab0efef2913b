-- A round of two rides over two companies of one vehicle each, and the first company's part of it.
use Rattle.std.specs.Prelude.{List, Bool, true, false, [], ◌∷◌, Some}
use Rattle.dual_check.specs.Cells.{GridCells}
use Rattle.dual_check.specs.declared.paired.Paired.{Paired}

-- the prices of both companies: a row for each ride, a column for each vehicle
abbrev pub union : GridCells
union = record { rows = 2; columns = 2; cells = Some 120 ∷ Some 120 ∷ Some 60 ∷ Some 180 ∷ [] }

-- each ride is seated with the other company's vehicle, at its cost
abbrev pub round : Paired
round = record { columns = Some 1 ∷ Some 0 ∷ []; prices = 120 ∷ 60 ∷ []; pays = 0 ∷ 0 ∷ [] }

-- the first company's vehicle
abbrev pub first_company : List Bool
first_company = true ∷ false ∷ []

-- the ride that it takes, with its price
abbrev pub part : GridCells
part = record { rows = 1; columns = 1; cells = Some 60 ∷ [] }

abbrev pub own : Paired
own = record { columns = Some 0 ∷ []; prices = 60 ∷ []; pays = 0 ∷ [] }
