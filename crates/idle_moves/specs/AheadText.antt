-- The text of sheets: a head, a line for each sheet, and an end.
use Rattle.std.specs.Prelude.{ℕ, List, [], ◌∷◌, ◌++◌, map, codes, decimal}
use Rattle.std.specs.List.{flat_map}
use Rattle.ride_model.specs.declared.entry.Ending.{Ending}
use Rattle.ride_model.specs.Text.{amount_field, joined, line_of, plan_field}
use Rattle.trip_log.specs.Prints.{ending_word}
use Rattle.idle_moves.specs.declared.moves.Move.{Move}
use Rattle.idle_moves.specs.declared.moves.MoveSheet.{MoveSheet}

-- an order: the request, the vehicle with its version, the node and the seconds
abbrev pub order_field : Move → List ℕ
order_field order =
    joined (decimal order.request ∷ plan_field (order.vehicle, order.version) ∷ decimal order.node ∷ decimal order.seconds ∷ [])

-- the line of a sheet
abbrev pub sheet_line : MoveSheet → List ℕ
sheet_line sheet = line_of (
    (codes "moves" ∷ decimal sheet.batch ∷ codes "cost" ∷ decimal sheet.cost ∷ []) ++ (codes "goes" ∷ map order_field sheet.moves)
    ++ (codes "prices" ∷ map amount_field sheet.prices) ++ (codes "pays" ∷ map amount_field sheet.pays))

-- the first line: the version of the text, and the reach
abbrev pub head_line : ℕ → List ℕ
head_line reach = line_of (codes "ahead" ∷ codes "1" ∷ codes "reach" ∷ decimal reach ∷ [])

-- the text of sheets: the first line, one for each, and a last one that says whether the feed was read whole
abbrev pub ahead_text : ℕ → Ending → List MoveSheet → List ℕ
ahead_text reach ending sheets = head_line reach ++ flat_map sheet_line sheets ++ line_of (ending_word ending ∷ [])
