-- The texts of sheets.
use Rattle.idle_moves.proofs.Common.{◌≡◌, ℕ, List, [], ◌∷◌, ◌++◌, map, ap, sym, ◌∙◌, append_assoc, codes, decimal, amount_field, fields_then-append, fields_then-map, fields_then-more, line-fields, Move, MoveSheet}
use Rattle.trip_log.specs.inner.Prints.{fields_then, listed}
use Rattle.idle_moves.specs.AheadText.{order_field, sheet_line}

-- the lists of a line
module _ (moves : List Move) (prices pays : List (ℕ × ℕ)) where
  abbrev fields : List (List ℕ)
  fields = map order_field moves ++ (codes "prices" ∷ map amount_field prices) ++ (codes "pays" ∷ map amount_field pays)

  abbrev last : List ℕ
  last = codes " pays" ++ (listed amount_field pays ++ 10 ∷ [])

  lists_text : fields_then fields (10 ∷ [])
      ≡ listed order_field moves ++ (codes " prices" ++ (listed amount_field prices ++ last))
  lists_text =
      fields_then-append (map order_field moves ++ (codes "prices" ∷ map amount_field prices)) (codes "pays" ∷ map amount_field pays) (10 ∷ [])
      ∙ ap (λ more. fields_then (map order_field moves ++ (codes "prices" ∷ map amount_field prices)) (codes " pays" ++ more))
      (fields_then-map amount_field pays (10 ∷ []))
      ∙ fields_then-append (map order_field moves) (codes "prices" ∷ map amount_field prices) last
      ∙ ap (λ more. fields_then (map order_field moves) (codes " prices" ++ more)) (fields_then-map amount_field prices last)
      ∙ fields_then-map order_field moves (codes " prices" ++ (listed amount_field prices ++ last))

-- the text of a line
pub sheet_text : (sheet : MoveSheet) (moves : List Move) (prices pays : List (ℕ × ℕ)) → moves ≡ sheet.moves → prices ≡ sheet.prices
    → pays ≡ sheet.pays
    → (codes "moves" ++ fields_then (decimal sheet.batch ∷ codes "cost" ∷ decimal sheet.cost ∷ []) [])
    ++ (codes " goes" ++ (listed order_field moves ++ (codes " prices" ++ (listed amount_field prices
    ++ (codes " pays" ++ (listed amount_field pays ++ 10 ∷ [])))))) ≡ sheet_line sheet
sheet_text sheet moves prices pays moves_are prices_are pays_are =
    let start : List (List ℕ) = decimal sheet.batch ∷ codes "cost" ∷ decimal sheet.cost ∷ [] in
    append_assoc (codes "moves") (fields_then start []) _
    ∙ ap (λ more. codes "moves" ++ more) (fields_then-more start _)
    ∙ ap (λ more. codes "moves" ++ fields_then start (codes " goes" ++ more)) (sym (lists_text moves prices pays))
    ∙ line-fields (codes "moves") (decimal sheet.batch ∷ codes "cost" ∷ decimal sheet.cost ∷ codes "goes" ∷ fields moves prices pays)
    ∙ (λ i. sheet_line (record sheet { moves = moves_are i; prices = prices_are i; pays = pays_are i }))
