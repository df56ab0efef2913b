-- The text of a round's line.
use Rattle.fleet_league.proofs.Common.{◌≡◌, ℕ, List, [], ◌∷◌, ◌++◌, map, ap, sym, ◌∙◌, append_assoc, codes, decimal, Outcome, amount_field, outcome_field, fields_then-append, fields_then-map, fields_then-more, line-fields, RoundSheet, award_field, pay_field, round_line}
use Rattle.trip_log.specs.inner.Prints.{fields_then, listed}
use Rattle.fleet_league.specs.declared.league_session.sheets.RoundAward.{RoundAward}
use Rattle.fleet_league.specs.declared.league_session.sheets.RoundPay.{RoundPay}

-- a word and items after fields
items-then : {X : Type 0} (fields : List (List ℕ)) (word : List ℕ) (field : X → List ℕ) (items : List X) (rest : List ℕ)
    → fields_then (fields ++ word ∷ map field items) rest ≡ fields_then fields (32 ∷ (word ++ (listed field items ++ rest)))
items-then fields word field items rest =
    fields_then-append fields (word ∷ map field items) rest
    ∙ ap (λ more. fields_then fields (32 ∷ (word ++ more))) (fields_then-map field items rest)

module _ (awards : List RoundAward) (prices : List (ℕ × ℕ)) (pays : List RoundPay) (outcomes : List (ℕ × Outcome)) where
  abbrev with_prices : List (List ℕ)
  with_prices = map award_field awards ++ codes "prices" ∷ map amount_field prices

  abbrev with_pays : List (List ℕ)
  with_pays = with_prices ++ codes "pays" ∷ map pay_field pays

  abbrev last : List ℕ
  last = codes " outcomes" ++ (listed outcome_field outcomes ++ 10 ∷ [])

  lists_text : fields_then (map award_field awards ++ (codes "prices" ∷ map amount_field prices) ++ (codes "pays" ∷ map pay_field pays)
      ++ (codes "outcomes" ∷ map outcome_field outcomes)) (10 ∷ [])
      ≡ listed award_field awards ++ (codes " prices" ++ (listed amount_field prices ++ (codes " pays" ++ (listed pay_field pays ++ last))))
  lists_text =
      items-then with_pays (codes "outcomes") outcome_field outcomes (10 ∷ [])
      ∙ items-then with_prices (codes "pays") pay_field pays last
      ∙ items-then (map award_field awards) (codes "prices") amount_field prices (codes " pays" ++ (listed pay_field pays ++ last))
      ∙ fields_then-map award_field awards _

-- the text of a line
pub round_text : (number : ℕ) (sheet : RoundSheet) (awards : List RoundAward) (prices : List (ℕ × ℕ)) (pays : List RoundPay)
    (outcomes : List (ℕ × Outcome)) → awards ≡ sheet.awards → prices ≡ sheet.prices → pays ≡ sheet.pays → outcomes ≡ sheet.outcomes
    → (codes "round" ++ fields_then (decimal number ∷ codes "cost" ∷ decimal sheet.cost ∷ []) [])
    ++ (codes " awards" ++ (listed award_field awards ++ (codes " prices" ++ (listed amount_field prices
    ++ (codes " pays" ++ (listed pay_field pays ++ (codes " outcomes" ++ (listed outcome_field outcomes ++ 10 ∷ [])))))))) ≡ round_line number sheet
round_text number sheet awards prices pays outcomes awards_are prices_are pays_are outcomes_are =
    let start : List (List ℕ) = decimal number ∷ codes "cost" ∷ decimal sheet.cost ∷ [] in
    append_assoc (codes "round") (fields_then start []) _
    ∙ ap (λ more. codes "round" ++ more) (fields_then-more start _)
    ∙ ap (λ more. codes "round" ++ fields_then start (codes " awards" ++ more)) (sym (lists_text awards prices pays outcomes))
    ∙ line-fields (codes "round") (decimal number ∷ codes "cost" ∷ decimal sheet.cost ∷ codes "awards"
    ∷ (map award_field awards ++ (codes "prices" ∷ map amount_field prices) ++ (codes "pays" ∷ map pay_field pays)
    ++ (codes "outcomes" ∷ map outcome_field outcomes)))
    ∙ (λ i. round_line number (record sheet { awards = awards_are i; prices = prices_are i; pays = pays_are i; outcomes = outcomes_are i }))
