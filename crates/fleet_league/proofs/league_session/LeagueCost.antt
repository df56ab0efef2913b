-- The commits of a round cost the least, together with a penalty for each request that is left out.
use Rattle.fleet_league.proofs.Common.{◌≡◌, ℕ, ◌+◌, ◌*◌, ◌<◌, ◌⊎◌, inl, inr, Bool, true, false, List, [], ◌∷◌, length, get_or, Option, Some, None, refl, sym, ap, ◌∙◌, arith, mul_comm, ◌==◌, map, filter, range_with_len, sum_by, AllByRecursion, eq-eqb, ne_eqb, sum_by-cons, length-range_with_len, add-mul, Ride, Paired, column_of, pairing_cost, row_cost, each-range, sum_by-times, state_of, Brief, RoundColumn, Quote, CompanyState, commit_cost, quotes_of, round_columns, round_rows, is_chosen, IsRound, company_prices, brief_of, union_columns}
use Rattle.model_laws.proofs.AboardLoads.{filter-kept, filter-skipped}
use Rattle.fleet_league.proofs.league_session.BriefCertified.{brief-cost, chosen-at, no_column, pairing_each, won-each}
use Rattle.fleet_league.proofs.league_session.PlayedRounds.{AreMet, either-company, share-first, share-second}

-- an element passes just one of two tests, or neither and is worth so much
abbrev IsSorted : (ℕ → Bool) → (ℕ → Bool) → (ℕ → ℕ) → ℕ → ℕ → Type 0
IsSorted p q f m x =
    ((p x ≡ true) × (q x ≡ false)) ⊎ (((p x ≡ false) × (q x ≡ true)) ⊎ ((p x ≡ false) × (q x ≡ false) × (f x ≡ m)))

-- the sum of what passes either test, and of the others
three-parts : (p q : ℕ → Bool) (f : ℕ → ℕ) (m : ℕ) (xs : List ℕ) → AllByRecursion (IsSorted p q f m) xs
    → sum_by f xs + sum_by (λ _. m) (filter p xs) + sum_by (λ _. m) (filter q xs)
    ≡ sum_by f (filter p xs) + sum_by f (filter q xs) + sum_by (λ _. m) xs
three-parts p q f m [] sorted = refl
three-parts p q f m (x ∷ xs) (here, later) =
    let rest = three-parts p q f m xs later in
    let g : ℕ → ℕ = λ _. m in
    let whole_f = sum_by-cons f x xs in
    let whole_g = sum_by-cons g x xs in
    elim here [
      | inl one ↦
          let kept = filter-kept p x xs one.0 in
          let left = filter-skipped q x xs one.1 in
          omega (
            arith,
            rest,
            whole_f,
            whole_g,
            ap (sum_by f) kept ∙ sum_by-cons f x (filter p xs),
            ap (sum_by g) kept ∙ sum_by-cons g x (filter p xs),
            ap (sum_by f) left,
            ap (sum_by g) left,
          )
      | inr others ↦ elim others [
        | inl two ↦
            let left = filter-skipped p x xs two.0 in
            let kept = filter-kept q x xs two.1 in
            omega (
              arith,
              rest,
              whole_f,
              whole_g,
              ap (sum_by f) kept ∙ sum_by-cons f x (filter q xs),
              ap (sum_by g) kept ∙ sum_by-cons g x (filter q xs),
              ap (sum_by f) left,
              ap (sum_by g) left,
            )
        | inr none ↦
            let (not_p, not_q, worth) = none in
            let first = filter-skipped p x xs not_p in
            let second = filter-skipped q x xs not_q in
            omega (arith, rest, whole_f, whole_g, worth, ap (sum_by f) first, ap (sum_by g) first, ap (sum_by f) second, ap (sum_by g) second)
      ]
    ]

-- as often one number
times : (m : ℕ) (xs : List ℕ) → sum_by (λ _. m) xs ≡ length xs * m
times m xs = sum_by-times (λ _. m) m xs (each xs) ∙ mul_comm m (length xs)
  where
    each : (ys : List ℕ) → AllByRecursion (λ _. m ≡ m) ys
    each [] = tt
    each (y ∷ ys) = (refl, each ys)

module _ (first second : CompanyState) (rides : List Ride) (penalty : ℕ) (round : Paired) (met : AreMet first second penalty)
    (is : IsRound penalty (company_prices (quotes_of (state_of first.board) (state_of second.board) rides)) round) where
  abbrev quotes : List Quote
  quotes = quotes_of (state_of first.board) (state_of second.board) rides

  abbrev columns : List RoundColumn
  columns = union_columns quotes

  abbrev chosen : ℕ → List Bool
  chosen company = map (λ (column : RoundColumn). column.company == company) columns

  abbrev into : ℕ → ℕ → Bool
  into company row = is_chosen (chosen company) (column_of round.columns row)

  abbrev cost : ℕ → ℕ
  cost row = row_cost is.grid penalty row (column_of round.columns row)

  -- each row is paired into one company's columns, or costs the penalty
  row-sorted : (row : ℕ) → IsSorted (into 1) (into 2) cost penalty row
  row-sorted row = by_column (column_of round.columns row) refl
    where
      by_column : (o : Option ℕ) → column_of round.columns row ≡ o → IsSorted (into 1) (into 2) cost penalty row
      by_column None none =
          inr (inr (ap (is_chosen (chosen 1)) none, ap (is_chosen (chosen 2)) none, ap (row_cost is.grid penalty row) none))
      by_column (Some j) paired =
          let low : j < length columns = omega (
            arith,
            (share-first first second rides penalty round met is).certified.paired.in_grid row j paired,
            (share-first first second rides penalty round met is).wide,
          ) in
          let company : ℕ = (get_or columns j no_column).company in
          let ones : into 1 row ≡ (company == 1)
          = ap (is_chosen (chosen 1)) paired
          ∙ chosen-at (state_of first.board) columns 1 0 rides round is.grid penalty (share-first first second rides penalty round met is) j low in
          let twos : into 2 row ≡ (company == 2)
          = ap (is_chosen (chosen 2)) paired
          ∙ chosen-at (state_of second.board) columns 2 (0 + length (state_of first.board).vehicles) rides round is.grid penalty
          (share-second first second rides penalty round met is) j low in
          elim (either-company first second rides penalty round met is j no_column low) [
            | inl one ↦ inl (ones ∙ eq-eqb company 1 one, twos ∙ ne_eqb company 2 (λ two. absurd (omega (arith, one, two))))
            | inr two ↦ inr (inl (ones ∙ ne_eqb company 1 (λ one. absurd (omega (arith, one, two))), twos ∙ eq-eqb company 2 two))
          ]

  abbrev first_brief : Brief
  first_brief = brief_of 1 (round_rows quotes rides round) (round_columns quotes round)

  abbrev second_brief : Brief
  second_brief = brief_of 2 (round_rows quotes rides round) (round_columns quotes round)

  pub league-cost : (left : ℕ) → left + length first_brief.wins + length second_brief.wins ≡ length rides
      → commit_cost (state_of first.board) first_brief + commit_cost (state_of second.board) second_brief + left * penalty
      ≡ pairing_cost is.grid penalty round.columns
  league-cost left all_left =
      let share_one = share-first first second rides penalty round met is in
      let share_two = share-second first second rides penalty round met is in
      let before : ℕ = 0 + length (state_of first.board).vehicles in
      let rows : List ℕ = range_with_len 0 (length round.columns) in
      let won_one : length first_brief.wins ≡ length (filter (into 1) rows)
      = won-each (state_of first.board) columns 1 0 rides round is.grid penalty share_one in
      let won_two : length second_brief.wins ≡ length (filter (into 2) rows)
      = won-each (state_of second.board) columns 2 before rides round is.grid penalty share_two in
      let each_ride : length round.columns ≡ length rides
      = pairing_each (state_of first.board) columns 1 0 rides round is.grid penalty share_one in
      let parts = three-parts (into 1) (into 2) cost penalty rows
      (each-range (IsSorted (into 1) (into 2) cost penalty) 0 (length round.columns) (λ row _ _. row-sorted row)) in
      let total : pairing_cost is.grid penalty round.columns ≡ sum_by cost rows
      = ap (λ n. sum_by cost (range_with_len 0 n)) (sym is.certified.paired.one_each) in
      let first_cost : commit_cost (state_of first.board) first_brief ≡ sum_by cost (filter (into 1) rows)
      = brief-cost (state_of first.board) columns 1 0 rides round is.grid penalty share_one in
      let second_cost : commit_cost (state_of second.board) second_brief ≡ sum_by cost (filter (into 2) rows)
      = brief-cost (state_of second.board) columns 2 before rides round is.grid penalty share_two in
      let ones : sum_by (λ _. penalty) (filter (into 1) rows) ≡ length first_brief.wins * penalty
      = times penalty (filter (into 1) rows) ∙ ap (λ k. k * penalty) (sym won_one) in
      let twos : sum_by (λ _. penalty) (filter (into 2) rows) ≡ length second_brief.wins * penalty
      = times penalty (filter (into 2) rows) ∙ ap (λ k. k * penalty) (sym won_two) in
      let all : sum_by (λ _. penalty) rows ≡ (left + length first_brief.wins + length second_brief.wins) * penalty
      = times penalty rows
      ∙ ap (λ k. k * penalty) (length-range_with_len 0 (length round.columns) ∙ each_ride ∙ sym all_left) in
      omega (
        arith,
        parts,
        total,
        first_cost,
        second_cost,
        ones,
        twos,
        all,
        add-mul (left + length first_brief.wins) (length second_brief.wins) penalty,
        add-mul left (length first_brief.wins) penalty,
      )
