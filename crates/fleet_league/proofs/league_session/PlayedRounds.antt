-- A round of two companies gives each a part that it may be awarded.
use Rattle.fleet_league.proofs.Common.{◌⊎◌, ◌≡◌, ℕ, ◌+◌, ◌<◌, ◌≤◌, inl, inr, List, ◌++◌, length, get_or, refl, sym, ap, subst, ◌∙◌, arith, append-nil, length-append, ◌-◌, map, cases_lt, get_or_append_left, get_or-append-add, get_or-map, length-map, Ride, Vehicle, versions_of, vehicle_ids, State, Paired, element, state_of, Brief, RoundColumn, RoundSheet, Quote, CompanyState, IsRoundOf, quotes_of, MayPlay, MayWin, IsSound, prices_of, IsRound, company_prices, column_of_plan, union_columns}
use Rattle.fleet_league.proofs.league_session.BriefCertified.{IsBlock, IsShare, brief-certified, brief-rides}

-- the columns of two fleets
abbrev two_fleets : List Vehicle → List Vehicle → List RoundColumn
two_fleets first second = map (column_of_plan 1) (versions_of first) ++ map (column_of_plan 2) (versions_of second)

many_of : (company : ℕ) (vehicles : List Vehicle) → length (map (column_of_plan company) (versions_of vehicles)) ≡ length vehicles
many_of company vehicles =
    length-map (versions_of vehicles) (column_of_plan company) ∙ length-map vehicles (λ (v : Vehicle). (v.id, v.version))

ids_of : (vehicles : List Vehicle) → length (vehicle_ids vehicles) ≡ length vehicles
ids_of vehicles = length-map vehicles (λ (v : Vehicle). v.id)

-- a vehicle's column
column-at : (company : ℕ) (vehicles : List Vehicle) (k : ℕ) (d : RoundColumn) → k < length vehicles
    → ((get_or (map (column_of_plan company) (versions_of vehicles)) k d).company ≡ company)
    × ((get_or (map (column_of_plan company) (versions_of vehicles)) k d).vehicle ≡ get_or (vehicle_ids vehicles) k 0)
column-at company vehicles k d low =
    let v : Vehicle = element vehicles k low in
    let plans_each : length (versions_of vehicles) ≡ length vehicles = length-map vehicles (λ (w : Vehicle). (w.id, w.version)) in
    let plans_low : k < length (versions_of vehicles) = omega (arith, low, plans_each) in
    let is : get_or (map (column_of_plan company) (versions_of vehicles)) k d
    ≡ column_of_plan company ((get_or vehicles k v).id, (get_or vehicles k v).version)
    = get_or-map (column_of_plan company) (versions_of vehicles) k (v.id, v.version) d plans_low
    ∙ ap (column_of_plan company) (get_or-map (λ (w : Vehicle). (w.id, w.version)) vehicles k v (v.id, v.version) low) in (
      ap (λ (c : RoundColumn). c.company) is,
      ap (λ (c : RoundColumn). c.vehicle) is ∙ sym (get_or-map (λ (w : Vehicle). w.id) vehicles k v 0 low),
    )

module _ (first second : List Vehicle) where
  abbrev left : List RoundColumn
  left = map (column_of_plan 1) (versions_of first)

  abbrev right : List RoundColumn
  right = map (column_of_plan 2) (versions_of second)

  all_columns : length (two_fleets first second) ≡ length first + length second
  all_columns = length-append left right ∙ (λ i. many_of 1 first i + many_of 2 second i)

  on-left : (k : ℕ) (d : RoundColumn) → k < length first → get_or (two_fleets first second) k d ≡ get_or left k d
  on-left k d low = get_or_append_left left right d k (omega (arith, low, many_of 1 first))

  on-right : (k : ℕ) (d : RoundColumn) → get_or (two_fleets first second) (length first + k) d ≡ get_or right k d
  on-right k d =
      ap (λ n. get_or (two_fleets first second) (n + k) d) (sym (many_of 1 first)) ∙ get_or-append-add left right k d

  pub first-block : IsBlock (two_fleets first second) 1 0 (vehicle_ids first)
  first-block = record {
    within = omega (arith, all_columns, ids_of first);
    company_is = λ k d low.
        let k_low : k < length first = omega (arith, low, ids_of first) in
        let start : 0 + k ≡ k = omega arith in
        ap (λ n. (get_or (two_fleets first second) n d).company) start
        ∙ ap (λ (c : RoundColumn). c.company) (on-left k d k_low) ∙ (column-at 1 first k d k_low).0;
    vehicle_is = λ k d low.
        let k_low : k < length first = omega (arith, low, ids_of first) in
        let start : 0 + k ≡ k = omega arith in
        ap (λ n. (get_or (two_fleets first second) n d).vehicle) start
        ∙ ap (λ (c : RoundColumn). c.vehicle) (on-left k d k_low) ∙ (column-at 1 first k d k_low).1;
    others = λ j d low out own. elim out [
      | inl before ↦ absurd (omega (arith, before))
      | inr after ↦
          let from : length first ≤ j = omega (arith, after, ids_of first) in
          let back : j ≡ length first + (j - length first) = omega (arith, from) in
          let in_second : j - length first < length second = omega (arith, low, all_columns, from) in
          let two : (get_or (two_fleets first second) j d).company ≡ 2
          = ap (λ n. (get_or (two_fleets first second) n d).company) back
          ∙ ap (λ (c : RoundColumn). c.company) (on-right (j - length first) d) ∙ (column-at 2 second (j - length first) d in_second).0 in
          absurd (omega (arith, two, own))
    ];
  }

  pub second-block : IsBlock (two_fleets first second) 2 (length first) (vehicle_ids second)
  second-block = record {
    within = omega (arith, all_columns, ids_of second);
    company_is = λ k d low.
        let k_low : k < length second = omega (arith, low, ids_of second) in
        ap (λ (c : RoundColumn). c.company) (on-right k d) ∙ (column-at 2 second k d k_low).0;
    vehicle_is = λ k d low.
        let k_low : k < length second = omega (arith, low, ids_of second) in
        ap (λ (c : RoundColumn). c.vehicle) (on-right k d) ∙ (column-at 2 second k d k_low).1;
    others = λ j d low out own. elim out [
      | inl before ↦
          let one : (get_or (two_fleets first second) j d).company ≡ 1
          = ap (λ (c : RoundColumn). c.company) (on-left j d before) ∙ (column-at 1 first j d before).0 in
          absurd (omega (arith, one, own))
      | inr after ↦ absurd (omega (arith, after, low, all_columns, ids_of second))
    ];
  }

-- two companies whose boards are sound, and the penalty of a round between them
pub record AreMet (first second : CompanyState) (penalty : ℕ) : Type 0 where
  pub first_sound : IsSound first.board
  pub second_sound : IsSound second.board
  pub first_penalty : penalty ≡ first.board.start.settings.penalty
  pub second_penalty : penalty ≡ second.board.start.settings.penalty

-- both have a share of the round
module _ (first second : CompanyState) (rides : List Ride) (penalty : ℕ) (round : Paired) (met : AreMet first second penalty)
    (is : IsRound penalty (company_prices (quotes_of (state_of first.board) (state_of second.board) rides)) round) where
  abbrev one : State
  one = state_of first.board

  abbrev two : State
  two = state_of second.board

  abbrev quotes : List Quote
  quotes = quotes_of one two rides

  columns-are : union_columns quotes ≡ two_fleets one.vehicles two.vehicles
  columns-are = ap (λ cs. map (column_of_plan 1) (versions_of one.vehicles) ++ cs) (append-nil (map (column_of_plan 2) (versions_of two.vehicles)))

  wide : is.grid.columns ≡ length (union_columns quotes)
  wide =
      let all : is.grid.columns ≡ (0 + length one.vehicles) + length two.vehicles = is.union.columns_all in
      omega (arith, all, all_columns one.vehicles two.vehicles, ap (λ (cs : List RoundColumn). length cs) columns-are)

  tall : is.grid.rows ≡ length rides
  tall = sym (is.union.rows_same 0 (prices_of one rides) (omega arith))

  pub share-first : IsShare one (union_columns quotes) 1 0 rides round is.grid penalty
  share-first = record {
    block = subst (λ cs. IsBlock cs 1 0 (vehicle_ids one.vehicles)) (sym columns-are) (first-block one.vehicles two.vehicles);
    certified = is.certified;
    wide = wide;
    tall = tall;
    stands = is.union.stands 0 (prices_of one rides) refl;
    differ = met.first_sound.differ;
    penalty_is = omega (arith, met.first_penalty, ap (λ settings. settings.penalty) met.first_sound.settings_stay);
  }

  pub share-second : IsShare two (union_columns quotes) 2 (0 + length one.vehicles) rides round is.grid penalty
  share-second = record {
    block = subst (λ n. IsBlock (union_columns quotes) 2 n (vehicle_ids two.vehicles)) from_start
        (subst (λ cs. IsBlock cs 2 (length one.vehicles) (vehicle_ids two.vehicles)) (sym columns-are) (second-block one.vehicles two.vehicles));
    certified = is.certified;
    wide = wide;
    tall = tall;
    stands = is.union.stands 1 (prices_of two rides) refl;
    differ = met.second_sound.differ;
    penalty_is = omega (arith, met.second_penalty, ap (λ settings. settings.penalty) met.second_sound.settings_stay);
  }
    where
      from_start : length one.vehicles ≡ 0 + length one.vehicles
      from_start = omega arith

  -- a column of the union is one company's or the other's
  pub either-company : (j : ℕ) (d : RoundColumn) → j < length (union_columns quotes)
      → ((get_or (union_columns quotes) j d).company ≡ 1) ⊎ ((get_or (union_columns quotes) j d).company ≡ 2)
  either-company j d low =
      let all = all_columns one.vehicles two.vehicles in
      let as_many = ap (λ (cs : List RoundColumn). length cs) columns-are in
      let ids_one = ids_of one.vehicles in
      let ids_two = ids_of two.vehicles in
      let start : 0 + j ≡ j = omega arith in
      elim (cases_lt j (length one.vehicles)) [
        | inl left ↦ inl (ap (λ n. (get_or (union_columns quotes) n d).company) (sym start)
            ∙ share-first.block.company_is j d (omega (arith, left, ids_one)))
        | inr right ↦
            let back : j ≡ (0 + length one.vehicles) + (j - length one.vehicles) = omega (arith, right) in
            inr (ap (λ n. (get_or (union_columns quotes) n d).company) back
            ∙ share-second.block.company_is (j - length one.vehicles) d (omega (arith, low, all, as_many, right, ids_two)))
      ]

-- and may be awarded its part
module _ (first second : CompanyState) (rides : List Ride) (penalty : ℕ) (sheet : RoundSheet) (first_brief second_brief : Brief)
    (met : AreMet first second penalty)
    (is : IsRoundOf penalty (quotes_of (state_of first.board) (state_of second.board) rides) rides sheet first_brief second_brief) where
  pub first-wins : MayPlay first rides → MayWin first rides first_brief
  first-wins may =
      let share = share-first first second rides penalty is.round met is.is_round in
      subst (MayWin first rides) (sym is.first_is)
      (let won = brief-rides (state_of first.board) (union_columns (quotes_of (state_of first.board) (state_of second.board) rides)) 1 0 rides is.round is.is_round.grid penalty share may.differ in
      record {
        may = may;
        of_them = won.of_them;
        differ = won.differ;
        few = won.few;
        certified = brief-certified (state_of first.board) (union_columns (quotes_of (state_of first.board) (state_of second.board) rides)) 1 0 rides is.round is.is_round.grid penalty share;
      })

  pub second-wins : MayPlay second rides → MayWin second rides second_brief
  second-wins may =
      let share = share-second first second rides penalty is.round met is.is_round in
      subst (MayWin second rides) (sym is.second_is)
      (let won = brief-rides (state_of second.board) (union_columns (quotes_of (state_of first.board) (state_of second.board) rides)) 2 (0 + length (state_of first.board).vehicles) rides is.round is.is_round.grid penalty share may.differ in
      record {
        may = may;
        of_them = won.of_them;
        differ = won.differ;
        few = won.few;
        certified = brief-certified (state_of second.board) (union_columns (quotes_of (state_of first.board) (state_of second.board) rides)) 2 (0 + length (state_of first.board).vehicles) rides is.round is.is_round.grid penalty share;
      })
