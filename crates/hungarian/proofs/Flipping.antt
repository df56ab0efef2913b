-- The way back along a path, while it is taken over.
use Rattle.hungarian.proofs.Common.{◌≡◌, ◌≢◌, ℕ, ◌<◌, ◌≤◌, ◌⊎◌, inl, inr, List, length, set, sym, ◌∙◌, ap, subst, arith, Option, Some, None, length-set, same_Some, Matches, Search, Column, Row, mate, AreMates, AreMatesBut, source_at, rank_at, IsTurned, IsFlippable, IsReady, IsLeft}
use Rattle.hungarian.proofs.Mated.{mate-in, mate-set, mates-last, mates-next}

-- up to an open column the way back was taken over
pub record IsFlipping (search : Search) (root last : ℕ) (old new : Matches) : Type 0 where
  pub left : IsFlippable search root last new
  pub rows_each : length new.columns.items ≡ length old.columns.items
  pub columns_each : length new.rows.items ≡ length old.rows.items
  pub pairs : (row column : ℕ) → mate new.columns.items row ≡ Some column
      → (mate old.columns.items row ≡ Some column) ⊎ ((0 < rank_at search column) × (source_at search column ≡ row))
  pub without : (row : ℕ) → mate new.columns.items row ≡ None → mate old.columns.items row ≡ None
  pub free : (column : ℕ) → mate new.rows.items column ≡ None → mate old.rows.items column ≡ None

-- the row that a column was reached from
pub flipping-row : (search : Search) (root last : ℕ) (now : Matches) → IsFlippable search root last now
    → source_at search last < length now.columns.items
flipping-row search root last now left = left.sources_in last left.settled (omega arith)

-- the pairs after a step
pairs-more : (search : Search) (root last : ℕ) (old now : Matches) (columns : List (Option ℕ))
    → IsFlipping search root last old now
    → columns ≡ set now.columns.items (source_at search last) (Some last) → (row column : ℕ) → mate columns row ≡ Some column
    → (mate old.columns.items row ≡ Some column) ⊎ ((0 < rank_at search column) × (source_at search column ≡ row))
pairs-more search root last old now columns f columns_are row column is =
    elim (mate-set now.columns.items (source_at search last) (Some last) row (flipping-row search root last now f.left)) [
      | inl here ↦
          let one : last ≡ column = same_Some last column (sym here.1 ∙ ap (λ cs. mate cs row) (sym columns_are) ∙ is) in
          inr (subst (λ k. 0 < rank_at search k) one f.left.settled, ap (source_at search) (sym one) ∙ sym here.0)
      | inr there ↦ f.pairs row column (sym there.1 ∙ ap (λ cs. mate cs row) (sym columns_are) ∙ is)
    ]

-- a row that has no column after a step had none before it
without-more : (search : Search) (root last : ℕ) (old now : Matches) (columns : List (Option ℕ))
    → IsFlipping search root last old now
    → columns ≡ set now.columns.items (source_at search last) (Some last) → (row : ℕ) → mate columns row ≡ None
    → (mate now.columns.items row ≡ None) × (row ≢ source_at search last)
without-more search root last old now columns f columns_are row is =
    elim (mate-set now.columns.items (source_at search last) (Some last) row (flipping-row search root last now f.left)) [
      | inl here ↦ absurd (cc (here.1, ap (λ cs. mate cs row) columns_are, is))
      | inr there ↦ (sym there.1 ∙ ap (λ cs. mate cs row) (sym columns_are) ∙ is, there.0)
    ]

-- a column that is free after a step was free before it
free-more : (search : Search) (root last : ℕ) (old now : Matches) (rows : List (Option ℕ)) → IsFlipping search root last old now
    → rows ≡ set now.rows.items last (Some (source_at search last)) → (column : ℕ) → mate rows column ≡ None
    → mate old.rows.items column ≡ None
free-more search root last old now rows f rows_are column is =
    elim (mate-set now.rows.items last (Some (source_at search last)) column f.left.last_in) [
      | inl here ↦ absurd (cc (here.1, ap (λ rs. mate rs column) rows_are, is))
      | inr there ↦ f.free column (sym there.1 ∙ ap (λ rs. mate rs column) (sym rows_are) ∙ is)
    ]

-- the column that the row had was settled earlier
pub flipping-earlier : (search : Search) (root last next : ℕ) (now : Matches) → IsFlippable search root last now
    → mate now.columns.items (source_at search last) ≡ Some next
    → (0 < rank_at search next) × (rank_at search next < rank_at search last)
flipping-earlier search root last next now left had =
    elim (left.back last left.settled (omega arith)) [
      | inl is_root ↦ absurd (cc (had, ap (mate now.columns.items) is_root, left.bare))
      | inr earlier ↦
          let one : earlier.0 ≡ next = same_Some earlier.0 next (sym earlier.1 ∙ had) in
          (subst (λ k. 0 < rank_at search k) one earlier.2, subst (λ k. rank_at search k < rank_at search last) one earlier.3)
    ]

-- a step to the column that the row had
pub flipping-more : (search : Search) (root last next : ℕ) (old now new : Matches) → IsFlipping search root last old now
    → mate now.columns.items (source_at search last) ≡ Some next
    → new.columns.items ≡ set now.columns.items (source_at search last) (Some last)
    → new.rows.items ≡ set now.rows.items last (Some (source_at search last))
    → IsFlipping search root next old new
flipping-more search root last next old now new f had columns_are rows_are =
    let row = source_at search last in
    let row_in = flipping-row search root last now f.left in
    let earlier = flipping-earlier search root last next now f.left had in
    let rows_len : length new.columns.items ≡ length now.columns.items = ap (λ cs. length cs) columns_are
    ∙ length-set now.columns.items row (Some last) in
    let columns_len : length new.rows.items ≡ length now.rows.items = ap (λ rs. length rs) rows_are
    ∙ length-set now.rows.items last (Some row) in
    let next_in : next < length now.rows.items = mate-in now.rows.items next row (f.left.mates.column_back row next had) in
    -- a row from which a column of the rest was reached keeps its column
    let apart : (column : ℕ) → 0 < rank_at search column → rank_at search column ≤ rank_at search next
    → source_at search column ≢ row
    = λ column settled low same.
    elim (f.left.back column settled (omega (arith, low, earlier.1))) [
      | inl is_root ↦ cc (had, ap (mate now.columns.items) (sym same ∙ is_root), f.left.bare)
      | inr before ↦
          let one : before.0 ≡ next = same_Some before.0 next (sym before.1 ∙ ap (mate now.columns.items) same ∙ had) in
          let below : rank_at search next < rank_at search column =
          subst (λ k. rank_at search k < rank_at search column) one before.3 in
          omega (arith, below, low)
    ] in
    let kept : (r : ℕ) → r ≢ row → mate new.columns.items r ≡ mate now.columns.items r
    = λ r differs. elim (mate-set now.columns.items row (Some last) r row_in) [
      | inl here ↦ absurd (differs here.0)
      | inr there ↦ ap (λ cs. mate cs r) columns_are ∙ there.1
    ] in
    record {
      left = record {
        last_in = omega (arith, next_in, columns_len);
        sources_each = f.left.sources_each ∙ sym columns_len;
        mates = subst (λ cs. AreMatesBut next cs new.rows.items) (sym columns_are)
            (subst (λ rs. AreMatesBut next (set now.columns.items row (Some last)) rs) (sym rows_are)
            (mates-next now.columns.items now.rows.items row last next f.left.mates row_in f.left.last_in had));
        settled = earlier.0;
        bare = kept root (λ is_root. cc (had, ap (mate now.columns.items) is_root, f.left.bare)) ∙ f.left.bare;
        sources_in = λ column settled low. omega
            (arith, rows_len, f.left.sources_in column settled (omega (arith, low, earlier.1)));
        back = λ column settled low. elim (f.left.back column settled (omega (arith, low, earlier.1))) [
          | inl is_root ↦ inl is_root
          | inr before ↦ inr (before.0, kept (source_at search column) (apart column settled low) ∙ before.1, before.2, before.3)
        ];
      };
      rows_each = rows_len ∙ f.rows_each;
      columns_each = columns_len ∙ f.columns_each;
      pairs = pairs-more search root last old now new.columns.items f columns_are;
      without = λ r is. f.without r (without-more search root last old now new.columns.items f columns_are r is).0;
      free = free-more search root last old now new.rows.items f rows_are;
    }

-- the last step, at the root
pub flipping-all : (search : Search) (root last : ℕ) (old now new : Matches) → IsFlipping search root last old now
    → mate now.columns.items (source_at search last) ≡ None
    → new.columns.items ≡ set now.columns.items (source_at search last) (Some last)
    → new.rows.items ≡ set now.rows.items last (Some (source_at search last))
    → IsTurned search root (λ _. ⊥) old new
flipping-all search root last old now new f had columns_are rows_are =
    let row = source_at search last in
    let row_in = flipping-row search root last now f.left in
    let at_root : row ≡ root = elim (f.left.back last f.left.settled (omega arith)) [
      | inl is_root ↦ is_root
      | inr earlier ↦ absurd (cc (had, earlier.1))
    ] in
    record {
      rows_each = ap (λ cs. length cs) columns_are ∙ length-set now.columns.items row (Some last) ∙ f.rows_each;
      columns_each = ap (λ rs. length rs) rows_are ∙ length-set now.rows.items last (Some row) ∙ f.columns_each;
      mates = subst (λ cs. AreMates cs new.rows.items) (sym columns_are)
          (subst (λ rs. AreMates (set now.columns.items row (Some last)) rs) (sym rows_are)
          (mates-last now.columns.items now.rows.items row last f.left.mates row_in f.left.last_in had));
      pairs = pairs-more search root last old now new.columns.items f columns_are;
      without = λ r is.
          let (was, apart) = without-more search root last old now new.columns.items f columns_are r is in
          inl (f.without r was, λ same. apart (same ∙ sym at_root));
      free = free-more search root last old now new.rows.items f rows_are;
    }

-- a path that ends at a free column
pub flippable-at_column : (search : Search) (root column : ℕ) (matches : Matches) → IsReady search root (Column column) matches
    → IsFlippable search root column matches
flippable-at_column search root column matches ready = record {
  last_in = ready.exits.0;
  sources_each = ready.sources_each;
  mates = record {
    column_back = ready.mates.column_back;
    row_back = λ r c _ is. ready.mates.row_back r c is;
    unclaimed = λ r is. cc (ready.mates.column_back r column is, ready.exits.2);
  };
  settled = ready.exits.1;
  bare = ready.bare;
  sources_in = λ c settled _. ready.sources_in c settled;
  back = λ c settled _. ready.back c settled;
}

-- a path that ends at a row with a column, which the row gave up
pub flippable-at_row : (search : Search) (root row column : ℕ) (matches given : Matches) → IsReady search root (Row row) matches
    → mate matches.columns.items row ≡ Some column → given.columns.items ≡ set matches.columns.items row None
    → given.rows.items ≡ matches.rows.items → IsFlippable search root column given
flippable-at_row search root row column matches given ready had columns_are rows_are =
    let row_in = ready.exits.0 in
    let apart : root ≢ row = λ same. cc (had, ap (mate matches.columns.items) same, ready.bare) in
    let settled : 0 < rank_at search column = elim ready.exits.1 [
      | inl is_root ↦ absurd (apart (sym is_root))
      | inr by ↦ subst (λ k. 0 < rank_at search k) (same_Some by.0 column (sym by.1 ∙ had)) by.2
    ] in
    let kept : (r : ℕ) → r ≢ row → mate given.columns.items r ≡ mate matches.columns.items r
    = λ r differs. elim (mate-set matches.columns.items row None r row_in) [
      | inl here ↦ absurd (differs here.0)
      | inr there ↦ ap (λ cs. mate cs r) columns_are ∙ there.1
    ] in
    let was : (r c : ℕ) → mate given.columns.items r ≡ Some c → (mate matches.columns.items r ≡ Some c) × (r ≢ row)
    = λ r c is. elim (mate-set matches.columns.items row None r row_in) [
      | inl here ↦ absurd (cc (here.1, ap (λ cs. mate cs r) columns_are, is))
      | inr there ↦ (sym (kept r there.0) ∙ is, there.0)
    ] in
    let columns_len : length given.columns.items ≡ length matches.columns.items = ap (λ cs. length cs) columns_are
    ∙ length-set matches.columns.items row None in
    let rows_len : length given.rows.items ≡ length matches.rows.items = ap (λ rs. length rs) rows_are in
    record {
      last_in = omega (arith, rows_len, mate-in matches.rows.items column row (ready.mates.column_back row column had));
      sources_each = ready.sources_each ∙ sym rows_len;
      mates = record {
        column_back = λ r c is. ap (λ rs. mate rs c) rows_are ∙ ready.mates.column_back r c (was r c is).0;
        row_back = λ r c differs is.
            let before : mate matches.columns.items r ≡ Some c =
            ready.mates.row_back r c (ap (λ rs. mate rs c) (sym rows_are) ∙ is) in
            kept r (λ same. differs (same_Some c column (sym before ∙ ap (mate matches.columns.items) same ∙ had))) ∙ before;
        unclaimed = λ r is.
            let (before, differs) = was r column is in
            differs (same_Some r row (sym (ready.mates.column_back r column before) ∙ ready.mates.column_back row column had));
      };
      settled = settled;
      bare = kept root apart ∙ ready.bare;
      sources_in = λ c at _. omega (arith, columns_len, ready.sources_in c at);
      back = λ c at low. elim (ready.back c at) [
        | inl is_root ↦ inl is_root
        | inr by ↦
            let differs : source_at search c ≢ row = λ same.
            let one : by.0 ≡ column = same_Some by.0 column (sym by.1 ∙ ap (mate matches.columns.items) same ∙ had) in
            let below : rank_at search column < rank_at search c = subst (λ k. rank_at search k < rank_at search c) one by.3 in
            omega (arith, below, low) in
            inr (by.0, kept (source_at search c) differs ∙ by.1, by.2, by.3)
      ];
    }

-- what was turned once a row had given its column up
pub turned-at_row : (search : Search) (root row column : ℕ) (matches given new : Matches) → IsReady search root (Row row) matches
    → given.columns.items ≡ set matches.columns.items row None → given.rows.items ≡ matches.rows.items
    → IsTurned search root (λ _. ⊥) given new → IsTurned search root (IsLeft (Row row)) matches new
turned-at_row search root row column matches given new ready columns_are rows_are turned =
    let row_in = ready.exits.0 in
    record {
      rows_each = turned.rows_each ∙ ap (λ cs. length cs) columns_are ∙ length-set matches.columns.items row None;
      columns_each = turned.columns_each ∙ ap (λ rs. length rs) rows_are;
      mates = turned.mates;
      pairs = λ r c is. elim (turned.pairs r c is) [
        | inl before ↦ elim (mate-set matches.columns.items row None r row_in) [
          | inl here ↦ absurd (cc (here.1, ap (λ cs. mate cs r) columns_are, before))
          | inr there ↦ inl (sym there.1 ∙ ap (λ cs. mate cs r) (sym columns_are) ∙ before)
        ]
        | inr anew ↦ inr anew
      ];
      without = λ r is. elim (turned.without r is) [
        | inl before ↦ elim (mate-set matches.columns.items row None r row_in) [
          | inl here ↦ inr here.0
          | inr there ↦ inl (sym there.1 ∙ ap (λ cs. mate cs r) (sym columns_are) ∙ before.0, before.1)
        ]
        | inr never ↦ absurd never
      ];
      free = λ c is. ap (λ rs. mate rs c) (sym rows_are) ∙ turned.free c is;
    }
