-- Columns of rows and rows of columns, as pairs are set.
use Rattle.hungarian.proofs.Common.{◌≡◌, ◌≢◌, ℕ, zero, suc, ◌<◌, ◌⊎◌, inl, inr, List, [], ◌∷◌, length, set, refl, sym, ◌∙◌, ap, subst, arith, Option, Some, None, cases_eq, get_or-set_same, get_or-set_other, same_Some, mate, AreMates, AreMatesBut}

-- one number is there

-- what is there is none or some
pub cases_mate : (o : Option ℕ) → (o ≡ None) ⊎ ((x : ℕ) × (o ≡ Some x))
cases_mate None = inl refl
cases_mate (Some x) = inr (x, refl)

-- a place that has a mate is within the list
pub mate-in : (mates : List (Option ℕ)) (place x : ℕ) → mate mates place ≡ Some x → place < length mates
mate-in [] place x is = absurd (cc is)
mate-in (m ∷ mates) zero x is = omega arith
mate-in (m ∷ mates) (suc place) x is = omega (arith, mate-in mates place x is)

-- a mate after one was set
pub mate-set : (mates : List (Option ℕ)) (i : ℕ) (item : Option ℕ) (k : ℕ) → i < length mates
    → ((k ≡ i) × (mate (set mates i item) k ≡ item)) ⊎ ((k ≢ i) × (mate (set mates i item) k ≡ mate mates k))
mate-set mates i item k low = elim (cases_eq k i) [
  | inl same ↦ inl (same, ap (λ j. mate (set mates i item) j) same ∙ get_or-set_same mates i item None low)
  | inr differs ↦ inr (differs, get_or-set_other mates i k item None differs)
]

-- the last pair: the row had no column
pub mates-last : (columns rows : List (Option ℕ)) (row last : ℕ) → AreMatesBut last columns rows → row < length columns
    → last < length rows → mate columns row ≡ None → AreMates (set columns row (Some last)) (set rows last (Some row))
mates-last columns rows row last m row_in last_in bare = record {
  column_back = λ r c is. elim (mate-set columns row (Some last) r row_in) [
    | inl here ↦ subst (λ k. mate (set rows last (Some row)) k ≡ Some r) (same_Some last c (sym here.1 ∙ is))
        (get_or-set_same rows last (Some row) None last_in ∙ ap (λ k. Some k) (sym here.0))
    | inr there ↦
        let had : mate columns r ≡ Some c = sym there.1 ∙ is in
        get_or-set_other rows last c (Some row) None (λ e. m.unclaimed r (had ∙ ap (λ k. Some k) e)) ∙ m.column_back r c had
  ];
  row_back = λ r c is. elim (mate-set rows last (Some row) c last_in) [
    | inl here ↦ subst (λ k. mate (set columns row (Some last)) k ≡ Some c) (same_Some row r (sym here.1 ∙ is))
        (get_or-set_same columns row (Some last) None row_in ∙ ap (λ k. Some k) (sym here.0))
    | inr there ↦
        let had : mate columns r ≡ Some c = m.row_back r c there.0 (sym there.1 ∙ is) in
        let apart : r ≢ row = λ e. cc (had, ap (mate columns) e, bare) in
        get_or-set_other columns row r (Some last) None apart ∙ had
  ];
}

-- a pair before the last: the row had another column, which is open now
pub mates-next : (columns rows : List (Option ℕ)) (row last next : ℕ) → AreMatesBut last columns rows → row < length columns
    → last < length rows → mate columns row ≡ Some next
    → AreMatesBut next (set columns row (Some last)) (set rows last (Some row))
mates-next columns rows row last next m row_in last_in had = record {
  column_back = λ r c is. elim (mate-set columns row (Some last) r row_in) [
    | inl here ↦ subst (λ k. mate (set rows last (Some row)) k ≡ Some r) (same_Some last c (sym here.1 ∙ is))
        (get_or-set_same rows last (Some row) None last_in ∙ ap (λ k. Some k) (sym here.0))
    | inr there ↦
        let was : mate columns r ≡ Some c = sym there.1 ∙ is in
        get_or-set_other rows last c (Some row) None (λ e. m.unclaimed r (was ∙ ap (λ k. Some k) e)) ∙ m.column_back r c was
  ];
  row_back = λ r c apart is. elim (mate-set rows last (Some row) c last_in) [
    | inl here ↦ subst (λ k. mate (set columns row (Some last)) k ≡ Some c) (same_Some row r (sym here.1 ∙ is))
        (get_or-set_same columns row (Some last) None row_in ∙ ap (λ k. Some k) (sym here.0))
    | inr there ↦
        let was : mate columns r ≡ Some c = m.row_back r c there.0 (sym there.1 ∙ is) in
        let other : r ≢ row = λ e. apart (same_Some c next (sym was ∙ ap (mate columns) e ∙ had)) in
        get_or-set_other columns row r (Some last) None other ∙ was
  ];
  unclaimed = λ r is. elim (mate-set columns row (Some last) r row_in) [
    | inl here ↦ m.unclaimed row (had ∙ ap (λ k. Some k) (same_Some next last (sym is ∙ here.1)))
    | inr there ↦
        let was : mate columns r ≡ Some next = sym there.1 ∙ is in
        there.0 (same_Some r row (sym (m.column_back r next was) ∙ m.column_back row next had))
  ];
}
