-- what a contract sees of a table before and after a change
use Rattle.link_lists.proofs.Common.{◌≡◌, ◌≢◌, ℕ, ◌<◌, List, [], length, set, map, refl, sym, ap, ◌∙◌, subst, length-set, get_or-set_same, get_or-set_other, length-map, Link, Family, list_at, IsFamily, IsSameSize, family_of, Keeps}
use Rattle.link_lists.proofs.Kept.{with_lists, family_of-kept, get_or-map_nil}

pub family_of-nodes : (t : List Link) (n : ℕ) → (family_of t n).nodes ≡ n
unfolding family_of
family_of-nodes t n = refl

-- a table with so many nodes shows the lists, and keeps them
pub record Shows (t : List Link) (n : ℕ) (f : Family) : Type 0 where
  pub is : family_of t n ≡ f
  pub nodes : f.nodes ≡ n
  pub keeps : Keeps t f

pub shows-before : (t : List Link) (n : ℕ) (f : Family) → family_of t n ≡ f → Keeps t (family_of t n) → Shows t n f
shows-before t n f e k =
    record { is = e; nodes = ap (λ v. v.nodes) (sym e) ∙ family_of-nodes t n; keeps = subst (Keeps t) e k }

pub shows-after : (t u : List Link) (n : ℕ) (f : Family) → t ≡ u → f.nodes ≡ n → Keeps u f → Shows t n f
shows-after t u n f e count k = record {
  is = ap (λ w. family_of w n) e ∙ ap (family_of u) (sym count) ∙ family_of-kept u f k;
  nodes = count;
  keeps = subst (λ w. Keeps w f) (sym e) k;
}

pub keeps-shown : (t : List Link) (n : ℕ) (f : Family) → Shows t n f → Keeps t (family_of t n)
keeps-shown t n f s = subst (Keeps t) (sym s.is) s.keeps

pub family-shown : (t : List Link) (n : ℕ) (f : Family) → Shows t n f → IsFamily (family_of t n)
family-shown t n f s = subst IsFamily (sym s.is) s.keeps.family_ok

-- one list has other nodes
pub record SetsList (old new : Family) (list : ℕ) (nodes : List ℕ) : Type 0 where
  pub changed : list_at new list ≡ nodes
  pub others : (other : ℕ) → other ≢ list → list_at new other ≡ list_at old other
  pub size : IsSameSize old new

pub sets-list : (t : List Link) (n : ℕ) (f : Family) (l : ℕ) (ys : List ℕ) → Shows t n (with_lists f (set f.lists l ys)) → l < length f.lists → SetsList f (family_of t n) l ys
sets-list t n f l ys s low = record {
  changed = ap (λ w. list_at w l) s.is ∙ get_or-set_same f.lists l ys [] low;
  others = λ o differs. ap (λ w. list_at w o) s.is ∙ get_or-set_other f.lists l o ys [] differs;
  size = record { nodes = ap (λ w. w.nodes) s.is; lists = ap (λ w. length w.lists) s.is ∙ length-set f.lists l ys };
}

-- each list is changed in one way
pub record ChangesLists (old new : Family) (change : List ℕ → List ℕ) : Type 0 where
  pub changed : (list : ℕ) → list_at new list ≡ change (list_at old list)
  pub size : IsSameSize old new

pub changes-lists : (t : List Link) (n : ℕ) (f : Family) (g : List ℕ → List ℕ) → g [] ≡ [] → Shows t n (with_lists f (map g f.lists)) → ChangesLists f (family_of t n) g
changes-lists t n f g none s = record {
  changed = λ l. ap (λ w. list_at w l) s.is ∙ get_or-map_nil g f.lists none l;
  size = record { nodes = ap (λ w. w.nodes) s.is; lists = ap (λ w. length w.lists) s.is ∙ length-map f.lists g };
}
