-- How the other views and the value stand while one seat steps.
use Rattle.turn_lock.proofs.Common.{not, ◌&&◌, ◌≡◌, ◌≢◌, ℕ, zero, suc, ◌<◌, Bool, true, false, cond, eqb, List, [], ◌∷◌, length, set, sym, refl, ap, ◌∙◌, subst, ⊎_elim, arith, eq-eqb, ne_eqb, Option, Some, None, IsPrefix, dite, none, some, some-injective, some-ne-none, ℕ_discrete, get_elem?, State, at_set, set_else, View, items_of, Spot, home, away, turn_of, homes_of, is_other, others_in, Stands, Leads, Fits, IsKept}
use mathlib.Core.Option as maybe
use Rattle.turn_lock.proofs.Lists.{prefix_trans, others-set, weight}

pub there_is : {A : Type 0} (l : List A) (i : ℕ) (a : A) → get_elem? l i ≡ some a → i < length l
there_is [] i a e = absurd (some-ne-none a (sym e))
there_is (x ∷ xs) zero a e = omega arith
there_is (x ∷ xs) (suc i) a e = omega (arith, there_is xs i a e)

pub one_spot : {T : Type 0} (s : Spot T) (i j : ℕ) → s ≡ away i → s ≡ away j → i ≡ j
one_spot s i j e f = cc

pub not_both : {T : Type 0} (s : Spot T) (x : T) (j : ℕ) → s ≡ home x → s ≡ away j → ⊥
not_both s x j e f = cc

pub none_else : {T : Type 0} (o : Option T) (x : T) → o ≡ None → o ≡ Some x → ⊥
none_else o x e f = cc

pub true_else : (b : Bool) → b ≡ true → b ≡ false → ⊥
true_else b e f = cc

-- the seats of the numbers, where one number goes to another seat or to none
abbrev pub owner_with : (ℕ → Option ℕ) → ℕ → Option ℕ → ℕ → Option ℕ
owner_with owner number seat n = cond (eqb n number) seat (owner n)

pub owner_here : (owner : ℕ → Option ℕ) (number : ℕ) (seat : Option ℕ) → owner_with owner number seat number ≡ seat
owner_here owner number seat = ap (λ b. cond b seat (owner number)) (eq-eqb number number refl)

pub owner_there : (owner : ℕ → Option ℕ) (number : ℕ) (seat : Option ℕ) (n : ℕ) → n ≢ number → owner_with owner number seat n ≡ owner n
owner_there owner number seat n apart = ap (λ b. cond b seat (owner n)) (ne_eqb n number apart)

-- a number that goes to no seat leaves the free numbers free
pub owner_none : (owner : ℕ → Option ℕ) (number n : ℕ) → owner n ≡ None → owner_with owner number None n ≡ None
owner_none owner number n free = dite (ℕ_discrete n number) (λ e. ap (λ b. cond b None (owner n)) (eq-eqb n number e)) (λ apart. owner_there owner number None n apart ∙ free)

module _ {R I : Type 0} where
  pub each_set : (F : ℕ → View R I → Type 0) (views : List (View R I)) (id : ℕ) (w : View R I) → (w.is_live ≡ true → F id w) → ((j : ℕ) (u : View R I) → j ≢ id → get_elem? views j ≡ some u → u.is_live ≡ true → F j u)
      → (j : ℕ) (u : View R I) → get_elem? (set views id w) j ≡ some u → u.is_live ≡ true → F j u
  each_set F views id w mine others j u at live = ⊎_elim
      (λ (t : (j ≡ id) × (w ≡ u)). let P : ℕ × View R I → Type 0 = λ x. x.1.is_live ≡ true → F x.0 x.1 in subst P (λ k. (sym t.0 k, t.1 k)) mine live)
      (λ (t : (j ≢ id) × (get_elem? views j ≡ some u)). others j u t.0 t.1 live)
      (at_set views id j w u at)

module _ {T R I : Type 0} (root : T → R) (history : T → List I) (maker : I → ℕ) (origin : R) where
  abbrev V : Type 0
  V = View R I

  abbrev St : Type 0
  St = State (Option T) V

  abbrev Rule : St → Type 0
  Rule = IsKept root history maker origin

  abbrev Stand : List I → List V → Spot T → Type 0
  Stand = Stands root history maker origin

  abbrev Lead : List I → (ℕ → Option ℕ) → ℕ → V → Type 0
  Lead = Leads root history maker origin

  abbrev Fit : List I → Spot T → (ℕ → Option ℕ) → ℕ → ℕ → V → Type 0
  Fit = Fits root history maker origin

  -- a live view that does not step, as the rest moves on
  pub moved : (log log' : List I) (spot spot' : Spot T) (owner owner' : ℕ → Option ℕ) (n n' seat : ℕ) (u : V)
      → IsPrefix log log' → items_of maker u.knowledge.number log' ≡ items_of maker u.knowledge.number log → owner' u.knowledge.number ≡ owner u.knowledge.number
      → (u.knowledge.has_turn ≡ true → (spot' ≡ away seat) × (u.knowledge.seen ≡ log')) → (u.knowledge.number ≡ 0 → Lead log owner n u → Lead log' owner' n' u)
      → Fit log spot owner n seat u → Fit log' spot' owner' n' seat u
  moved log log' spot spot' owner owner' n n' seat u more same same_owner turn lead f = record {
    root_is = f.root_is;
    seen_is = prefix_trans u.knowledge.seen log log' f.seen_is more;
    own_is = f.own_is ∙ sym same;
    owned = same_owner ∙ f.owned;
    turn_is = turn;
    first_is = f.first_is;
    second_is = f.second_is;
    leads = λ z. lead z (f.leads z);
  }

  -- two live views with one number are one seat's
  pub one_owner : (log : List I) (spot : Spot T) (owner : ℕ → Option ℕ) (n i j : ℕ) (v u : V) → Fit log spot owner n i v → Fit log spot owner n j u → v.knowledge.number ≡ u.knowledge.number → i ≡ j
  one_owner log spot owner n i j v u f h e = let a : owner v.knowledge.number ≡ owner u.knowledge.number = ap owner e in let b = f.owned in let c = h.owned in let d : Some i ≡ Some j = cc in cc (d)

  pub stands_set : (log : List I) (views : List V) (id : ℕ) (v w : V) (spot : Spot T) → get_elem? views id ≡ some v → v.knowledge.has_turn ≡ false → Stand log views spot → Stand log (set views id w) spot
  stands_set log views id v w (home x) at free s = s
  stands_set log views id v w (away j) at free s = (s.0, set_else views id j w apart ∙ s.1, s.2, s.3)
    where
      apart : j ≢ id
      apart e = let P : ℕ → Type 0 = λ k. get_elem? views k ≡ some s.0 in let same : v ≡ s.0 = some-injective v s.0 (sym at ∙ subst P e s.1) in
          let t : v.knowledge.has_turn ≡ true = ap (λ (u : V). u.knowledge.has_turn) same ∙ s.3 in absurd (true_else v.knowledge.has_turn t free)

  -- a step of one seat, which keeps its number
  pub steps : (s : St) (r : Rule s) (id : ℕ) (v w : V) (log' : List I) (spot' : Spot T) (words' : List ℕ) (homes' : List (maybe.Option (Option T)))
      → get_elem? s.views id ≡ some v → w.is_live ≡ v.is_live → w.knowledge.number ≡ v.knowledge.number → words' ≡ length log' ∷ turn_of spot' ∷ [] → homes' ≡ homes_of spot' → Stand log' (set s.views id w) spot'
      → (w.is_live ≡ true → Fit log' spot' r.owner (others_in s.views) id w)
      → ((j : ℕ) (u : V) → j ≢ id → Fit r.log r.spot r.owner (others_in s.views) j u → Fit log' spot' r.owner (others_in s.views) j u)
      → Rule record { words = words'; homes = homes'; views = set s.views id w }
  steps s r id v w log' spot' words' homes' at live number words homes stands mine others = record {
    log = log';
    spot = spot';
    owner = r.owner;
    words = words;
    homes = homes;
    stands = stands;
    each_live = λ j u at' live'. subst (λ (n : ℕ). Fit log' spot' r.owner n j u) (sym count)
        (each_set (λ j u. Fit log' spot' r.owner (others_in s.views) j u) s.views id w mine (λ j u other at live. others j u other (r.each_live j u at live)) j u at' live');
  }
    where
      same : is_other w ≡ is_other v
      same = λ k. live k && not (eqb (number k) 0)

      count : others_in (set s.views id w) ≡ others_in s.views
      count = let a = others-set s.views id v w at in let e : weight w ≡ weight v = let f : Bool → ℕ = λ b. cond b 1 0 in ap f same in omega (arith, a, e)

  pub unmoved : (s : St) (words' : List ℕ) (views' : List V) → words' ≡ s.words → views' ≡ s.views → Rule s → Rule record { words = words'; homes = s.homes; views = views' }
  unmoved s words' views' e f r = let P : List ℕ × List V → Type 0 = λ p. Rule record { words = p.0; homes = s.homes; views = p.1 } in subst P (λ k. (sym e k, sym f k)) r
