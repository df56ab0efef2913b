-- The start and the taking of a turn keep the rule.
use Rattle.turn_lock.proofs.Common.{◌≡◌, ◌≢◌, ℕ, zero, suc, ◌<◌, true, false, eqb, List, [], ◌∷◌, map, length, set, get_or, sym, refl, ap, ◌∙◌, subst, arith, Option, Some, None, All-nil, IsPrefix, none, some, some-injective, some-ne-none, get_elem?, State, Me, step, Act, keeps, takes, rest, carried_after, Valid, stepped, Allows, opening, set_here, set_again, View, items_of, EndedStand, Spot, home, away, turn_of, homes_of, others_in, Stands, Leads, Fits, IsKept, after_enter, with_knowledge, first_view, Continues, Grabs}
use prog.Atomic.{either}
use Rattle.turn_lock.proofs.Lists.{prefix_self, prefix_nil, prefix_trans, others-push, weight, some_other}
use Rattle.turn_lock.proofs.Views.{there_is, not_both, true_else, owner_with, owner_there, moved, one_owner, steps, unmoved}

module _ {T R I : Type 0} (root : T → R) (history : T → List I) (maker : I → ℕ) (origin : R) where
  abbrev V : Type 0
  V = View R I

  abbrev St : Type 0
  St = State (Option T) V

  abbrev Rule : St → Type 0
  Rule = IsKept root history maker origin

  abbrev Stand : List I → List V → Spot T → Type 0
  Stand = Stands root history maker origin

  abbrev Lead : List I → (ℕ → Option ℕ) → ℕ → V → Type 0
  Lead = Leads root history maker origin

  abbrev Fit : List I → Spot T → (ℕ → Option ℕ) → ℕ → ℕ → V → Type 0
  Fit = Fits root history maker origin

  start_fits : (x : T) (passes j : ℕ) (u : V) → get_elem? (first_view maker origin (history x) passes ∷ []) j ≡ some u
      → Fit (history x) (home x) (owner_with (λ _. None) 0 (Some 0)) (others_in (first_view maker origin (history x) passes ∷ [])) j u
  start_fits x passes zero u e = let v : V = first_view maker origin (history x) passes in
      let none_other : others_in (v ∷ []) ≡ 0 = let a = others-push [] v in let b : weight v ≡ 0 = refl in let c : others_in {R = R} {I = I} [] ≡ 0 = refl in omega (arith, a, b, c) in
      subst (Fit (history x) (home x) (owner_with (λ _. None) 0 (Some 0)) (others_in (v ∷ [])) 0) (some-injective v u e) record {
        root_is = refl;
        seen_is = prefix_self (history x);
        own_is = refl;
        owned = refl;
        turn_is = λ t. absurd (cc t);
        first_is = prefix_nil (history x);
        second_is = prefix_nil (history x);
        leads = λ _. record {
          not_given = λ n pos _. (owner_there (λ _. None) 0 (Some 0) n (λ z. omega arith), refl);
          ended_gone = All-nil _;
          ended_stand = All-nil _;
          counted = omega (arith, none_other);
          came_back = refl;
        };
      }
  start_fits x passes (suc j) u e = absurd (some-ne-none u (sym e))

  pub starts : (x : T) (slots : List (Option T)) (passes : ℕ) → root x ≡ origin → slots ≡ Some x ∷ []
      → Rule (opening (length (history x) ∷ 0 ∷ []) slots (first_view maker origin (history x) passes))
  starts x slots passes from is = record {
    log = history x;
    spot = home x;
    owner = owner_with (λ _. None) 0 (Some 0);
    words = refl;
    homes = ap (map some) is;
    stands = (refl, from);
    each_live = λ j u at _. start_fits x passes j u at;
  }

  abbrev Grab : ℕ → St → ℕ → V → Type 0
  Grab slots s id v = (w : V) × (a : Act (Option T)) × Valid s.homes [] a × Rule (stepped s 1 (either (eqb (get_or s.words 1 0) 0) 1 (get_or s.words 1 0)) id [] w a)
      × Grabs root history maker (step slots 1 0 1 none) (v, []) (get_or s.words 1 0) (w, carried_after [] a)

  grab_at : (slots : ℕ) (s : St) (r : Rule s) (id : ℕ) (v : V) → v.is_live ≡ true → v.knowledge.has_turn ≡ false → get_elem? s.views id ≡ some v → (spot : Spot T) → r.spot ≡ spot → Grab slots s id v
  grab_at slots s r id v live free at (home x) is = (w, takes 0 (Some x), ap (λ hs. get_elem? hs 0) homes_is, kept, ((λ _. (x, refl, continues)), (λ no. absurd (no found))))
    where
      w : V
      w = with_knowledge v (after_enter v.knowledge (history x))

      f : Fit r.log r.spot r.owner (others_in s.views) id v
      f = r.each_live id v at live

      homes_is : s.homes ≡ some (Some x) ∷ []
      homes_is = r.homes ∙ ap homes_of is

      words_is : s.words ≡ length r.log ∷ 0 ∷ []
      words_is = r.words ∙ ap (λ (p : Spot T). length r.log ∷ turn_of p ∷ []) is

      stands_is : (history x ≡ r.log) × (root x ≡ origin)
      stands_is = subst (Stand r.log s.views) is r.stands

      found : get_or s.words 1 0 ≡ 0
      found = ap (λ ws. get_or ws 1 0) words_is

      before : IsPrefix v.knowledge.seen (history x)
      before = subst (IsPrefix v.knowledge.seen) (sym stands_is.0) f.seen_is

      continues : Continues root history maker v.knowledge x
      continues = record {
        root_is = f.root_is ∙ ap (λ (o : R). o ∷ []) (sym stands_is.1);
        seen_is = before;
        own_is = ap (items_of maker v.knowledge.number) stands_is.0 ∙ sym f.own_is;
        ended_are = λ z. subst (EndedStand maker v.knowledge.ended) (sym stands_is.0) (f.leads z).ended_stand;
      }

      mine : Fit r.log (away id) r.owner (others_in s.views) id w
      mine = record {
        root_is = f.root_is;
        seen_is = subst (IsPrefix (history x)) stands_is.0 (prefix_self (history x));
        own_is = f.own_is;
        owned = f.owned;
        turn_is = λ _. (refl, stands_is.0);
        first_is = prefix_trans v.first_seen v.knowledge.seen (history x) f.first_is before;
        second_is = prefix_trans v.second_seen v.knowledge.seen (history x) f.second_is before;
        leads = λ z. let l = f.leads z in record { not_given = l.not_given; ended_gone = l.ended_gone; ended_stand = l.ended_stand; counted = l.counted; came_back = l.came_back };
      }

      kept : Rule (stepped s 1 (either (eqb (get_or s.words 1 0) 0) 1 (get_or s.words 1 0)) id [] w (takes 0 (Some x)))
      kept = steps root history maker origin s r id v w r.log (away id) _ _ at refl refl
          (ap (λ ws. set ws 1 (either (eqb (get_or ws 1 0) 0) 1 (get_or ws 1 0))) words_is)
          (ap (λ hs. set hs 0 none) homes_is)
          (w, set_here s.views id w (there_is s.views id v at), live, refl)
          (λ _. mine)
          (λ j u other h. moved root history maker origin r.log r.log r.spot (away id) r.owner r.owner (others_in s.views) (others_in s.views) j u (prefix_self r.log) refl refl
          (λ t. absurd (not_both r.spot x j is (h.turn_is t).0)) (λ _ l. l) h)
  grab_at slots s r id v live free at (away j) is = (v, keeps, tt, kept, ((λ z. absurd (omega (arith, z, found))), (λ _. (refl, out))))
    where
      words_is : s.words ≡ length r.log ∷ 1 ∷ []
      words_is = r.words ∙ ap (λ (p : Spot T). length r.log ∷ turn_of p ∷ []) is

      found : get_or s.words 1 0 ≡ 1
      found = ap (λ ws. get_or ws 1 0) words_is

      kept : Rule (stepped s 1 (either (eqb (get_or s.words 1 0) 0) 1 (get_or s.words 1 0)) id [] v keeps)
      kept = unmoved root history maker origin s _ _ (ap (λ ws. set ws 1 (either (eqb (get_or ws 1 0) 0) 1 (get_or ws 1 0))) words_is ∙ sym words_is) (set_again s.views id v at) r

      stands_is : Stand r.log s.views (away j)
      stands_is = subst (Stand r.log s.views) is r.stands

      u : V
      u = stands_is.0

      apart : j ≢ id
      apart e = let P : ℕ → Type 0 = λ k. get_elem? s.views k ≡ some u in let same : v ≡ u = some-injective v u (sym at ∙ subst P e stands_is.1) in
          true_else v.knowledge.has_turn (ap (λ (y : V). y.knowledge.has_turn) same ∙ stands_is.3) free

      out : v.knowledge.number ≡ 0 → 0 < v.knowledge.out
      out z = let f = r.each_live id v at live in let h = r.each_live j u stands_is.1 stands_is.2 in
          let other : u.knowledge.number ≢ 0 = λ e. apart (sym (one_owner root history maker origin r.log r.spot r.owner (others_in s.views) id j v u f h (z ∙ sym e))) in
          let some = some_other s.views j u stands_is.1 stands_is.2 other in let l = (f.leads z).counted in omega (arith, some, l)

  pub grabs : (slots id : ℕ) (m : Me (Option T) V) → m.1 ≡ [] → m.0.is_live ≡ true → m.0.knowledge.has_turn ≡ false
      → Allows Rule slots id m 1 (λ n. either (eqb n 0) 1 n) (Grabs root history maker (step slots 1 0 1 none) m)
  grabs slots id m empty live free = let P : List (ℕ × Option T) → Type 0 = λ c. Allows Rule slots id (m.0, c) 1 (λ n. either (eqb n 0) 1 n) (Grabs root history maker (step slots 1 0 1 none) (m.0, c)) in
      subst P (sym empty) (λ s r deep at small. grab_at slots s r id m.0 live free at r.spot refl)

module _ {T V : Type 0} where
  -- the seat holds the slot
  pub holds_slot : (m : Me (Option T) V) (v : V) (y : Option T) (c : List (ℕ × Option T)) → m ≡ (v, (0, y) ∷ c) → m.1 ≡ (0, y) ∷ rest m.1
  holds_slot m v y c is = let e : m.1 ≡ (0, y) ∷ c = λ k. (is k).1 in e ∙ ap (λ (l : List (ℕ × Option T)). (0, y) ∷ rest l) (sym e)
