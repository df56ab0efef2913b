-- Noting an item and handing on the turn keep the rule.
use Rattle.turn_lock.proofs.Common.{◌≡◌, ◌≢◌, ℕ, ◌+◌, ◌%◌, ◌^◌, ◌<◌, true, List, [], ◌∷◌, ◌++◌, length, set, get_or, drop, sym, refl, ap, ◌∙◌, subst, arith, length-append, Option, Some, None, IsPrefix, none, some, State, Me, step, keeps, gives, rest, stepped, Allows, set_here, View, Spot, home, away, turn_of, homes_of, others_in, Stands, Leads, Fits, IsKept, after_leave, after_note, with_knowledge, Notes, HandsOn, with_note}
use Rattle.std.proofs.Math.Seq.{drop-append_seam}
use Rattle.turn_lock.proofs.Lists.{prefix_self, prefix_more, prefix_trans, items_more, items_same}
use Rattle.turn_lock.proofs.Views.{there_is, one_spot, none_else, moved, one_owner, steps}

module _ {T R I : Type 0} (root : T → R) (history : T → List I) (maker : I → ℕ) (origin : R) where
  abbrev V : Type 0
  V = View R I

  abbrev St : Type 0
  St = State (Option T) V

  abbrev Rule : St → Type 0
  Rule = IsKept root history maker origin

  abbrev Stand : List I → List V → Spot T → Type 0
  Stand = Stands root history maker origin

  abbrev Lead : List I → (ℕ → Option ℕ) → ℕ → V → Type 0
  Lead = Leads root history maker origin

  abbrev Fit : List I → Spot T → (ℕ → Option ℕ) → ℕ → ℕ → V → Type 0
  Fit = Fits root history maker origin

  -- the history grows by an item of a number that a seat has
  leads_on : (log : List I) (owner : ℕ → Option ℕ) (n : ℕ) (u : V) (item : I) (number seat : ℕ) → owner number ≡ Some seat → maker item ≡ number → Lead log owner n u → Lead (log ++ item ∷ []) owner n u
  leads_on log owner n u item number seat owned made l = record {
    not_given = λ k pos low. let o = l.not_given k pos low in (o.0, items_same maker k log item (apart k o.0) ∙ o.1);
    ended_gone = l.ended_gone;
    ended_stand = λ k d low. items_same maker _ log item (apart _ (l.ended_gone k d low).0) ∙ l.ended_stand k d low;
    counted = l.counted;
    came_back = l.came_back;
  }
    where
      apart : (k : ℕ) → owner k ≡ None → maker item ≢ k
      apart k free e = none_else (owner number) seat (ap owner (sym made ∙ e) ∙ free) owned

  note_at : (slots id : ℕ) (v : V) (x : T) (item : I) → v.is_live ≡ true → v.knowledge.has_turn ≡ true → maker item ≡ v.knowledge.number → history x ≡ v.knowledge.seen ++ item ∷ [] → length (history x) < 2 ^ 64
      → Allows Rule slots id (v, (0, Some x) ∷ []) 0 (λ n. (n + 1) % 2 ^ 64) (Notes history (step slots 0 1 0 none) (v, (0, Some x) ∷ []))
  note_at slots id v x item live turn made grown fits s r deep at small = (w, keeps, tt, kept, refl)
    where
      w : V
      w = with_knowledge v (after_note v.knowledge (history x))

      f : Fit r.log r.spot r.owner (others_in s.views) id v
      f = r.each_live id v at live

      away_is : r.spot ≡ away id
      away_is = (f.turn_is turn).0

      log' : List I
      log' = r.log ++ item ∷ []

      grown_log : history x ≡ log'
      grown_log = grown ∙ ap (λ (l : List I). l ++ item ∷ []) (f.turn_is turn).1

      added : drop (length v.knowledge.seen) (history x) ≡ item ∷ []
      added = ap (λ (l : List I). drop (length v.knowledge.seen) l) grown ∙ drop-append_seam v.knowledge.seen (item ∷ [])

      count : (length r.log + 1) % 18446744073709551616 ≡ length log'
      count = let a = length-append r.log (item ∷ []) in let b : length (history x) ≡ length log' = ap (λ (l : List I). length l) grown_log in omega (arith, a, b)

      mine : Fit log' r.spot r.owner (others_in s.views) id w
      mine = record {
        root_is = f.root_is;
        seen_is = subst (IsPrefix (history x)) grown_log (prefix_self (history x));
        own_is = ap (λ (l : List I). v.knowledge.own ++ l) added ∙ (ap (λ (l : List I). l ++ item ∷ []) f.own_is ∙ sym (items_more maker v.knowledge.number r.log item made));
        owned = f.owned;
        turn_is = λ _. (away_is, grown_log);
        first_is = prefix_trans v.first_seen v.knowledge.seen (history x) f.first_is (item ∷ [], sym grown);
        second_is = prefix_trans v.second_seen v.knowledge.seen (history x) f.second_is (item ∷ [], sym grown);
        leads = λ z. let l = leads_on r.log r.owner (others_in s.views) v item v.knowledge.number id f.owned made (f.leads z) in
            record { not_given = l.not_given; ended_gone = l.ended_gone; ended_stand = l.ended_stand; counted = l.counted; came_back = l.came_back };
      }

      kept : Rule (stepped s 0 ((get_or s.words 0 0 + 1) % 18446744073709551616) id ((0, Some x) ∷ []) w keeps)
      kept = steps root history maker origin s r id v w log' r.spot _ s.homes at refl refl
          (ap (λ ws. set ws 0 ((get_or ws 0 0 + 1) % 18446744073709551616)) r.words ∙ ap (λ (k : ℕ). k ∷ turn_of r.spot ∷ []) count)
          r.homes
          (subst (Stand log' (set s.views id w)) (sym away_is) (w, set_here s.views id w (there_is s.views id v at), live, turn))
          (λ _. mine)
          (λ j u other h. moved root history maker origin r.log log' r.spot r.spot r.owner r.owner (others_in s.views) (others_in s.views) j u (prefix_more r.log (item ∷ []))
          (items_same maker u.knowledge.number r.log item (λ e. other (sym (one_owner root history maker origin r.log r.spot r.owner (others_in s.views) id j v u f h (sym made ∙ e)))))
          refl
          (λ t. absurd (other (one_spot r.spot j id (h.turn_is t).0 away_is)))
          (λ _ l. leads_on r.log r.owner (others_in s.views) u item v.knowledge.number id f.owned made l) h)

  pub notes : (slots id : ℕ) (m : Me (Option T) V) (v : V) (x : T) (item : I) → m ≡ (v, (0, Some x) ∷ []) → v.is_live ≡ true → v.knowledge.has_turn ≡ true → maker item ≡ v.knowledge.number
      → history x ≡ v.knowledge.seen ++ item ∷ [] → length (history x) < 2 ^ 64 → Allows Rule slots id m 0 (λ n. (n + 1) % 2 ^ 64) (Notes history (step slots 0 1 0 none) m)
  notes slots id m v x item is live turn made grown fits = let P : Me (Option T) V → Type 0 = λ m. Allows Rule slots id m 0 (λ n. (n + 1) % 2 ^ 64) (Notes history (step slots 0 1 0 none) m) in
      subst P (sym is) (note_at slots id v x item live turn made grown fits)

  hand_on_at : (slots id : ℕ) (v : V) (x : T) → v.is_live ≡ true → v.knowledge.has_turn ≡ true → v.knowledge.root ≡ root x ∷ [] → history x ≡ v.knowledge.seen
      → Allows Rule slots id (v, (0, Some x) ∷ []) 1 (λ _. 0) (λ _. HandsOn (step slots 1 0 0 none) (v, (0, Some x) ∷ []) 0)
  hand_on_at slots id v x live turn rooted same s r deep at small = (w, gives, tt, kept, refl)
    where
      w : V
      w = with_knowledge v (after_leave v.knowledge)

      f : Fit r.log r.spot r.owner (others_in s.views) id v
      f = r.each_live id v at live

      away_is : r.spot ≡ away id
      away_is = (f.turn_is turn).0

      root_is : root x ≡ origin
      root_is = let e : root x ∷ [] ≡ origin ∷ [] = sym rooted ∙ f.root_is in cc (e)

      mine : Fit r.log (home x) r.owner (others_in s.views) id w
      mine = record {
        root_is = f.root_is;
        seen_is = f.seen_is;
        own_is = f.own_is;
        owned = f.owned;
        turn_is = λ t. absurd (cc (t));
        first_is = f.first_is;
        second_is = f.second_is;
        leads = λ z. let l = f.leads z in record { not_given = l.not_given; ended_gone = l.ended_gone; ended_stand = l.ended_stand; counted = l.counted; came_back = l.came_back };
      }

      kept : Rule (stepped s 1 0 id ((0, Some x) ∷ []) w gives)
      kept = steps root history maker origin s r id v w r.log (home x) _ _ at refl refl
          (ap (λ ws. set ws 1 0) r.words)
          (ap (λ hs. set hs 0 (some (Some x))) (r.homes ∙ ap homes_of away_is))
          (same ∙ (f.turn_is turn).1, root_is)
          (λ _. mine)
          (λ j u other h. moved root history maker origin r.log r.log r.spot (home x) r.owner r.owner (others_in s.views) (others_in s.views) j u (prefix_self r.log) refl refl
          (λ t. absurd (other (one_spot r.spot j id (h.turn_is t).0 away_is))) (λ _ l. l) h)

  pub hands_on : (slots id : ℕ) (m : Me (Option T) V) (v : V) (x : T) → m ≡ (v, (0, Some x) ∷ []) → v.is_live ≡ true → v.knowledge.has_turn ≡ true → v.knowledge.root ≡ root x ∷ [] → history x ≡ v.knowledge.seen
      → Allows Rule slots id m 1 (λ _. 0) (λ _. HandsOn (step slots 1 0 0 none) m 0)
  hands_on slots id m v x is live turn rooted same = let P : Me (Option T) V → Type 0 = λ m. Allows Rule slots id m 1 (λ _. 0) (λ _. HandsOn (step slots 1 0 0 none) m 0) in
      subst P (sym is) (hand_on_at slots id v x live turn rooted same)

module _ {T V : Type 0} where
  -- the value was put into the slot that the seat holds
  pub refilled : (m m' : Me (Option T) V) (x : T) → m.1 ≡ (0, None) ∷ [] → m' ≡ (m.0, (0, Some x) ∷ rest m.1) → m' ≡ (m.0, (0, Some x) ∷ [])
  refilled m m' x was is = is ∙ ap (λ (c : List (ℕ × Option T)). (m.0, (0, Some x) ∷ rest c)) was

module _ {T R I : Type 0} (history : T → List I) where
  -- and then noted
  pub has_noted : (m m' m'' : Me (Option T) (View R I)) (x : T) → m' ≡ (m.0, (0, Some x) ∷ []) → m'' ≡ (with_note history m'.0 m'.1, m'.1) → m'' ≡ (with_note history m.0 ((0, Some x) ∷ []), (0, Some x) ∷ [])
  has_noted m m' m'' x was is = is ∙ ap (λ (n : Me (Option T) (View R I)). (with_note history n.0 n.1, n.1)) was
