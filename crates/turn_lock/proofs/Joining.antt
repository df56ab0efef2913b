-- Splitting and joining passes keep the rule.
use Rattle.turn_lock.proofs.Common.{◌≡◌, ◌≢◌, ℕ, ◌+◌, ◌-◌, ◌<◌, ◌≤◌, true, false, List, [], ◌∷◌, ◌++◌, length, get_or, set, sym, refl, ap, ◌∙◌, subst, ⊎_elim, arith, length-set, Option, Some, None, All-push, IsPrefix, dite, none, some, some-injective, dec_le, get_elem?, State, Me, step, keeps, Allows, Splits, Joins, set_here, set_else, set_again, at_longer, View, items_of, Spot, home, away, others_in, Stands, Leads, Fits, IsKept, left_of, right_of, both_of, spent_view, IsJoined, Looks}
use lib.Seq.{set-get_or}
use Rattle.turn_lock.specs.declared.rule.Ended.{Ended}
use Rattle.turn_lock.proofs.Lists.{prefix_self, prefix_nil, longer_is, at_push, others-set, others-push, weight, weight_other}
use Rattle.turn_lock.proofs.Views.{there_is, none_else, true_else, owner_with, owner_here, owner_there, owner_none, each_set, moved, one_owner, stands_set, unmoved}

module _ {T R I : Type 0} (root : T → R) (history : T → List I) (maker : I → ℕ) (origin : R) where
  abbrev V : Type 0
  V = View R I

  abbrev St : Type 0
  St = State (Option T) V

  abbrev Rule : St → Type 0
  Rule = IsKept root history maker origin

  abbrev Stand : List I → List V → Spot T → Type 0
  Stand = Stands root history maker origin

  abbrev Lead : List I → (ℕ → Option ℕ) → ℕ → V → Type 0
  Lead = Leads root history maker origin

  abbrev Fit : List I → Spot T → (ℕ → Option ℕ) → ℕ → ℕ → V → Type 0
  Fit = Fits root history maker origin

  pub looks : (slots id : ℕ) (m : Me (Option T) V) → m.0.is_live ≡ true → Allows Rule slots id m 0 (λ n. n) (Looks (step slots 0 0 0 none) m)
  looks slots id m live s r deep at small = (m.0, keeps, tt, unmoved root history maker origin s _ _ (set-get_or s.words 0 0) (set_again s.views id m.0 at) r, (refl, joined, counted))
    where
      f : Fit r.log r.spot r.owner (others_in s.views) id m.0
      f = r.each_live id m.0 at live

      joined : IsJoined m.0
      joined = record { first_is = f.first_is; second_is = f.second_is; came_back = λ z. (f.leads z).came_back }

      counted : m.0.knowledge.has_turn ≡ true → get_or s.words 0 0 ≡ length m.0.knowledge.seen
      counted turn = ap (λ ws. get_or ws 0 0) r.words ∙ ap (λ (l : List I). length l) (sym (f.turn_is turn).1)

  pub splits : (id : ℕ) (v : V) → v.is_live ≡ true → v.knowledge.number ≡ 0 → 2 ≤ v.knowledge.room → v.knowledge.has_turn ≡ false → Splits Rule id v (left_of v) (right_of maker v)
  splits id v live zeroth room free s r at = record {
    log = r.log;
    spot = r.spot;
    owner = owner';
    words = r.words;
    homes = r.homes;
    stands = stands r.spot (stands_set root history maker origin r.log s.views id v left r.spot at free r.stands);
    each_live = λ j u at' live'. subst (λ (n : ℕ). Fit r.log r.spot owner' n j u) (sym count)
        (⊎_elim (λ (e : get_elem? (set s.views id left) j ≡ some u). each_set F s.views id left (λ _. mine) other_fits j u e live')
        (λ (e : (j ≡ length (set s.views id left)) × (right ≡ u)). let P : ℕ × V → Type 0 = λ p. F p.0 p.1 in subst P (λ k. (sym (e.0 ∙ length-set s.views id left) k, e.1 k)) new)
        (at_push (set s.views id left) right u j at'));
  }
    where
      left : V
      left = left_of v

      right : V
      right = right_of maker v

      number : ℕ
      number = v.knowledge.room - 1

      owner' : ℕ → Option ℕ
      owner' = owner_with r.owner number (Some (length s.views))

      F : ℕ → V → Type 0
      F = Fit r.log r.spot owner' (others_in s.views + 1)

      f : Fit r.log r.spot r.owner (others_in s.views) id v
      f = r.each_live id v at live

      lead : Lead r.log r.owner (others_in s.views) v
      lead = f.leads zeroth

      unused : (r.owner number ≡ None) × (items_of maker number r.log ≡ items_of maker number v.knowledge.earlier)
      unused = lead.not_given number (omega arith) (omega arith)

      has_number : right.knowledge.number ≢ 0
      has_number e = omega arith

      count : others_in (set s.views id left ++ right ∷ []) ≡ others_in s.views + 1
      count = let a = others-push (set s.views id left) right in let b = others-set s.views id v left at in let c = weight_other right refl has_number in
          let same : weight left ≡ weight v = refl in omega (arith, a, b, c, same)

      stands : (spot : Spot T) → Stand r.log (set s.views id left) spot → Stand r.log (set s.views id left ++ right ∷ []) spot
      stands (home x) t = t
      stands (away j) t = (t.0, at_longer (set s.views id left) (right ∷ []) j t.0 t.1, t.2, t.3)

      mine : F id left
      mine = record {
        root_is = f.root_is;
        seen_is = f.seen_is;
        own_is = f.own_is;
        owned = owner_there r.owner number (Some (length s.views)) v.knowledge.number (λ e. omega arith) ∙ f.owned;
        turn_is = λ t. absurd (true_else v.knowledge.has_turn t free);
        first_is = f.first_is;
        second_is = f.second_is;
        leads = λ z. record {
          not_given = λ n pos low. let o = lead.not_given n pos (omega arith) in (owner_there r.owner number (Some (length s.views)) n (λ e. omega arith) ∙ o.0, o.1);
          ended_gone = λ k d low. let g = lead.ended_gone k d low in let old = g.1 in (owner_there r.owner number (Some (length s.views)) _ (λ e. omega (arith, e, old)) ∙ g.0, omega (arith, old));
          ended_stand = lead.ended_stand;
          counted = let l = lead.counted in omega (arith, l);
          came_back = ap (λ (k : ℕ). k + 1) lead.came_back;
        };
      }

      other_fits : (j : ℕ) (u : V) → j ≢ id → get_elem? s.views j ≡ some u → u.is_live ≡ true → F j u
      other_fits j u apart at' live' = let h = r.each_live j u at' live' in
          moved root history maker origin r.log r.log r.spot r.spot r.owner owner' (others_in s.views) (others_in s.views + 1) j u (prefix_self r.log) refl
          (owner_there r.owner number (Some (length s.views)) u.knowledge.number (λ e. none_else (r.owner number) j unused.0 (ap r.owner (sym e) ∙ h.owned)))
          h.turn_is
          (λ z l. absurd (apart (sym (one_owner root history maker origin r.log r.spot r.owner (others_in s.views) id j v u f h (zeroth ∙ sym z))))) h

      new : F (length s.views) right
      new = record {
        root_is = f.root_is;
        seen_is = f.seen_is;
        own_is = sym unused.1;
        owned = owner_here r.owner number (Some (length s.views));
        turn_is = λ t. absurd (cc (t));
        first_is = prefix_nil v.knowledge.seen;
        second_is = prefix_nil v.knowledge.seen;
        leads = λ z. absurd (has_number z);
      }

  pub joins : (id : ℕ) (v : V) (other : ℕ) (w : V) → v.is_live ≡ true → w.is_live ≡ true → v.knowledge.number ≡ 0 → w.knowledge.number ≢ 0 → v.knowledge.has_turn ≡ false → w.knowledge.has_turn ≡ false
      → Joins Rule id v other w (both_of v w) spent_view
  joins id v other w live live_other zeroth numbered free free_other s r at apart at_both = record {
    log = r.log;
    spot = r.spot;
    owner = owner';
    words = r.words;
    homes = r.homes;
    stands = stands_set root history maker origin r.log (set s.views id both) other w spent_view r.spot at_both free_other (stands_set root history maker origin r.log s.views id v both r.spot at free r.stands);
    each_live = λ j u at' live'. each_set G (set s.views id both) other spent_view (λ t. absurd (cc (t)))
        (λ j u not_other e l _. each_set G s.views id both (λ _ _. mine) other_fits j u e l not_other) j u at' live' (kept_place j u at' live');
  }
    where
      both : V
      both = both_of v w

      views' : List V
      views' = set (set s.views id both) other spent_view

      owner' : ℕ → Option ℕ
      owner' = owner_with r.owner w.knowledge.number None

      F : ℕ → V → Type 0
      F = Fit r.log r.spot owner' (others_in views')

      G : ℕ → V → Type 0
      G j u = j ≢ other → F j u

      at_other : get_elem? s.views other ≡ some w
      at_other = sym (set_else s.views id other both apart) ∙ at_both

      f : Fit r.log r.spot r.owner (others_in s.views) id v
      f = r.each_live id v at live

      g : Fit r.log r.spot r.owner (others_in s.views) other w
      g = r.each_live other w at_other live_other

      lead : Lead r.log r.owner (others_in s.views) v
      lead = f.leads zeroth

      count : others_in views' + 1 ≡ others_in s.views
      count = let a = others-set (set s.views id both) other w spent_view at_both in let b = others-set s.views id v both at in let c = weight_other w live_other numbered in
          let same : weight both ≡ weight v = refl in let none_left : weight {R = R} {I = I} spent_view ≡ 0 = refl in omega (arith, a, b, c, same, none_left)

      seen_is : IsPrefix v.knowledge.seen both.knowledge.seen × IsPrefix w.knowledge.seen both.knowledge.seen × IsPrefix both.knowledge.seen r.log
      seen_is = longer_is v.knowledge.seen w.knowledge.seen r.log f.seen_is g.seen_is

      past : v.knowledge.room ≤ w.knowledge.number
      past = dite (dec_le v.knowledge.room w.knowledge.number) (λ h. h)
          (λ less. let pos : 0 < w.knowledge.number = omega arith in absurd (none_else (r.owner w.knowledge.number) other (lead.not_given w.knowledge.number pos (omega arith)).0 g.owned))

      mine : F id both
      mine = record {
        root_is = f.root_is;
        seen_is = seen_is.2;
        own_is = f.own_is;
        owned = owner_there r.owner w.knowledge.number None v.knowledge.number (λ e. numbered (sym e ∙ zeroth)) ∙ f.owned;
        turn_is = λ t. absurd (true_else v.knowledge.has_turn t free);
        first_is = seen_is.0;
        second_is = seen_is.1;
        leads = λ z. record {
          not_given = λ n pos low. let o = lead.not_given n pos low in (owner_none r.owner w.knowledge.number n o.0, o.1);
          ended_gone = All-push (λ (e : Ended I). (owner' e.number ≡ None) × (v.knowledge.room ≤ e.number)) v.knowledge.ended record { number = w.knowledge.number; items = w.knowledge.own }
              (λ k d low. let o = lead.ended_gone k d low in (owner_none r.owner w.knowledge.number _ o.0, o.1)) (owner_here r.owner w.knowledge.number None, past);
          ended_stand = All-push (λ (e : Ended I). items_of maker e.number r.log ≡ e.items) v.knowledge.ended record { number = w.knowledge.number; items = w.knowledge.own } lead.ended_stand (sym g.own_is);
          counted = let l = lead.counted in omega (arith, l, count);
          came_back = let l = lead.counted in omega (arith, l, count);
        };
      }

      other_fits : (j : ℕ) (u : V) → j ≢ id → get_elem? s.views j ≡ some u → u.is_live ≡ true → G j u
      other_fits j u not_id at' live' no_other = let h = r.each_live j u at' live' in
          moved root history maker origin r.log r.log r.spot r.spot r.owner owner' (others_in s.views) (others_in views') j u (prefix_self r.log) refl
          (owner_there r.owner w.knowledge.number None u.knowledge.number (λ e. no_other (one_owner root history maker origin r.log r.spot r.owner (others_in s.views) j other u w h g e)))
          h.turn_is
          (λ z l. absurd (not_id (one_owner root history maker origin r.log r.spot r.owner (others_in s.views) j id u v h f (z ∙ sym zeroth)))) h

      -- the spent seat is not live
      kept_place : (j : ℕ) (u : V) → get_elem? views' j ≡ some u → u.is_live ≡ true → j ≢ other
      kept_place j u at' live' e = let P : ℕ → Type 0 = λ k. get_elem? views' k ≡ some u in
          let same : spent_view ≡ u = some-injective spent_view u (sym (set_here (set s.views id both) other spent_view (there_is (set s.views id both) other w at_both)) ∙ subst P e at') in
          let t : false ≡ true = ap (λ (y : V). y.is_live) same ∙ live' in absurd (cc (t))

module _ {T R I : Type 0} where
  -- after a join
  pub still_live : (m : Me (Option T) (View R I)) (v w : View R I) (c : List (ℕ × Option T)) → m ≡ (both_of v w, c) → v.is_live ≡ true → m.0.is_live ≡ true
  still_live m v w c is live = (λ k. (is k).0.is_live) ∙ live
