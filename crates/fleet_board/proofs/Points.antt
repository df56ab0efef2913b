-- What a turn finds, and what a pass knows after it.
use Rattle.fleet_board.proofs.Common.{◌≡◌, ℕ, ◌+◌, ◌-◌, false, List, [], ◌∷◌, ◌++◌, length, take, drop, refl, sym, ap, subst, ◌∙◌, length-append, arith, append-nil, filter-append, drop-append_seam, IsPrefix, Entry, after_entry, replay, IsLegal, HasText, replay-append, replay-push, Recorded, state_of, items_of, GrowsByOne, after_enter, after_leave, after_note, items_more, Known, maker_of, root_of, seen_state, state_before, IsPoint, AddsNone, AddsEntry, IsTold, Finds, as_began}
use Rattle.fleet_board.proofs.Parts.{nothing_behind}

-- a turn finds the pass's board, gone on by entries of others
pub finds : (k : Known) (board : Recorded) → IsPoint k → k.root ≡ as_began board ∷ [] → IsPrefix k.seen board.history
    → items_of maker_of k.number board.history ≡ k.own → IsTold board → Finds k board
finds k board point root seen own told = record {
  began = ap (λ (r : List Recorded). root_of (record k { root = r })) root;
  between = seen.0;
  goes_on = sym seen.1;
  others = nothing_behind (items_of maker_of k.number k.seen) (items_of maker_of k.number seen.0) (
      sym (filter-append _ k.seen seen.0) ∙ ap (items_of maker_of k.number) seen.1 ∙ own ∙ point.own_are
      );
  told = told;
}

-- a board after a call: its start, feeds and desks are as they were
abbrev pub GoesOn : Recorded → Recorded → Type 0
GoesOn old new = new ≡ record old { history = new.history; spare = new.spare }

same_began : (old new : Recorded) → GoesOn old new → as_began old ≡ as_began new
same_began old new goes = sym (ap as_began goes)

-- the history grew by one entry of the pass
pub grown : (k entered : Known) (old new : Recorded) (entry : Entry) → entered ≡ after_enter k old.history → maker_of entry ≡ k.number
    → new.history ≡ old.history ++ entry ∷ [] → GrowsByOne maker_of entered.number entered.seen new.history
grown k entered old new entry enters made history = record {
  item = entry;
  made = made ∙ sym (ap (λ (x : Known). x.number) enters);
  grown = history ∙ ap (λ (seen : List Entry). seen ++ entry ∷ []) (sym (ap (λ (x : Known). x.seen) enters));
}

-- a turn in which an entry of the pass was added: what the pass knew and knows, and the board before and after
pub record Added (k after : Known) (old new : Recorded) (entry : Entry) : Type 0 where
  pub found : Finds k old
  pub goes : GoesOn old new
  pub history : new.history ≡ old.history ++ entry ∷ []
  pub made : maker_of entry ≡ k.number
  pub told : IsTold new
  pub knows : after ≡ record k { seen = new.history; own = k.own ++ entry ∷ [] }

pub added : (k entered after : Known) (old new : Recorded) (entry : Entry) → Finds k old → k.has_turn ≡ false
    → entered ≡ after_enter k old.history → GoesOn old new → new.history ≡ old.history ++ entry ∷ [] → maker_of entry ≡ k.number
    → IsTold new → after ≡ after_leave (after_note entered new.history) → Added k after old new entry
added k entered after old new entry found free enters goes history made told leaves = record {
  found = found;
  goes = goes;
  history = history;
  made = made;
  told = told;
  knows = leaves ∙ ap (λ (x : Known). after_leave (after_note x new.history)) enters
      ∙ (λ i. record k { has_turn = sym free i; seen = new.history; own = k.own ++ one i });
}
  where
    one : drop (length old.history) new.history ≡ entry ∷ []
    one = ap (drop (length old.history)) history ∙ drop-append_seam old.history (entry ∷ [])

-- the last entry taken away
but_last : (entries : List Entry) (entry : Entry) → take (length (entries ++ entry ∷ []) - 1) (entries ++ entry ∷ []) ≡ entries
but_last entries entry =
    ap (λ n. take n (entries ++ entry ∷ [])) (count (length entries) (length (entries ++ entry ∷ [])) (length-append entries (entry ∷ [])))
    ∙ front entries
  where
    count : (n m : ℕ) → m ≡ n + 1 → m - 1 ≡ n
    count n m e = omega (arith, e)

    front : (es : List Entry) → take (length es) (es ++ entry ∷ []) ≡ es
    front [] = refl
    front (e ∷ es) = ap (λ rest. e ∷ rest) (front es)

module _ (k after : Known) (old new : Recorded) (entry : Entry) (a : Added k after old new entry) where
  -- the board as it began, after the call
  began-new : root_of k ≡ as_began new
  began-new = a.found.began ∙ same_began old new a.goes

  -- the entry stands at a point after what was seen
  pub adds : AddsEntry k after entry
  adds = record {
    appends = record {
      goes_on = (
        a.found.between,
        ap (λ (x : Known). x.seen) a.knows ∙ a.history ∙ ap (λ (h : List Entry). h ++ entry ∷ []) a.found.goes_on,
      );
      own_grows = ap (λ (x : Known). x.own) a.knows;
    };
    rest = a.knows
        ∙ (λ i. record k { seen = sym (ap (λ (x : Known). x.seen) a.knows) i; own = sym (ap (λ (x : Known). x.own) a.knows) i });
  }

  -- the pass stands there
  pub point-added : IsPoint k → IsPoint after
  point-added point = subst IsPoint (sym a.knows) (record {
    root_is = point.root_is;
    start_fits = point.start_fits;
    legal = subst (λ (r : Recorded). IsLegal r.feeds r.desks r.start new.history) (sym began-new) a.told.legal;
    text = subst (λ (r : Recorded). HasText r.start.settings.log r.feeds r.desks new.history) (sym began-new) a.told.text;
    own_are = own;
  })
    where
      own : k.own ++ entry ∷ [] ≡ items_of maker_of k.number new.history
      own =
          sym (ap (items_of maker_of k.number) a.history ∙ items_more maker_of k.number old.history entry a.made
          ∙ ap (λ (h : List Entry). items_of maker_of k.number h ++ entry ∷ []) a.found.goes_on
          ∙ ap (λ (items : List Entry). items ++ entry ∷ []) (filter-append _ k.seen a.found.between
          ∙ ap (λ (items : List Entry). items_of maker_of k.number k.seen ++ items) a.found.others
          ∙ append-nil (items_of maker_of k.number k.seen) ∙ sym point.own_are))

  -- the state before the entry is that of the board
  pub before-added : state_before after ≡ state_of old
  before-added =
      ap state_before a.knows
      ∙ ap (λ (r : Recorded). replay r.start (take (length new.history - 1) new.history)) a.found.began
      ∙ ap (λ (h : List Entry). replay old.start (take (length h - 1) h)) a.history
      ∙ ap (replay old.start) (but_last old.history entry)

  -- and the state that was seen is that after the entry
  pub state-added : seen_state after ≡ after_entry (state_of old) entry
  state-added =
      ap seen_state a.knows
      ∙ ap (λ (r : Recorded). replay r.start new.history) a.found.began
      ∙ ap (replay old.start) a.history
      ∙ replay-push old.start old.history entry

  -- which is that of the board after the call
  pub state-new : seen_state after ≡ state_of new
  state-new = ap seen_state a.knows ∙ ap (λ (r : Recorded). replay r.start new.history) began-new

  pub root-new : root_of after ≡ as_began new
  root-new = ap root_of a.knows ∙ began-new

-- a turn in which nothing was added
pub record Looked (k after : Known) (old : Recorded) : Type 0 where
  pub found : Finds k old
  pub knows : after ≡ record k { seen = old.history }

pub looked : (k entered after : Known) (old : Recorded) → Finds k old → k.has_turn ≡ false → entered ≡ after_enter k old.history
    → after ≡ after_leave entered → Looked k after old
looked k entered after old found free enters leaves = record {
  found = found;
  knows = leaves ∙ ap after_leave enters ∙ (λ i. record k { has_turn = sym free i; seen = old.history });
}

module _ (k after : Known) (old : Recorded) (l : Looked k after old) where
  -- the pass has seen the history as it stood
  pub sees : AddsNone k after
  sees = record {
    sees = record {
      goes_on = (l.found.between, ap (λ (x : Known). x.seen) l.knows ∙ l.found.goes_on);
      own_stays = ap (λ (x : Known). x.own) l.knows;
    };
    rest = l.knows ∙ (λ i. record k { seen = sym (ap (λ (x : Known). x.seen) l.knows) i });
  }

  pub point-looked : IsPoint k → IsPoint after
  point-looked point = subst IsPoint (sym l.knows) (record {
    root_is = point.root_is;
    start_fits = point.start_fits;
    legal = subst (λ (r : Recorded). IsLegal r.feeds r.desks r.start old.history) (sym l.found.began) l.found.told.legal;
    text = subst (λ (r : Recorded). HasText r.start.settings.log r.feeds r.desks old.history) (sym l.found.began) l.found.told.text;
    own_are = point.own_are ∙ sym (append-nil (items_of maker_of k.number k.seen))
        ∙ ap (λ (items : List Entry). items_of maker_of k.number k.seen ++ items) (sym l.found.others)
        ∙ sym (filter-append _ k.seen l.found.between) ∙ ap (items_of maker_of k.number) (sym l.found.goes_on);
  })

  pub state-looked : seen_state after ≡ state_of old
  state-looked = ap seen_state l.knows ∙ ap (λ (r : Recorded). replay r.start old.history) l.found.began

  pub root-looked : root_of after ≡ root_of k
  root-looked = ap root_of l.knows

-- the state that a turn finds, by what was seen and the entries between
pub found-state : (k : Known) (board : Recorded) (f : Finds k board) → state_of board ≡ replay (seen_state k) f.between
found-state k board f =
    ap (replay board.start) f.goes_on ∙ replay-append board.start k.seen f.between
    ∙ ap (λ (r : Recorded). replay (replay r.start k.seen) f.between) (sym f.began)
