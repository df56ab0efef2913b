-- Entries that a pass has made.
use Rattle.session_loops.proofs.Common.{◌≡◌, List, [], ◌∷◌, ◌++◌, refl, ap, sym, ◌∙◌, append_assoc, append-nil, IsPrefix, Ending, Entry, end_entry, Known, AddsEntry, AddsNone, actor_of, root_of, EndsWith, HasMade}
use Rattle.turn_lock.proofs.Lists.{prefix_self, prefix_trans}

-- none at first
pub made-none : (k : Known) → HasMade k k []
made-none k = record { own_is = sym (append-nil k.own); goes_on = prefix_self k.seen; rest = refl }

-- what a pass has seen goes on where it adds an entry
added-prefix : (b c : Known) (entry : Entry) → AddsEntry b c entry → IsPrefix b.seen c.seen
added-prefix b c entry adds =
    let (between, is) = adds.appends.goes_on in
    (between ++ entry ∷ [], sym (append_assoc b.seen between (entry ∷ [])) ∙ sym is)

-- one entry more
pub made-then : (a b c : Known) (made : List Entry) (entry : Entry) → HasMade a b made → AddsEntry b c entry → HasMade a c (made ++ entry ∷ [])
made-then a b c made entry has adds = record {
  own_is = adds.appends.own_grows ∙ ap (λ (own : List Entry). own ++ entry ∷ []) has.own_is ∙ append_assoc a.own made (entry ∷ []);
  goes_on = prefix_trans a.seen b.seen c.seen has.goes_on (added-prefix b c entry adds);
  rest = adds.rest ∙ ap (λ (x : Known). record x { seen = c.seen; own = c.own }) has.rest;
}

-- one entry before
pub made-first : (a b c : Known) (entry : Entry) (made : List Entry) → AddsEntry a b entry → HasMade b c made → HasMade a c (entry ∷ made)
made-first a b c entry made adds has = record {
  own_is = has.own_is ∙ ap (λ (own : List Entry). own ++ made) adds.appends.own_grows ∙ append_assoc a.own (entry ∷ []) made;
  goes_on = prefix_trans a.seen b.seen c.seen (added-prefix a b entry adds) has.goes_on;
  rest = has.rest ∙ ap (λ (x : Known). record x { seen = c.seen; own = c.own }) adds.rest;
}

-- no entry more
pub made-same : (a b c : Known) (made : List Entry) → HasMade a b made → AddsNone b c → HasMade a c made
made-same a b c made has adds =
    let (between, is) = adds.sees.goes_on in
    record {
      own_is = adds.sees.own_stays ∙ has.own_is;
      goes_on = prefix_trans a.seen b.seen c.seen has.goes_on (between, sym is);
      rest = adds.rest ∙ ap (λ (x : Known). record x { seen = c.seen }) has.rest
          ∙ (λ i. record a { seen = c.seen; own = sym adds.sees.own_stays i });
    }

-- and then the actor's end
pub made-end : (a b c : Known) (made : List Entry) (ending : Ending) → HasMade a b made → AddsEntry b c (end_entry (actor_of b.number) ending)
    → EndsWith a c made ending
made-end a b c made ending has adds = record {
  own_is = adds.appends.own_grows ∙ (λ i. has.own_is i ++ end_entry (actor_of (number i)) ending ∷ []);
  goes_on = prefix_trans a.seen b.seen c.seen has.goes_on (added-prefix b c (end_entry (actor_of b.number) ending) adds);
  rest = adds.rest ∙ ap (λ (x : Known). record x { seen = c.seen; own = c.own }) has.rest;
}
  where
    number : b.number ≡ a.number
    number = ap (λ (x : Known). x.number) has.rest

-- the board as it began is that of the pass still
pub root-added : (b c : Known) (entry : Entry) → AddsEntry b c entry → root_of c ≡ root_of b
root-added b c entry adds = ap root_of adds.rest
