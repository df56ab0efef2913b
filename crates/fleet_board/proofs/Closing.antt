-- What a close finds of the passes that were joined into the scribe's.
use Rattle.fleet_board.proofs.Common.{◌≡◌, ℕ, ◌+◌, List, [], ◌∷◌, ◌++◌, Option, Some, None, refl, sym, ap, subst, ◌∙◌, inl, inr, All, IfSome, MatchOption, IsPrefix, Actor, Feed, Desk, Entry, IsOneOrTwo, HasLine, Among, items_of, EndedStand, after_join, prefix_trans, Known, maker_of, IsPartOf}
use Rattle.model_laws.proofs.plain.Each.{of_all, all_of}
use Rattle.turn_lock.specs.declared.rule.Ended.{Ended}
use Rattle.fleet_board.proofs.Parts.{items-feed, items-desk}

-- what is among the first part is among the whole, and so the last
among_first : {X : Type 0} (xs ys : List X) (x : X) → Among x xs → Among x (xs ++ ys)
among_first [] ys x there = absurd there
among_first (z ∷ xs) ys x (inl is) = inl is
among_first (z ∷ xs) ys x (inr there) = inr (among_first xs ys x there)

among_last : {X : Type 0} (xs : List X) (x : X) → Among x (xs ++ x ∷ [])
among_last [] x = inl refl
among_last (y ∷ xs) x = inr (among_last xs x)

-- the items of a pass stand in the history
abbrev pub Stands : List Entry → Known → Type 0
Stands history k = items_of maker_of k.number history ≡ k.own

-- numbers that stood before a join stand after it, with the pass that was joined
pub record Joined {X : Type 0} (f : X → Known) (history : List Entry) (o : Option X) (k : Known) : Type 0 where
  pub before : EndedStand maker_of k.ended history
  pub its : IfSome o (λ p. Stands history (f p))

pub joined : {X : Type 0} (f : X → Known) (history : List Entry) (o : Option X) (k after : Known)
    → MatchOption o (after ≡ k) (λ p. after ≡ after_join k (f p)) → EndedStand maker_of after.ended history → Joined f history o k
joined f history None k after same stand = record {
  before = subst (λ (x : Known). EndedStand maker_of x.ended history) same stand;
  its = tt;
}
joined f history (Some p) k after is stand =
    let last : Ended Entry = record { number = (f p).number; items = (f p).own } in
    let all : EndedStand maker_of (k.ended ++ last ∷ []) history = subst (λ (x : Known). EndedStand maker_of x.ended history) is stand in
    let holds : Ended Entry → Type 0 = λ e. items_of maker_of e.number history ≡ e.items in
    record {
      before = all_of holds k.ended (λ e there. of_all holds (k.ended ++ last ∷ []) e all (among_first k.ended (last ∷ []) e there));
      its = of_all holds (k.ended ++ last ∷ []) last all (among_last k.ended last);
    }

-- a part of the history, by what stands and what was seen
abbrev pub TellsPart : List Entry → Actor → ℕ → Type 0
TellsPart history actor n = (k : Known) → k.number ≡ n → Stands history k → IsPrefix k.seen history → IsPartOf history actor k

pub feed-part : (log n : ℕ) (history : List Entry) → All (HasLine log) history → IsOneOrTwo n → TellsPart history (Feed n) n
feed-part log n history lines fits k number stands seen = record {
  seen_first = seen;
  own_all = sym stands ∙ ap (λ m. items_of maker_of m history) number ∙ items-feed log n history lines fits;
}

pub desk-part : (log n : ℕ) (history : List Entry) → All (HasLine log) history → IsOneOrTwo n → TellsPart history (Desk n) (n + 2)
desk-part log n history lines fits k number stands seen = record {
  seen_first = seen;
  own_all = sym stands ∙ ap (λ m. items_of maker_of m history) number ∙ items-desk log n history lines fits;
}

-- the pass of an actor, where there is one
pub part-is : {X : Type 0} (f : X → Known) (o : Option X) (history seen : List Entry) (actor : Actor) (n : ℕ) → TellsPart history actor n
    → IfSome o (λ p. (f p).number ≡ n) → IfSome o (λ p. Stands history (f p)) → IfSome o (λ p. IsPrefix (f p).seen seen) → IsPrefix seen history
    → IfSome o (λ p. IsPartOf history actor (f p))
part-is f None history seen actor n tells number stands first goes_on = tt
part-is f (Some p) history seen actor n tells number stands first goes_on =
    tells (f p) number stands (prefix_trans (f p).seen seen history first goes_on)
