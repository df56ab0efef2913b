-- The words why a line is wrong: together they are what makes an entry legal, and only one is the first that is not met.
use Rattle.log_audit.proofs.Common.{◌≡◌, ℕ, List, refl, sym, ◌∙◌, subst, Option, Some, None, IsSome, IfSome, IsSomeAnd, All, nat_eq, IsDistinct, Actor, Feed, Desk, Entry, Event, Fed, Finish, Opened, Committed, Abandoned, Outcome, Seat, outcomes_of, IsLegal, IsLegalEvent, CommitsBatch, replay, BatchCopy, IsSeating, Certifies, seating_cost, State, open_batch_numbered, ride_ids, certified_is_least, IsStart, consistent, open-batch, Why, Spelling, Meets, IsFault, [], ◌∷◌, ◌++◌, All-head, All-tail, AllByRecursion, All-from_recursion}
use Rattle.log_audit.specs.declared.verdict.Why.TheVariants.{Actor as ToActor, Reply as ToReply, Batch as ToBatch, Seating as ToSeating, Prices as ToPrices, Outcomes as ToOutcomes}

-- of two words that are each the first in a list of which something does not hold, one is the other
first-same : (P : Why → Type 0) (before others after rest : List Why) (a b : Why) → before ++ a ∷ after ≡ others ++ b ∷ rest → All P before → (P a → ⊥)
    → All P others → (P b → ⊥) → a ≡ b
first-same P [] [] after rest a b same holds fails others_hold fails_too = cc same
first-same P [] (w ∷ others) after rest a b same holds fails others_hold fails_too =
    let is : w ≡ a = cc same in
    absurd (fails (subst P is (All-head P w others others_hold)))
first-same P (w ∷ before) [] after rest a b same holds fails others_hold fails_too =
    let is : w ≡ b = cc same in
    absurd (fails_too (subst P is (All-head P w before holds)))
first-same P (w ∷ before) (x ∷ others) after rest a b same holds fails others_hold fails_too =
    first-same P before others after rest a b (cc same) (All-tail P w before holds) fails (All-tail P x others others_hold) fails_too

-- only one word is the first that is not met
pub one-fault : (a b : Why) (feeds desks : ℕ) (s : State) (actor : Actor) (event : Event) → IsFault a feeds desks s actor event
    → IsFault b feeds desks s actor event → a ≡ b
one-fault a b feeds desks s actor event one other =
    first-same (λ word. Meets word feeds desks s actor event) one.earlier other.earlier one.later other.later a b (one.order_is ∙ sym other.order_is)
    one.before one.fault other.before other.fault

module _ (feeds desks : ℕ) (s : State) (actor : Actor) (event : Event) where
  -- these words are met
  met : (words : List Why) → AllByRecursion (λ word. Meets word feeds desks s actor event) words → All (λ word. Meets word feeds desks s actor event) words
  met words each = All-from_recursion (λ word. Meets word feeds desks s actor event) words each

  -- the actor may not do this
  pub fault_actor : (Meets ToActor feeds desks s actor event → ⊥) → IsFault ToActor feeds desks s actor event
  fault_actor never = record { earlier = []; later = ToReply ∷ ToBatch ∷ ToSeating ∷ ToPrices ∷ ToOutcomes ∷ []; order_is = refl; before = met [] tt; fault = never }

  -- the reply is another
  pub fault-reply : Meets ToActor feeds desks s actor event → (Meets ToReply feeds desks s actor event → ⊥) → IsFault ToReply feeds desks s actor event
  fault-reply may never = record { earlier = ToActor ∷ []; later = ToBatch ∷ ToSeating ∷ ToPrices ∷ ToOutcomes ∷ []; order_is = refl; before = met (ToActor ∷ []) (may, tt); fault = never }

  -- the batch is another
  pub fault-batch : Meets ToActor feeds desks s actor event → Meets ToReply feeds desks s actor event → (Meets ToBatch feeds desks s actor event → ⊥)
      → IsFault ToBatch feeds desks s actor event
  fault-batch may answered never =
      record { earlier = ToActor ∷ ToReply ∷ []; later = ToSeating ∷ ToPrices ∷ ToOutcomes ∷ []; order_is = refl; before = met (ToActor ∷ ToReply ∷ []) (may, (answered, tt)); fault = never }

module _ (feeds desks : ℕ) (s : State) (desk number cost : ℕ) (seats : List Seat) (prices pays : List (ℕ × ℕ)) (outcomes : List (ℕ × Outcome))
    (batch : BatchCopy) (found : open_batch_numbered s desk number ≡ Some batch) where
  abbrev event : Event
  event = Committed number cost seats prices pays outcomes

  may : Meets ToActor feeds desks s (Desk desk) event
  may = subst IsSome (sym found) refl

  -- what holds of the open batch
  of_batch : (P : BatchCopy → Type 0) → P batch → IfSome (open_batch_numbered s desk number) P
  of_batch P h = subst (λ o. IfSome o P) (sym found) h

  to_batch : (P : BatchCopy → Type 0) → IfSome (open_batch_numbered s desk number) P → P batch
  to_batch P h = subst (λ o. IfSome o P) found h

  -- the seats are no seating, or the cost is another
  pub fault-seating : (IsSeating s.roads batch seats × (cost ≡ seating_cost s.roads batch seats) → ⊥)
      → IsFault ToSeating feeds desks s (Desk desk) event
  fault-seating never = record {
    earlier = ToActor ∷ ToReply ∷ ToBatch ∷ [];
    later = ToPrices ∷ ToOutcomes ∷ [];
    order_is = refl;
    before = met feeds desks s (Desk desk) event (ToActor ∷ ToReply ∷ ToBatch ∷ []) (may, (tt, (tt, tt)));
    fault = λ h. never (to_batch (λ b. IsSeating s.roads b seats × (cost ≡ seating_cost s.roads b seats)) h);
  }

  -- the prices do not certify it
  pub fault-prices : IsSeating s.roads batch seats × (cost ≡ seating_cost s.roads batch seats)
      → (Certifies s.roads batch seats prices pays → ⊥) → IsFault ToPrices feeds desks s (Desk desk) event
  fault-prices seated never = record {
    earlier = ToActor ∷ ToReply ∷ ToBatch ∷ ToSeating ∷ [];
    later = ToOutcomes ∷ [];
    order_is = refl;
    before = met feeds desks s (Desk desk) event (ToActor ∷ ToReply ∷ ToBatch ∷ ToSeating ∷ [])
        (may, (tt, (tt, (of_batch (λ b. IsSeating s.roads b seats × (cost ≡ seating_cost s.roads b seats)) seated, tt))));
    fault = λ h. never (to_batch (λ b. Certifies s.roads b seats prices pays) h);
  }

  -- the outcomes are others
  pub fault-outcomes : IsSeating s.roads batch seats × (cost ≡ seating_cost s.roads batch seats)
      → Certifies s.roads batch seats prices pays → (outcomes ≡ outcomes_of batch seats s → ⊥)
      → IsFault ToOutcomes feeds desks s (Desk desk) event
  fault-outcomes seated priced never = record {
    earlier = ToActor ∷ ToReply ∷ ToBatch ∷ ToSeating ∷ ToPrices ∷ [];
    later = [];
    order_is = refl;
    before = met feeds desks s (Desk desk) event (ToActor ∷ ToReply ∷ ToBatch ∷ ToSeating ∷ ToPrices ∷ []) (
      may,
      (
        tt,
        (
          tt,
          (
            of_batch (λ b. IsSeating s.roads b seats × (cost ≡ seating_cost s.roads b seats)) seated,
            (of_batch (λ b. Certifies s.roads b seats prices pays) priced, tt),
          ),
        ),
      ),
    );
    fault = λ h. never (to_batch (λ b. outcomes ≡ outcomes_of b seats s) h);
  }

-- a commit of an open batch
commit-words : (s : State) (o : Option BatchCopy) (cost : ℕ) (seats : List Seat) (prices pays : List (ℕ × ℕ)) (outcomes : List (ℕ × Outcome))
    → IfSome o (λ (b : BatchCopy). IsDistinct nat_eq (ride_ids b.requests)) → IsSome o
    → IfSome o (λ b. IsSeating s.roads b seats × (cost ≡ seating_cost s.roads b seats))
    → IfSome o (λ b. Certifies s.roads b seats prices pays) → IfSome o (λ b. outcomes ≡ outcomes_of b seats s)
    → IsSomeAnd o (λ b. CommitsBatch s b cost seats prices pays outcomes)
commit-words s None cost seats prices pays outcomes distinct some seated priced decided = absurd (cc some)
commit-words s (Some b) cost seats prices pays outcomes distinct some seated priced decided = record {
  least = certified_is_least s.roads b seats prices pays distinct priced;
  cost_is = seated.1;
  certified = priced;
  outcomes_are = decided;
}

-- an event that meets each word is legal, where the requests of each open batch differ
pub words-legal : (feeds desks : ℕ) (s : State) (actor : Actor) (event : Event)
    → All (λ (b : BatchCopy). IsDistinct nat_eq (ride_ids b.requests)) s.batches
    → ((why : Why) → Meets why feeds desks s actor event) → IsLegalEvent feeds desks s actor event
words-legal feeds desks s (Feed feed) (Fed command reply) differ meets = ((meets ToActor).0, (meets ToActor).1, meets ToReply)
words-legal feeds desks s (Feed feed) (Finish ending) differ meets = meets ToActor
words-legal feeds desks s (Feed feed) (Opened b t r p) differ meets = meets ToActor
words-legal feeds desks s (Feed feed) (Committed n c ss ps qs os) differ meets = meets ToActor
words-legal feeds desks s (Feed feed) (Abandoned n) differ meets = meets ToActor
words-legal feeds desks s (Desk desk) (Fed command reply) differ meets = meets ToActor
words-legal feeds desks s (Desk desk) (Finish ending) differ meets = meets ToActor
words-legal feeds desks s (Desk desk) (Opened b t r p) differ meets = ((meets ToActor).0, (meets ToActor).1, meets ToBatch)
words-legal feeds desks s (Desk desk) (Committed n c ss ps qs os) differ meets =
    commit-words s (open_batch_numbered s desk n) c ss ps qs os
    (open-batch s desk n (λ (b : BatchCopy). IsDistinct nat_eq (ride_ids b.requests)) differ) (meets ToActor) (meets ToSeating) (meets ToPrices) (meets ToOutcomes)
words-legal feeds desks s (Desk desk) (Abandoned n) differ meets = meets ToActor

-- what a commit says of the open batch
of-commit : (o : Option BatchCopy) (P Q : BatchCopy → Type 0) → ((b : BatchCopy) → P b → Q b) → IsSomeAnd o P → IfSome o Q
of-commit None P Q each h = tt
of-commit (Some b) P Q each h = each b h

some-of : (o : Option BatchCopy) (P : BatchCopy → Type 0) → IsSomeAnd o P → IsSome o
some-of None P h = absurd h
some-of (Some b) P h = refl

commit-legal : (feeds desks : ℕ) (s : State) (desk n c : ℕ) (ss : List Seat) (ps qs : List (ℕ × ℕ)) (os : List (ℕ × Outcome))
    → IsSomeAnd (open_batch_numbered s desk n) (λ b. CommitsBatch s b c ss ps qs os)
    → (why : Why) → Meets why feeds desks s (Desk desk) (Committed n c ss ps qs os)
commit-legal feeds desks s desk n c ss ps qs os h Spelling = tt
commit-legal feeds desks s desk n c ss ps qs os h ToActor = some-of (open_batch_numbered s desk n) (λ b. CommitsBatch s b c ss ps qs os) h
commit-legal feeds desks s desk n c ss ps qs os h ToReply = tt
commit-legal feeds desks s desk n c ss ps qs os h ToBatch = tt
commit-legal feeds desks s desk n c ss ps qs os h ToSeating =
    of-commit (open_batch_numbered s desk n) (λ b. CommitsBatch s b c ss ps qs os)
    (λ b. IsSeating s.roads b ss × (c ≡ seating_cost s.roads b ss)) (λ b k. (k.certified.seating, k.cost_is)) h
commit-legal feeds desks s desk n c ss ps qs os h ToPrices =
    of-commit (open_batch_numbered s desk n) (λ b. CommitsBatch s b c ss ps qs os) (λ b. Certifies s.roads b ss ps qs) (λ b k. k.certified) h
commit-legal feeds desks s desk n c ss ps qs os h ToOutcomes =
    of-commit (open_batch_numbered s desk n) (λ b. CommitsBatch s b c ss ps qs os) (λ b. os ≡ outcomes_of b ss s) (λ b k. k.outcomes_are) h

-- each word of an event that only its actor's word can fail, and one more
by-words : (feeds desks : ℕ) (s : State) (actor : Actor) (event : Event) → Meets ToActor feeds desks s actor event
    → Meets ToReply feeds desks s actor event → Meets ToBatch feeds desks s actor event → Meets ToSeating feeds desks s actor event
    → Meets ToPrices feeds desks s actor event → Meets ToOutcomes feeds desks s actor event
    → (why : Why) → Meets why feeds desks s actor event
by-words feeds desks s actor event may answered named seated priced decided Spelling = tt
by-words feeds desks s actor event may answered named seated priced decided ToActor = may
by-words feeds desks s actor event may answered named seated priced decided ToReply = answered
by-words feeds desks s actor event may answered named seated priced decided ToBatch = named
by-words feeds desks s actor event may answered named seated priced decided ToSeating = seated
by-words feeds desks s actor event may answered named seated priced decided ToPrices = priced
by-words feeds desks s actor event may answered named seated priced decided ToOutcomes = decided

-- a legal event meets each word
pub legal-words : (feeds desks : ℕ) (s : State) (actor : Actor) (event : Event) → IsLegalEvent feeds desks s actor event
    → (why : Why) → Meets why feeds desks s actor event
legal-words feeds desks s (Feed feed) (Fed command reply) h = by-words feeds desks s (Feed feed) (Fed command reply) (h.0, h.1) h.2 tt tt tt tt
legal-words feeds desks s (Feed feed) (Finish ending) h = by-words feeds desks s (Feed feed) (Finish ending) h tt tt tt tt tt
legal-words feeds desks s (Feed feed) (Opened b t r p) h = absurd h
legal-words feeds desks s (Feed feed) (Committed n c ss ps qs os) h = absurd h
legal-words feeds desks s (Feed feed) (Abandoned n) h = absurd h
legal-words feeds desks s (Desk desk) (Fed command reply) h = absurd h
legal-words feeds desks s (Desk desk) (Finish ending) h = by-words feeds desks s (Desk desk) (Finish ending) h tt tt tt tt tt
legal-words feeds desks s (Desk desk) (Opened b t r p) h = by-words feeds desks s (Desk desk) (Opened b t r p) (h.0, h.1) tt h.2 tt tt tt
legal-words feeds desks s (Desk desk) (Committed n c ss ps qs os) h = commit-legal feeds desks s desk n c ss ps qs os h
legal-words feeds desks s (Desk desk) (Abandoned n) h = by-words feeds desks s (Desk desk) (Abandoned n) h tt tt tt tt tt

-- the requests of each open batch of a legal history differ
pub batches-differ : (feeds desks : ℕ) (start : State) (entries : List Entry) → IsStart start → IsLegal feeds desks start entries
    → All (λ (b : BatchCopy). IsDistinct nat_eq (ride_ids b.requests)) (replay start entries).batches
batches-differ feeds desks start entries begins legal =
    λ k d low. ((consistent feeds desks start entries begins legal).batches_fit k d low).requests_differ
