-- The batch that a desk has open, by its number.
use Rattle.live_sessions.proofs.Common.{◌≡◌, ℕ, Bool, true, false, ◌&&◌, cond, eqb, List, [], ◌∷◌, Some, refl, ap, ◌∙◌, eq-eqb, find, ◌==◌, eqb-true, BatchCopy, State, is_batch, open_batch_numbered, open_batch_of, found_among}

-- the first batch of a desk is the first of that desk and its own number
found-numbered : (desk : ℕ) (batches : List BatchCopy) (batch : BatchCopy) → find (λ (b : BatchCopy). b.desk == desk) batches ≡ Some batch
    → find (is_batch desk batch.number) batches ≡ Some batch
found-numbered desk [] batch is = absurd (cc is)
found-numbered desk (b ∷ batches) batch is = by_test (found-numbered desk batches batch) (eqb b.desk desk) refl is
  where
    by_test : (find (λ (x : BatchCopy). x.desk == desk) batches ≡ Some batch → find (is_batch desk batch.number) batches ≡ Some batch)
        → (own : Bool) → eqb b.desk desk ≡ own → cond own (Some b) (find (λ (x : BatchCopy). x.desk == desk) batches) ≡ Some batch
        → cond (eqb b.desk desk && eqb b.number batch.number) (Some b) (find (is_batch desk batch.number) batches) ≡ Some batch
    by_test later true own found =
        let same : b ≡ batch = cc found in
        ap (λ t. cond (t && eqb b.number batch.number) (Some b) (find (is_batch desk batch.number) batches)) own
        ∙ ap (λ t. cond t (Some b) (find (is_batch desk batch.number) batches)) (eq-eqb b.number batch.number (ap (λ (x : BatchCopy). x.number) same))
        ∙ found
    by_test later false other found =
        ap (λ t. cond (t && eqb b.number batch.number) (Some b) (find (is_batch desk batch.number) batches)) other ∙ later found

-- a desk's open batch is that of its number, and the desk's
pub record OfDesk (s : State) (desk : ℕ) (batch : BatchCopy) : Type 0 where
  pub desk_is : batch.desk ≡ desk
  pub numbered : open_batch_numbered s desk batch.number ≡ Some batch

pub of-desk : (s : State) (desk : ℕ) (batch : BatchCopy) → open_batch_of s desk ≡ Some batch → OfDesk s desk batch
of-desk s desk batch is = record {
  desk_is = eqb-true batch.desk desk (found_among (λ (b : BatchCopy). b.desk == desk) s.batches batch is).1;
  numbered = found-numbered desk s.batches batch is;
}
