-- Batches that a desk has opened and closed.
use Rattle.session_loops.proofs.Common.{◌≡◌, Bool, true, false, not, List, [], ◌∷◌, ◌++◌, refl, sym, subst, ◌∙◌, append_assoc, true≢false, ◌||◌, Option, Some, None, or_parts, or_from, list_any-append, Ending, Whole, Entry, is_abandoned, BatchCopy, Ran, gives_up, opened_entry, end_entry, OpensBatch, Known, AddsEntry, AddsNone, actor_of, AreBatches, AreClosing, Closes, RunsDesk, ClosesBatch, ClosesFirst, HasMade, HasRunBatches}
use Rattle.session_loops.proofs.MadeEntries.{made-none, made-first, made-then, made-same, made-end}

-- one batch more
batches-then : (entries : List Entry) (opened closed : Entry) → AreBatches entries → Closes opened.event closed.event
    → AreBatches (entries ++ opened ∷ closed ∷ [])
batches-then [] opened closed all closes = (closes, tt)
batches-then (first ∷ []) opened closed all closes = absurd all
batches-then (first ∷ second ∷ more) opened closed all closes = (all.0, batches-then more opened closed all.1 closes)

-- which was not given up
none-then : (entries : List Entry) (opened closed : Entry) → gives_up entries ≡ false → is_abandoned opened.event ≡ false
    → is_abandoned closed.event ≡ false → gives_up (entries ++ opened ∷ closed ∷ []) ≡ false
none-then entries opened closed none first second =
    list_any-append (λ (e : Entry). is_abandoned e.event) entries (opened ∷ closed ∷ [])
    ∙ all (gives_up entries) (is_abandoned opened.event) (is_abandoned closed.event) none first second
  where
    all : (x y z : Bool) → x ≡ false → y ≡ false → z ≡ false → (x || (y || (z || false))) ≡ false
    all true y z e f g = absurd (true≢false e)
    all false true z e f g = absurd (true≢false f)
    all false false true e f g = absurd (true≢false g)
    all false false false e f g = refl

-- none at first
pub batches-none : (k : Known) → HasRunBatches false k k
batches-none k = record { batches = []; made = made-none k; closed = tt; none_given_up = λ _. refl }

-- no batch more
pub batches-same : (no_memory : Bool) (a b c : Known) → HasRunBatches no_memory a b → AddsNone b c → HasRunBatches no_memory a c
batches-same no_memory a b c has adds = record {
  batches = has.batches;
  made = made-same a b c has.batches has.made adds;
  closed = has.closed;
  none_given_up = has.none_given_up;
}

-- where memory was wanting any may have been given up
pub batches-wanting : (no_memory : Bool) (a b : Known) → HasRunBatches no_memory a b → HasRunBatches true a b
batches-wanting no_memory a b has = record {
  batches = has.batches;
  made = has.made;
  closed = has.closed;
  none_given_up = λ is. absurd (true≢false is);
}

-- one batch more, which was committed or for which memory was wanting
pub batch-then : (no_memory committed : Bool) (a b c d : Known) (batch : BatchCopy) → HasRunBatches no_memory a b → OpensBatch b c batch
    → ClosesBatch committed batch c d → HasRunBatches (no_memory || not committed) a d
batch-then no_memory committed a b c d batch has opens closes = record {
  batches = has.batches ++ opened ∷ closes.entry ∷ [];
  made = subst (HasMade a d) (append_assoc has.batches (opened ∷ []) (closes.entry ∷ []))
      (made-then a c d (has.batches ++ opened ∷ []) closes.entry (made-then a b c has.batches opened has.made opens.entry) closes.adds);
  closed = batches-then has.batches opened closes.entry has.closed closes.closes;
  none_given_up = by_memory no_memory committed has.none_given_up closes.kept;
}
  where
    opened : Entry
    opened = opened_entry batch

    by_memory : (m k : Bool) → (m ≡ false → gives_up has.batches ≡ false) → (k ≡ true → is_abandoned closes.entry.event ≡ false)
        → (m || not k) ≡ false → gives_up (has.batches ++ opened_entry batch ∷ closes.entry ∷ []) ≡ false
    by_memory true k none kept is = absurd (true≢false is)
    by_memory false true none kept is = none-then has.batches (opened_entry batch) closes.entry (none refl) refl (kept refl)
    by_memory false false none kept is = absurd (true≢false is)

-- what a desk's batches come to, with the one that was open at first
record HasRunAll (open_batch : Option BatchCopy) (no_memory : Bool) (old new : Known) : Type 0 where
  all : List Entry
  made : HasMade old new all
  closed : AreClosing open_batch all
  none_given_up : no_memory ≡ false → gives_up all ≡ false

runs-all : (open_batch : Option BatchCopy) (committed no_memory : Bool) (a b c : Known) → ClosesFirst committed open_batch a b
    → HasRunBatches no_memory b c → HasRunAll open_batch (no_memory || not committed) a c
runs-all None committed no_memory a b c (kept, same) has = subst (λ k. HasRunAll None (no_memory || not committed) k c) same (record {
  all = has.batches;
  made = has.made;
  closed = has.closed;
  none_given_up = λ is. has.none_given_up (or_parts no_memory (not committed) is).0;
})
runs-all (Some batch) committed no_memory a b c closes has = record {
  all = closes.entry ∷ has.batches;
  made = made-first a b c closes.entry has.batches closes.adds has.made;
  closed = (closes.closes, has.closed);
  none_given_up = λ is.
      let (memory, kept) = or_parts no_memory (not committed) is in
      or_from (is_abandoned closes.entry.event) (gives_up has.batches) (closes.kept (was_kept committed kept)) (has.none_given_up memory);
}
  where
    was_kept : (b : Bool) → not b ≡ false → b ≡ true
    was_kept true is = refl
    was_kept false is = absurd (true≢false is)

-- and then the desk's end
pub runs-desk : (open_batch : Option BatchCopy) (committed no_memory : Bool) (ending : Ending) (ran : Ran) (a b c d : Known)
    → ClosesFirst committed open_batch a b → HasRunBatches no_memory b c → (no_memory ≡ false → ending ≡ Whole)
    → ran.no_memory ≡ (no_memory || not committed) → AddsEntry c d (end_entry (actor_of c.number) ending) → RunsDesk open_batch ran a d
runs-desk open_batch committed no_memory ending ran a b c d first has whole memory ends =
    let run = runs-all open_batch committed no_memory a b c first has in
    record {
      batches = run.all;
      ending = ending;
      ends = made-end a c d run.all ending run.made ends;
      closed = run.closed;
      whole = λ is. (whole (or_parts no_memory (not committed) (sym memory ∙ is)).0, run.none_given_up (sym memory ∙ is));
    }
