-- Sources that are brought, read and given back.
use Rattle.dispatcher.proofs.Common.{◌≡◌, ℕ, ◌+◌, ◌<◌, List, [], ◌∷◌, ◌++◌, Option, Some, None, Result, Ok, Err, inl, inr, refl, ap, subst, ◌⊎◌, ◌∙◌, append_assoc, arith, IfSome, all_of_none, all_of_one, all_of_two, Format, Reads, Contents, GivenBack, bytes_at, IsContentOf, Rose, FailsIn, AsksOnce, IsReadBy, ReadsAs, IsSpent, Shelved, told_bytes, Stop, ShelfFault, Adds, Brings, Hands, Misses, MissesAfter, TakesBack, Sunk, Reads-none, given_back}
use Rattle.ride_ports.proofs.CountLemmas.{Rose-then_kept, Rose-after_kept}

-- names that were asked for after others
pub Adds-then : {m n : List (List ℕ)} {j k : ℕ} {xs ys : List GivenBack} {a b c : Shelved} → Adds m j xs a b → Adds n k ys b c
    → Adds (m ++ n) (j + k) (xs ++ ys) a c
Adds-then {m} {n} {j} {k} {xs} {ys} {a} {b} {c} first next = record {
  told = next.told ∙ first.told;
  asked = next.asked ∙ ap (λ l. l ++ n) first.asked ∙ append_assoc a.asked m n;
  counted = omega (arith, next.counted, first.counted);
  kept = next.kept ∙ ap (λ l. l ++ ys) first.kept ∙ append_assoc a.back xs ys;
}

-- the bytes of a source that was brought are those of its name, where the shelf tells them
abbrev pub AreBytesOf : Option (List ℕ) → Option (List ℕ) → Type 0
AreBytesOf file bytes = IfSome file (λ told. bytes ≡ Some told)

pub bytes-of : (told : Option Contents) (name : List ℕ) (bytes : Option (List ℕ)) → IsContentOf told name bytes → AreBytesOf (told_bytes told name) bytes
bytes-of None name bytes content = tt
bytes-of (Some contents) name bytes (some, is) = by bytes (bytes_at contents name) is
  where
    by : (b o : Option (List ℕ)) → b ≡ o → IfSome o (λ told. b ≡ Some told)
    by b None same = tt
    by b (Some told) same = same

-- some bytes of a file were taken, and the others were left in the source that was given back
abbrev pub IsLeftOf : Option (List ℕ) → GivenBack → List ℕ → Type 0
IsLeftOf file source taken = IfSome file (λ bytes. Reads (Some bytes) source.left taken)

-- what holds of the bytes of a source holds of its file, where it says nothing of bytes that are not told
pub of-file : (P : Option (List ℕ) → Type 0) (file bytes : Option (List ℕ)) → AreBytesOf file bytes → (P bytes → P None) → P bytes → P file
of-file P None bytes are none is = none is
of-file P (Some told) bytes are none is = subst P are is

pub left-of : (file bytes : Option (List ℕ)) (source : GivenBack) (taken : List ℕ) → AreBytesOf file bytes → Reads bytes source.left taken
    → IsLeftOf file source taken
left-of None bytes source taken are reads = tt
left-of (Some told) bytes source taken are reads = subst (λ (o : Option (List ℕ)). Reads o source.left taken) are reads

-- a count that rose from nothing is above it
pub rose-above : (before after : ℕ) → before ≡ 0 → Rose before after → 0 < after
rose-above before after none rose = omega (arith, none, rose (λ most. omega (arith, none, most)))

-- a name that was not brought, alone and after another
pub misses-first : {name : List ℕ} {old new : Shelved} {out : Sunk} {status : ℕ} → Misses name old new → status ≡ 5 → out.after ≡ out.before
    → MissesAfter [] name old new out status
misses-first misses is untouched = record {
  status_is = is;
  sources = [];
  all_back = refl;
  adds = misses.adds;
  left = tt;
  rose = misses.rose;
  untouched = untouched;
}

pub misses-second : {first second : List ℕ} {bytes : Option (List ℕ)} {j k : ℕ} {a b c d : Shelved} {out : Sunk} {status : ℕ}
    → Brings first bytes j a b → Misses second b c → TakesBack (given_back k bytes) c d → status ≡ 5 → out.after ≡ out.before
    → MissesAfter (first ∷ []) second a d out status
misses-second {first} {bytes} {k} {a} {d} brings misses takes is untouched = record {
  status_is = is;
  sources = given_back k bytes ∷ [];
  all_back = refl;
  adds = Adds-then (Adds-then brings.adds misses.adds) takes.adds;
  left = (([], left-of (told_bytes a.told first) bytes (given_back k bytes) [] (bytes-of a.told first bytes brings.content) (Reads-none bytes)), tt);
  rose = subst (λ (n : ℕ). Rose n d.faults) brings.sound (Rose-then_kept _ _ _ misses.rose takes.never_falls);
  untouched = untouched;
}

-- a text whose name was not brought, and one that was read from its source
module _ {S V E : Type 0} (format : Format S V E) (refused : E → Stop) (name : List ℕ) where
  pub asks-none : (old new : Shelved) → Misses name old new → AsksOnce format refused name old new (Err ShelfFault)
  asks-none old new misses = record {
    sources = [];
    adds = misses.adds;
    left = tt;
    answer = inr (inl (refl, all_of_none (FailsIn format (told_bytes old.told name))));
    whole = λ value is. absurd (cc is);
    rose = λ is. misses.rose;
  }

  untold : (outcome : Result V Stop) (bytes : Option (List ℕ)) → ReadsAs format refused bytes [] outcome → ReadsAs format refused None [] outcome
  untold (Ok value) bytes reads = tt
  untold (Err stop) bytes (inl memory) = inl memory
  untold (Err stop) bytes (inr (inl fault)) = inr (inl (fault.0, all_of_none (FailsIn format None)))
  untold (Err stop) bytes (inr (inr error)) = inr (inr (error.0, error.1, error.2, tt))

  failed-so : (file : Option (List ℕ)) (source : GivenBack) (outcome : Result V Stop) → ReadsAs format refused file [] outcome
      → (outcome ≡ Err ShelfFault → FailsIn format file source) → ReadsAs format refused file (source ∷ []) outcome
  failed-so file source (Ok value) reads fails = reads
  failed-so file source (Err stop) (inl memory) fails = inl memory
  failed-so file source (Err stop) (inr (inl fault)) fails =
      inr (inl (fault.0, all_of_one (FailsIn format file) source (fails (ap (λ (s : Stop). Err s) fault.0))))
  failed-so file source (Err stop) (inr (inr error)) fails = inr (inr error)

  pub asks-one : (old mid new : Shelved) (bytes : Option (List ℕ)) (faults : ℕ) (source : GivenBack) (outcome : Result V Stop)
      → Brings name bytes faults old mid → ReadsAs format refused bytes [] outcome → IsReadBy format bytes source outcome
      → (outcome ≡ Err ShelfFault → 0 < source.faults) → TakesBack source mid new → AsksOnce format refused name old new outcome
  asks-one old mid new bytes faults source outcome brings answer read failed takes =
      let file = told_bytes old.told name in
      let are = bytes-of old.told name bytes brings.content in
      record {
        sources = source ∷ [];
        adds = Adds-then brings.adds takes.adds;
        left = ((read.taken, of-file (λ o. IsLeftOf o source read.taken) file bytes are (λ left. tt) read.left), tt);
        answer = failed-so file source outcome (of-file (λ o. ReadsAs format refused o [] outcome) file bytes are (untold outcome bytes) answer) (λ is.
            of-file (λ o. FailsIn format o source) file bytes are
            (λ fails. record { taken = fails.taken; left = tt; within = fails.within; sound = fails.sound }) (read.fault is));
        whole = λ value is.
            let spent = read.whole value is in
            (refl, all_of_one IsSpent source spent, takes.sound spent.no_fault ∙ brings.sound);
        rose = λ is. subst (λ (k : ℕ). Rose k new.faults) brings.sound (takes.rises (failed is));
      }

-- what is known of a source that was brought, worked over and given back
pub record Worked (bytes : Option (List ℕ)) (faults : ℕ) (source : GivenBack) (status : ℕ) : Type 0 where
  pub taken : List ℕ
  pub reads : Reads bytes source.left taken
  pub to_end : status ≡ 0 → IfSome source.left (λ rest. rest ≡ [])
  pub sound : status ≡ 0 → source.faults ≡ faults

spent-of : {bytes : Option (List ℕ)} {faults : ℕ} {source : GivenBack} {status : ℕ} → Worked bytes faults source status → faults ≡ 0 → status ≡ 0
    → IsSpent source
spent-of {bytes} {faults} {source} {status} worked fresh zero = record { no_fault = worked.sound zero ∙ fresh; to_end = worked.to_end zero }

pub hands-one : {name : List ℕ} {old mid new : Shelved} {bytes : Option (List ℕ)} {faults : ℕ} {source : GivenBack} {out : Sunk} {status : ℕ}
    → Brings name bytes faults old mid → Worked bytes faults source status → TakesBack source mid new
    → (status ≡ 5 → Rose faults source.faults) → (status ≡ 0 → out.faults_after ≡ out.faults_before)
    → (status ≡ 6 → Rose out.faults_before out.faults_after) → Hands (name ∷ []) (source ∷ []) old new out status
hands-one {name} {old} {new} {bytes} {source} brings worked takes rose sink_sound sink_fault = record {
  adds = Adds-then brings.adds takes.adds;
  left = ((worked.taken, left-of (told_bytes old.told name) bytes source worked.taken (bytes-of old.told name bytes brings.content) worked.reads), tt);
  spent = λ zero. all_of_one IsSpent source (spent-of worked brings.fresh zero);
  shelf_sound = λ zero. takes.sound (spent-of worked brings.fresh zero).no_fault ∙ brings.sound;
  sink_sound = sink_sound;
  shelf_fault = λ five. subst (λ (k : ℕ). Rose k new.faults) brings.sound (takes.rises (rose-above _ _ brings.fresh (rose five)));
  sink_fault = sink_fault;
}

-- the second of two sources
pub bytes-told : {first second : List ℕ} {first_bytes second_bytes : Option (List ℕ)} {j k : ℕ} {a b c : Shelved} → Brings first first_bytes j a b
    → Brings second second_bytes k b c → AreBytesOf (told_bytes a.told second) second_bytes
bytes-told {first} {second} {first_bytes} {second_bytes} {j} {k} {a} {b} {c} brings next =
    bytes-of a.told second second_bytes (subst (λ (t : Option Contents). IsContentOf t second second_bytes) brings.adds.told next.content)

pub hands-two : {first second : List ℕ} {a b c d e : Shelved} {first_bytes second_bytes : Option (List ℕ)} {j k : ℕ}
    {first_source second_source : GivenBack} {out : Sunk} {status : ℕ} → Brings first first_bytes j a b → Brings second second_bytes k b c
    → Worked first_bytes j first_source status → Worked second_bytes k second_source status
    → TakesBack first_source c d → TakesBack second_source d e → (status ≡ 5 → Rose j first_source.faults ⊎ Rose k second_source.faults)
    → (status ≡ 0 → out.faults_after ≡ out.faults_before) → (status ≡ 6 → Rose out.faults_before out.faults_after)
    → Hands (first ∷ second ∷ []) (first_source ∷ second_source ∷ []) a e out status
hands-two {first} {second} {a} {e} {first_bytes} {second_bytes} {first_source} {second_source}
    brings brings_next worked worked_next takes takes_next rose sink_sound sink_fault = record {
      adds = Adds-then (Adds-then (Adds-then brings.adds brings_next.adds) takes.adds) takes_next.adds;
      left = (
        (worked.taken, left-of (told_bytes a.told first) first_bytes first_source worked.taken (bytes-of a.told first first_bytes brings.content) worked.reads),
        ((worked_next.taken, left-of (told_bytes a.told second) second_bytes second_source worked_next.taken (bytes-told brings brings_next) worked_next.reads), tt),
      );
      spent = λ zero. all_of_two IsSpent first_source second_source (spent-of worked brings.fresh zero) (spent-of worked_next brings_next.fresh zero);
      shelf_sound = λ zero. takes_next.sound (spent-of worked_next brings_next.fresh zero).no_fault
          ∙ takes.sound (spent-of worked brings.fresh zero).no_fault ∙ brings_next.sound ∙ brings.sound;
      sink_sound = sink_sound;
      shelf_fault = λ five. subst (λ (k : ℕ). Rose k e.faults) (brings_next.sound ∙ brings.sound) (elim (rose five) [
        | inl r ↦ Rose-then_kept _ _ _ (takes.rises (rose-above _ _ brings.fresh r)) takes_next.never_falls
        | inr r ↦ Rose-after_kept _ _ _ takes.never_falls (takes_next.rises (rose-above _ _ brings_next.fresh r)) takes_next.never_falls
      ]);
      sink_fault = sink_fault;
    }
