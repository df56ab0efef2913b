-- Reads and writes of several pieces in turn.
use Rattle.ride_ports.proofs.Common.{◌≡◌, ℕ, ◌+◌, ◌-◌, List, [], ◌++◌, length, take, drop, Option, None, Some, IfSome, refl, ap, sym, subst, ◌∙◌, append_assoc, append-nil, take_rest, take-append-drop, Reads, Writes, WritesPrefix}
use Rattle.std.proofs.Math.Seq.{take-add}
use Rattle.std.specs.Io.KnownBytes.{prepend_known, append_known}

-- known bytes with two pieces at their end have both pieces there as one
pub append_known-append : (known : Option (List ℕ)) (xs ys : List ℕ) →
    append_known (append_known known xs) ys ≡ append_known known (xs ++ ys)
append_known-append None xs ys = refl
append_known-append (Some zs) xs ys = ap (λ bytes. Some bytes) (append_assoc zs xs ys)

-- the same at the front
pub prepend_known-append : (known : Option (List ℕ)) (xs ys : List ℕ) →
    prepend_known xs (prepend_known ys known) ≡ prepend_known (xs ++ ys) known
prepend_known-append None xs ys = refl
prepend_known-append (Some zs) xs ys = ap (λ bytes. Some bytes) (sym (append_assoc xs ys zs))

pub append_known-nil : (known : Option (List ℕ)) → append_known known [] ≡ known
append_known-nil None = refl
append_known-nil (Some xs) = ap (λ bytes. Some bytes) (append-nil xs)

pub prepend_known-nil : (known : Option (List ℕ)) → prepend_known [] known ≡ known
prepend_known-nil None = refl
prepend_known-nil (Some xs) = refl

-- no byte read
pub Reads-none : (known : Option (List ℕ)) → Reads known known []
Reads-none known = record { split = sym (prepend_known-nil known) }

-- two reads in turn
pub Reads-then : {a b c : Option (List ℕ)} {xs ys : List ℕ} → Reads a b xs → Reads b c ys → Reads a c (xs ++ ys)
Reads-then {a} {b} {c} {xs} {ys} first second = record {
  split = first.split ∙ ap (prepend_known xs) second.split ∙ prepend_known-append c xs ys;
}

-- no byte written
pub Writes-none : (known : Option (List ℕ)) → Writes known known []
Writes-none known = record { joined = sym (append_known-nil known) }

-- two writes in turn
pub Writes-then : {a b c : Option (List ℕ)} {xs ys : List ℕ} → Writes a b xs → Writes b c ys → Writes a c (xs ++ ys)
Writes-then {a} {b} {c} {xs} {ys} first second = record {
  joined = second.joined ∙ ap (λ known. append_known known ys) first.joined ∙ append_known-append a xs ys;
}

-- what was written whole is a prefix of itself
pub WritesPrefix-whole : {a b : Option (List ℕ)} {xs : List ℕ} → Writes a b xs → WritesPrefix a b xs
WritesPrefix-whole {a} {b} {xs} all = record { done = xs; rest = []; whole = sym (append-nil xs); written = all }

-- a prefix of the first piece is one of both
pub WritesPrefix-of_first : {a b : Option (List ℕ)} {xs : List ℕ} (ys : List ℕ) → WritesPrefix a b xs → WritesPrefix a b (xs ++ ys)
WritesPrefix-of_first {a} {b} {xs} ys part = record {
  done = part.done;
  rest = part.rest ++ ys;
  whole = ap (λ bytes. bytes ++ ys) part.whole ∙ append_assoc part.done part.rest ys;
  written = part.written;
}

-- the whole first piece and a prefix of the second are a prefix of both
pub WritesPrefix-of_second : {a b c : Option (List ℕ)} {xs ys : List ℕ} → Writes a b xs → WritesPrefix b c ys → WritesPrefix a c (xs ++ ys)
WritesPrefix-of_second {a} {b} {c} {xs} {ys} first part = record {
  done = xs ++ part.done;
  rest = part.rest;
  whole = ap (λ bytes. xs ++ bytes) part.whole ∙ sym (append_assoc xs part.done part.rest);
  written = Writes-then first part.written;
}

-- the first n bytes of what is left of a piece, written after the bytes before them
pub Writes-next : {a b c : Option (List ℕ)} (piece : List ℕ) (done n : ℕ) →
    Writes a b (take done piece) → Writes b c (take n (take (length piece - done) (drop done piece))) → Writes a c (take (done + n) piece)
Writes-next {a} {b} {c} piece done n first second =
    rw (take-add done n piece) (Writes-then first (rw take_rest at second))

-- nothing more of the piece was written
pub WritesPrefix-stopped : {a b c : Option (List ℕ)} (piece : List ℕ) (done : ℕ) →
    Writes a b (take done piece) → c ≡ b → WritesPrefix a c piece
WritesPrefix-stopped {a} {b} {c} piece done first same = record {
  done = take done piece;
  rest = drop done piece;
  whole = sym (take-append-drop done piece);
  written = rw same first;
}

-- what is left where the bytes are told
pub Reads-told : {before after : Option (List ℕ)} {bytes : List ℕ} (all : List ℕ) →
    Reads before after bytes → before ≡ Some all → (rest : List ℕ) × (after ≡ Some rest) × (all ≡ bytes ++ rest)
Reads-told {before} {after} {bytes} all read told =
    elim after as (λ o. before ≡ prepend_known bytes o → (rest : List ℕ) × (o ≡ Some rest) × (all ≡ bytes ++ rest)) [
      | None ↦ λ split. (cc)
      | Some rest ↦ λ split. (rest, refl, (cc))
    ] read.split

-- what was read up to the end is all that was left
pub Reads-to_end : {before after : Option (List ℕ)} {bytes : List ℕ} →
    Reads before after bytes → IfSome after (λ rest. rest ≡ []) → IfSome before (λ all. bytes ≡ all)
Reads-to_end {before} {after} {bytes} read =
    elim after as (λ o. before ≡ prepend_known bytes o → IfSome o (λ rest. rest ≡ []) → IfSome before (λ all. bytes ≡ all)) [
      | None ↦ λ split end. subst (λ (o : Option (List ℕ)). IfSome o (λ all. bytes ≡ all)) (sym split) tt
      | Some rest ↦ λ split end. subst (λ (o : Option (List ℕ)). IfSome o (λ all. bytes ≡ all)) (sym split)
          (sym (ap (λ rest. bytes ++ rest) end ∙ append-nil bytes))
    ] read.split

-- what is written where the bytes are told
pub Writes-told : {before after : Option (List ℕ)} {bytes : List ℕ} (old : List ℕ) →
    Writes before after bytes → before ≡ Some old → after ≡ Some (old ++ bytes)
Writes-told {before} {after} {bytes} old write told =
    write.joined ∙ ap (λ known. append_known known bytes) told
