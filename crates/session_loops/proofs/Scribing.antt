-- What a scribe has written of what its pass has seen.
use Rattle.session_loops.proofs.Common.{◌≡◌, ℕ, Bool, ◌+◌, ◌-◌, ◌≤◌, true, false, List, [], Result, Ok, Err, ◌++◌, length, take, drop, Option, refl, sym, ap, subst, ◌∙◌, append_assoc, append-nil, length-append, length-drop, arith, All, IfOk, OnErr, OnOk, is_err, min, take-add, length-take, take-append-le, take_min, All-drop, All-take, Entry, HasLine, entry_lines, KeepsCount, Recorded, AddsNone, IsPoint, Known, root_of, adds_none-then, root-stays, first-stay, seen-grows, HasPut, IsFresh, OutputState, written-prefix, written-whole, HasScribed, HasScribedSome}
use Rattle.ride_ports.specs.declared.sources.Failed.{Failed}
use Rattle.session_loops.specs.declared.scribes.Scribed.{Scribed}
use Rattle.session_loops.proofs.LogLemmas.{entry_lines-append}

-- the entries that a look gives, and the place behind them
pub record Looks (old new : Known) (count : ℕ) (items : List Entry) (next : ℕ) : Type 0 where
  pub none : AddsNone old new
  pub items_are : items ≡ take 1024 (drop count new.seen)
  pub next_is : next ≡ count + length items

pub looks-of : (old new : Known) (count : ℕ) (items entries : List Entry) (next : ℕ) → AddsNone old new → items ≡ entries
    → entries ≡ take 1024 (drop count new.seen) → next ≡ count + length entries → Looks old new count items next
looks-of old new count items entries next none is are next_is = record {
  none = none;
  items_are = is ∙ are;
  next_is = next_is ∙ ap (λ (es : List Entry). count + length es) (sym is);
}

module _ (old new : Known) (count : ℕ) (items : List Entry) (next : ℕ) (looks : Looks old new count items next) (within : count ≤ length old.seen) where
  still-within : count ≤ length new.seen
  still-within = omega (arith, seen-grows old new looks.none, within)

  many : length items ≡ min 1024 (length new.seen - count)
  many = ap (λ (es : List Entry). length es) looks.items_are ∙ length-take 1024 (drop count new.seen) ∙ ap (min 1024) (length-drop count new.seen)

  pub next-within : next ≤ length new.seen
  next-within = omega (arith, looks.next_is, many, still-within)

  -- the first entries are those of before and these
  pub next-entries : take next new.seen ≡ take count old.seen ++ items
  next-entries =
      ap (λ n. take n new.seen) looks.next_is ∙ take-add count (length items) new.seen
      ∙ (λ i. first-stay old new count looks.none within i ++ all i)
    where
      all : take (length items) (drop count new.seen) ≡ items
      all =
          ap (λ n. take n (drop count new.seen)) (ap (λ (es : List Entry). length es) looks.items_are ∙ length-take 1024 (drop count new.seen))
          ∙ take_min 1024 (drop count new.seen) ∙ sym looks.items_are

  -- where a look gives none, all that is seen was written
  pub none-next : length items ≡ 0 → next ≡ length new.seen
  none-next none = omega (arith, looks.next_is, many, still-within, none)

-- the entries that a look gives have lines
pub next-lines : (log count : ℕ) (items : List Entry) (first k : Known) → AddsNone first k → log ≡ (root_of first).start.settings.log → IsPoint k
    → items ≡ take 1024 (drop count k.seen) → All (HasLine log) items
next-lines log count items first k none log_is point are =
    subst (λ (es : List Entry). All (HasLine log) es) (sym are)
    (All-take (HasLine log) 1024 (drop count k.seen) (All-drop (HasLine log) count k.seen
    (subst (λ n. All (HasLine n) k.seen) (ap (λ (r : Recorded). r.start.settings.log) (root-stays first k none) ∙ sym log_is) point.text.lines)))

-- a scribe that began at one point and stands at another, and whose sink has not failed
pub record IsScribing (log : ℕ) (first k : Known) (before now : Option (List ℕ)) (faults m : ℕ) (output : OutputState) (count : ℕ) : Type 0 where
  pub none : AddsNone first k
  pub within : count ≤ length k.seen
  pub stands : output.failed ≡ false
  pub logged : HasPut before now faults m output (entry_lines log (take count k.seen))

-- after a look whose entries were put
pub scribing-told : (log : ℕ) (first old new : Known) (before now later : Option (List ℕ)) (faults m n : ℕ) (output after : OutputState)
    (count next : ℕ) (items : List Entry) → IsScribing log first old before now faults m output count → Looks old new count items next
    → ((earlier : Option (List ℕ)) (at : ℕ) (text : List ℕ) → HasPut earlier now at m output text
    → HasPut earlier later at n after (text ++ entry_lines log items))
    → HasPut before later faults n after (entry_lines log (take next new.seen))
scribing-told log first old new before now later faults m n output after count next items s looks told =
    subst (λ (t : List ℕ). HasPut before later faults n after t)
    (sym (ap (entry_lines log) (next-entries old new count items next looks s.within) ∙ entry_lines-append log (take count old.seen) items))
    (told before faults (entry_lines log (take count old.seen)) s.logged)

pub scribing-on : (log : ℕ) (first old new : Known) (before now later : Option (List ℕ)) (faults m n : ℕ) (output after : OutputState)
    (count next : ℕ) (items : List Entry) → IsScribing log first old before now faults m output count → Looks old new count items next
    → ((earlier : Option (List ℕ)) (at : ℕ) (text : List ℕ) → HasPut earlier now at m output text
    → HasPut earlier later at n after (text ++ entry_lines log items))
    → after.failed ≡ false → IsScribing log first new before later faults n after next
scribing-on log first old new before now later faults m n output after count next items s looks told stands = record {
  none = adds_none-then first old new s.none looks.none;
  within = next-within old new count items next looks s.within;
  stands = stands;
  logged = scribing-told log first old new before now later faults m n output after count next items s looks told;
}

-- after a look for which memory was wanting
pub scribing-still : (log : ℕ) (first old new : Known) (before now : Option (List ℕ)) (faults m : ℕ) (output : OutputState) (count : ℕ)
    → IsScribing log first old before now faults m output count → AddsNone old new → IsScribing log first new before now faults m output count
scribing-still log first old new before now faults m output count s none = record {
  none = adds_none-then first old new s.none none;
  within = omega (arith, seen-grows old new none, s.within);
  stands = s.stands;
  logged = subst (λ (es : List Entry). HasPut before now faults m output (entry_lines log es)) (sym (first-stay old new count none s.within)) s.logged;
}

-- what was put with nothing left on the page was written, and a prefix where the sink failed
pub has-scribed : (log : ℕ) (before now : Option (List ℕ)) (faults m : ℕ) (output : OutputState) (count : ℕ) (seen : List Entry) → count ≤ length seen
    → output.failed ≡ false → output.page ≡ [] → HasPut before now faults m output (entry_lines log (take count seen))
    → HasScribed log before now count seen
has-scribed log before now faults m output count seen within stands empty has = record {
  some = within;
  written = written-whole before now faults m output (entry_lines log (take count seen)) has stands (λ _. empty);
}

pub has-scribed-some : (log : ℕ) (before now : Option (List ℕ)) (faults m : ℕ) (output : OutputState) (count : ℕ) (seen : List Entry)
    → output.failed ≡ true → HasPut before now faults m output (entry_lines log (take count seen)) → HasScribedSome log before now seen
has-scribed-some log before now faults m output count seen failed has = record {
  count = count;
  prefix = written-prefix before now faults m output (entry_lines log (take count seen)) has failed;
}

-- what a scribe answers for which memory was wanting
pub record CutShort (log : ℕ) (before now : Option (List ℕ)) (faults m : ℕ) (scribed : Result Scribed Failed) (seen : List Entry) : Type 0 where
  pub written : IfOk scribed (λ (s : Scribed). HasScribed log before now s.entries seen)
  pub not_whole : IfOk scribed (λ (s : Scribed). s.whole ≡ false)
  pub prefix : OnErr scribed (HasScribedSome log before now seen)
  pub faults_kept : KeepsCount (is_err scribed) faults m

pub cut-short : (log : ℕ) (before now : Option (List ℕ)) (faults m : ℕ) (output : OutputState) (count : ℕ) (seen : List Entry) (scribed : Result Scribed Failed)
    → count ≤ length seen → HasPut before now faults m output (entry_lines log (take count seen))
    → OnOk scribed (IsFresh output) → OnErr scribed (output.failed ≡ true)
    → IfOk scribed (λ (s : Scribed). s ≡ record { entries = count; whole = false }) → CutShort log before now faults m scribed seen
cut-short log before now faults m output count seen (Ok s) within has fresh failed is = record {
  written = subst (λ n. HasScribed log before now n seen) (sym (ap (λ (t : Scribed). t.entries) is))
      (has-scribed log before now faults m output count seen within fresh.stands fresh.bare has);
  not_whole = ap (λ (t : Scribed). t.whole) is;
  prefix = tt;
  faults_kept = subst (λ (failed : Bool). KeepsCount failed faults m) fresh.stands has.faults;
}
cut-short log before now faults m output count seen (Err f) within has fresh failed is = record {
  written = tt;
  not_whole = tt;
  prefix = has-scribed-some log before now faults m output count seen failed has;
  faults_kept = subst (λ (failed : Bool). KeepsCount failed faults m) failed has.faults;
}

pub never_whole : (scribed : Result Scribed Failed) (P : Scribed → Type 0) → IfOk scribed (λ (s : Scribed). s.whole ≡ false)
    → IfOk scribed (λ (s : Scribed). s.whole ≡ true → P s)
never_whole (Ok s) P is = λ whole. absurd (cc (is, whole))
never_whole (Err f) P is = tt
