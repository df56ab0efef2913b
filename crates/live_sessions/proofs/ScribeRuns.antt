-- What a scribe leaves, by what its loop says.
use Rattle.live_sessions.proofs.Common.{◌≡◌, ℕ, ◌≤◌, Bool, true, false, List, length, take, Option, Result, Ok, Err, refl, sym, subst, arith, IfOk, OnErr, is_err, min, take_min, Entry, entry_lines, KeepsCount, Failed, put-failed, put-line, put-line_failed, Scribed, HasToldSome, bare, HasScribed, HasScribedSome}
use Rattle.ride_ports.specs.Bytes.{WritesPrefix}

-- so many entries were logged, and whether the sink took the head
pub record Told (log : ℕ) (head_failed : Bool) (before after : Option (List ℕ)) (faults m : ℕ) (scribed : Result Scribed Failed) (seen : List Entry)
    : Type 0 where
  pub count : ℕ
  pub within : count ≤ length seen
  pub answered : IfOk scribed (λ (s : Scribed). (s.entries ≡ count) × (head_failed ≡ false))
  pub some : HasToldSome log head_failed before after faults m scribed count seen

-- where the head failed nothing is written
pub untold : (log : ℕ) (now : Option (List ℕ)) (m : ℕ) (seen : List Entry) → Told log true now now m m (Err record {}) seen
untold log now m seen = record {
  count = 0;
  within = omega arith;
  answered = tt;
  some = record {
    told = λ earlier faults text has. put-failed earlier now faults m (bare true) text (entry_lines log (take 0 seen)) refl has;
  };
}

-- what a loop wrote after the head
pub told : (log : ℕ) (before after : Option (List ℕ)) (faults m : ℕ) (scribed : Result Scribed Failed) (seen : List Entry)
    → IfOk scribed (λ (s : Scribed). HasScribed log before after s.entries seen) → OnErr scribed (HasScribedSome log before after seen)
    → KeepsCount (is_err scribed) faults m → Told log false before after faults m scribed seen
told log before after faults m (Ok s) seen has part kept = record {
  count = s.entries;
  within = has.some;
  answered = (refl, refl);
  some = record {
    told = λ earlier first text logged.
        put-line earlier before after first faults m (bare false) (bare false) text (entry_lines log (take s.entries seen)) refl refl refl refl
        has.written kept logged;
  };
}
told log before after faults m (Err f) seen has part kept = record {
  count = min part.count (length seen);
  within = omega arith;
  answered = tt;
  some = record {
    told = λ earlier first text logged.
        put-line_failed earlier before after first faults m (bare false) (bare true) text
        (entry_lines log (take (min part.count (length seen)) seen)) refl refl refl
        (subst (λ (es : List Entry). WritesPrefix before after (entry_lines log es)) (sym (take_min part.count seen)) part.prefix) kept logged;
  };
}
