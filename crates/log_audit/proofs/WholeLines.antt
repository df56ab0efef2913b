-- Whole lines at the front of bytes.
use Rattle.log_audit.proofs.Common.{◌≡◌, ℕ, ◌==◌, inl, not, List, [], ◌∷◌, ◌++◌, refl, sym, ◌∙◌, ap, arith, append_assoc, append-nil, codes, decimal, map, concat, join_with_byte, list_all, ne_eqb, and_from, map-append, concat-append, Entry, HasLine, IsOneOrTwo, actor_field, event_fields, entry_line, entry_lines, head_line, text_of, HasNoLf}
use Rattle.trip_log.proofs.CutLemmas.{Avoids, all-joined, first-same}
use Rattle.trip_log.proofs.SolidLemmas.{avoids-decimal, solid-entry, solids-avoid}

-- bytes without LF have no byte that is one
pub no_lf-avoids : (bytes : List ℕ) → HasNoLf bytes → Avoids 10 bytes
no_lf-avoids [] none = refl
no_lf-avoids (b ∷ bytes) (first, rest) =
    and_from (not (b == 10)) (list_all (λ c. not (c == 10)) bytes) (ap not (ne_eqb b 10 first)) (no_lf-avoids bytes rest)

entry-avoids : (log : ℕ) (entry : Entry) → HasLine log entry → Avoids 10 (join_with_byte 32 (actor_field entry.actor ∷ event_fields log entry.event))
entry-avoids log entry has =
    all-joined (λ b. not (b == 10)) 32 (actor_field entry.actor ∷ event_fields log entry.event) refl
    (solids-avoid 10 (actor_field entry.actor ∷ event_fields log entry.event) (omega arith) (solid-entry log entry has))

abbrev head_fields : ℕ → ℕ → ℕ → List (List ℕ)
head_fields log feeds desks = codes "log" ∷ decimal log ∷ codes "feeds" ∷ decimal feeds ∷ codes "desks" ∷ decimal desks ∷ []

head-avoids : (log feeds desks : ℕ) → IsOneOrTwo log → IsOneOrTwo feeds → IsOneOrTwo desks → Avoids 10 (join_with_byte 32 (head_fields log feeds desks))
head-avoids log feeds desks l f d =
    all-joined (λ b. not (b == 10)) 32 (head_fields log feeds desks) refl (
      refl,
      (
        avoids-decimal 10 log (inl (omega arith)) (omega (arith, l.1)),
        (
          refl,
          (
            avoids-decimal 10 feeds (inl (omega arith)) (omega (arith, f.1)),
            (refl, (avoids-decimal 10 desks (inl (omega arith)) (omega (arith, d.1)), tt)),
          ),
        ),
      ),
    )

-- a line at the front of bytes that begin with another line is that line
line-first : (line other more rest : List ℕ) → HasNoLf line → Avoids 10 other → (line ++ 10 ∷ []) ++ more ≡ (other ++ 10 ∷ []) ++ rest
    → (other ++ 10 ∷ []) ≡ line ++ 10 ∷ []
line-first line other more rest none avoids same =
    ap (λ l. l ++ 10 ∷ []) (sym (first-same 10 line other more rest (no_lf-avoids line none) avoids
    (sym (append_assoc line (10 ∷ []) more) ∙ same ∙ append_assoc other (10 ∷ []) rest)).0)

-- an entry's line at the front of a line is the whole line
pub entry-first : (log : ℕ) (entry : Entry) (line more rest : List ℕ) → HasLine log entry → HasNoLf line
    → (line ++ 10 ∷ []) ++ more ≡ entry_line log entry ++ rest → entry_line log entry ≡ line ++ 10 ∷ []
entry-first log entry line more rest has none same =
    line-first line (join_with_byte 32 (actor_field entry.actor ∷ event_fields log entry.event)) more rest none (entry-avoids log entry has) same

-- so is a head
pub head-first : (log feeds desks : ℕ) (line more rest : List ℕ) → IsOneOrTwo log → IsOneOrTwo feeds → IsOneOrTwo desks → HasNoLf line
    → (line ++ 10 ∷ []) ++ more ≡ head_line log feeds desks ++ rest → head_line log feeds desks ≡ line ++ 10 ∷ []
head-first log feeds desks line more rest l f d none same =
    line-first line (join_with_byte 32 (head_fields log feeds desks)) more rest none (head-avoids log feeds desks l f d) same

-- an LF stands in no bytes without one
has-lf : (front rest bytes : List ℕ) → HasNoLf bytes → bytes ≡ (front ++ 10 ∷ []) ++ rest → ⊥
has-lf [] rest [] none same = absurd (cc same)
has-lf [] rest (b ∷ bytes) (first, _) same = first (cc same)
has-lf (x ∷ front) rest [] none same = absurd (cc same)
has-lf (x ∷ front) rest (b ∷ bytes) (_, others) same = has-lf front rest bytes others (cc same)

-- no line stands in bytes without LF
pub no-entry-first : (log : ℕ) (entry : Entry) (rest bytes : List ℕ) → HasNoLf bytes → bytes ≡ entry_line log entry ++ rest → ⊥
no-entry-first log entry rest bytes none same =
    has-lf (join_with_byte 32 (actor_field entry.actor ∷ event_fields log entry.event)) rest bytes none same

pub no-head-first : (log feeds desks : ℕ) (rest bytes : List ℕ) → HasNoLf bytes → bytes ≡ head_line log feeds desks ++ rest → ⊥
no-head-first log feeds desks rest bytes none same = has-lf (join_with_byte 32 (head_fields log feeds desks)) rest bytes none same

-- the text of one entry more
pub text-push : (log feeds desks : ℕ) (entries : List Entry) (entry : Entry)
    → text_of log feeds desks (entries ++ entry ∷ []) ≡ text_of log feeds desks entries ++ entry_line log entry
unfolding text_of
text-push log feeds desks entries entry =
    ap (λ lines. head_line log feeds desks ++ concat lines) (map-append (entry_line log) entries (entry ∷ []))
    ∙ ap (λ l. head_line log feeds desks ++ l) (concat-append (map (entry_line log) entries) (entry_line log entry ∷ [])
    ∙ ap (λ l. entry_lines log entries ++ l) (one-line (entry_line log entry)))
    ∙ sym (append_assoc (head_line log feeds desks) (entry_lines log entries) (entry_line log entry))
  where
    one-line : (line : List ℕ) → concat (line ∷ []) ≡ line
    one-line line = append-nil line

-- the text of no entry
pub text-nothing : (log feeds desks : ℕ) → text_of log feeds desks [] ≡ head_line log feeds desks
unfolding text_of
text-nothing log feeds desks = append-nil (head_line log feeds desks)
