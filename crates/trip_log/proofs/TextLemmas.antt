-- Texts, told apart by their lines.
use Rattle.trip_log.proofs.Common.{◌≡◌, ℕ, ◌<◌, ◌==◌, not, List, [], ◌∷◌, ◌++◌, length, map, All, refl, ap, sym, subst, ◌∙◌, append_assoc, append-nil, length-append, arith, codes, decimal, join_with_byte, list_all, and_parts, not-true, All-head, All-tail, ended_after, ended_lines, rest_after, rest_of, Entry, actor_field, entry_line, entry_lines, event_fields, head_line, line_of, text_of, HasLine, HasText, IsOneOrTwo, front_of}
use Rattle.line_text.proofs.LineLemmas.{HasNoEnd, ended_after-no_end, rest_after-no_end}
use Rattle.trip_log.proofs.CutLemmas.{Avoids, all-joined, first-same, front_of-push}
use Rattle.trip_log.proofs.LineLemmas.{heads-same}
use Rattle.trip_log.proofs.ReadLemmas.{lines-same}
use Rattle.trip_log.proofs.SolidLemmas.{AreSolid, solid-decimal, solid-entry, solid-word, solids-avoid}

-- joined solid fields have no LF
no_end : (fields : List (List ℕ)) → AreSolid fields → Avoids 10 (join_with_byte 32 fields)
no_end fields solid = all-joined _ 32 fields refl (solids-avoid 10 fields (omega arith) solid)

-- equal texts of two lines and more have equal lines and equal rests
lines-first : (fields others : List (List ℕ)) (more rest : List ℕ) → AreSolid fields → AreSolid others
    → line_of fields ++ more ≡ line_of others ++ rest → (line_of fields ≡ line_of others) × (more ≡ rest)
lines-first fields others more rest solid also same =
    let (line, after) =
    first-same 10 (join_with_byte 32 fields) (join_with_byte 32 others) more rest (no_end fields solid) (no_end others also)
    (sym (append_assoc (join_with_byte 32 fields) (10 ∷ []) more) ∙ same ∙ append_assoc (join_with_byte 32 others) (10 ∷ []) rest) in
    (ap (λ text. text ++ 10 ∷ []) line, after)

-- a line has a byte
line-some : (fields : List (List ℕ)) (more : List ℕ) → 0 < length (line_of fields ++ more)
line-some fields more = omega (arith, length-append (line_of fields) more, length-append (join_with_byte 32 fields) (10 ∷ []))

-- lines that go on after others are those of entries that go on
pub lines-go_on : (log : ℕ) (entries others : List Entry) (rest : List ℕ) → IsOneOrTwo log → All (HasLine log) entries
    → All (HasLine log) others
    → entry_lines log others ≡ entry_lines log entries ++ rest
    → (later : List Entry) × (others ≡ entries ++ later) × (rest ≡ entry_lines log later)
lines-go_on log [] others rest log_is have also same = (others, refl, sym same)
lines-go_on log (entry ∷ entries) [] rest log_is have also same =
    let some = line-some (actor_field entry.actor ∷ event_fields log entry.event) (entry_lines log entries) in
    let long : 0 ≡ length (entry_lines log (entry ∷ entries) ++ rest) = ap length same in
    absurd (omega (arith, some, long, length-append (entry_lines log (entry ∷ entries)) rest))
lines-go_on log (entry ∷ entries) (other ∷ others) rest log_is have also same =
    let has = All-head (HasLine log) entry entries have in
    let has_other = All-head (HasLine log) other others also in
    let (line, after) =
    lines-first (actor_field other.actor ∷ event_fields log other.event) (actor_field entry.actor ∷ event_fields log entry.event)
    (entry_lines log others) (entry_lines log entries ++ rest) (solid-entry log other has_other) (solid-entry log entry has)
    (same ∙ append_assoc (entry_line log entry) (entry_lines log entries) rest) in
    let first : other ≡ entry = lines-same log other entry log_is has_other has line in
    let (later, all, are) =
    lines-go_on log entries others rest log_is (All-tail (HasLine log) entry entries have)
    (All-tail (HasLine log) other others also) after in
    (later, ap (λ (e : Entry). e ∷ others) first ∙ ap (λ (es : List Entry). entry ∷ es) all, are)

abbrev head_fields : ℕ → ℕ → ℕ → List (List ℕ)
head_fields log feeds desks = codes "log" ∷ decimal log ∷ codes "feeds" ∷ decimal feeds ∷ codes "desks" ∷ decimal desks ∷ []

solid-head : (log feeds desks : ℕ) → IsOneOrTwo log → IsOneOrTwo feeds → IsOneOrTwo desks → AreSolid (head_fields log feeds desks)
solid-head log feeds desks l f d = (
  solid-word 108 (codes "og") refl,
  (
    solid-decimal log (omega (arith, l.1)),
    (
      solid-word 102 (codes "eeds") refl,
      (solid-decimal feeds (omega (arith, f.1)), (solid-word 100 (codes "esks") refl, (solid-decimal desks (omega (arith, d.1)), tt))),
    ),
  ),
)

-- texts that go on after others
pub texts-go_on : (log feeds desks other_log other_feeds other_desks : ℕ) (entries others : List Entry) (rest : List ℕ)
    → HasText log feeds desks entries → HasText other_log other_feeds other_desks others
    → text_of other_log other_feeds other_desks others ≡ text_of log feeds desks entries ++ rest
    → (log ≡ other_log) × (feeds ≡ other_feeds) × (desks ≡ other_desks)
    × ((later : List Entry) × (others ≡ entries ++ later) × (rest ≡ entry_lines log later))
unfolding text_of
texts-go_on log feeds desks other_log other_feeds other_desks entries others rest has also same =
    let (head, after) =
    lines-first (head_fields other_log other_feeds other_desks) (head_fields log feeds desks) (entry_lines other_log others)
    (entry_lines log entries ++ rest) (solid-head other_log other_feeds other_desks also.log_version also.feeds_number also.desks_number)
    (solid-head log feeds desks has.log_version has.feeds_number has.desks_number)
    (same ∙ append_assoc (head_line log feeds desks) (entry_lines log entries) rest) in
    let (log_same, feeds_same, desks_same) =
    heads-same log feeds desks other_log other_feeds other_desks has.log_version has.feeds_number has.desks_number also.log_version
    also.feeds_number also.desks_number (sym head) in (
      log_same,
      feeds_same,
      desks_same,
      lines-go_on log entries others rest has.log_version has.lines (subst (λ l. All (HasLine l) others) (sym log_same) also.lines)
          (subst (λ l. entry_lines l others ≡ entry_lines log entries ++ rest) (sym log_same) after),
    )

-- equal texts
pub texts-same : (log feeds desks other_log other_feeds other_desks : ℕ) (entries others : List Entry)
    → HasText log feeds desks entries → HasText other_log other_feeds other_desks others
    → text_of log feeds desks entries ≡ text_of other_log other_feeds other_desks others
    → (log ≡ other_log) × (feeds ≡ other_feeds) × (desks ≡ other_desks) × (entries ≡ others)
texts-same log feeds desks other_log other_feeds other_desks entries others has also same =
    let (l, f, d, (later, all, none)) =
    texts-go_on log feeds desks other_log other_feeds other_desks entries others [] has also
    (sym same ∙ sym (append-nil (text_of log feeds desks entries))) in
    (l, f, d, sym (all ∙ ap (λ (es : List Entry). entries ++ es) (no_lines later none) ∙ append-nil entries))
  where
    no_lines : (later : List Entry) → [] ≡ entry_lines log later → later ≡ []
    no_lines [] none = refl
    no_lines (entry ∷ later) none =
        let some = line-some (actor_field entry.actor ∷ event_fields log entry.event) (entry_lines log later) in
        let long : 0 ≡ length (entry_lines log (entry ∷ later)) = ap length none in absurd (omega (arith, some, long))

has_no_end : (bytes : List ℕ) → Avoids 10 bytes → HasNoEnd bytes
has_no_end [] avoids = tt
has_no_end (b ∷ bytes) avoids =
    let (here, later) = and_parts (not (b == 10)) (list_all (λ c. not (c == 10)) bytes) avoids in
    (not-true (b == 10) here, has_no_end bytes later)

-- a line is cut off at its LF
cut-line : (fields : List (List ℕ)) (more : List ℕ) → AreSolid fields
    → ended_lines (line_of fields ++ more) ≡ front_of (line_of fields) ∷ ended_lines more
unfolding ended_after
cut-line fields more solid =
    ap ended_lines (append_assoc (join_with_byte 32 fields) (10 ∷ []) more)
    ∙ ended_after-no_end [] (join_with_byte 32 fields) (10 ∷ more) (has_no_end (join_with_byte 32 fields) (no_end fields solid))
    ∙ ap (λ (line : List ℕ). line ∷ ended_lines more) (sym (front_of-push (join_with_byte 32 fields) 10))

rest-line : (fields : List (List ℕ)) (more : List ℕ) → AreSolid fields → rest_of (line_of fields ++ more) ≡ rest_of more
unfolding rest_after
rest-line fields more solid =
    ap rest_of (append_assoc (join_with_byte 32 fields) (10 ∷ []) more)
    ∙ rest_after-no_end [] (join_with_byte 32 fields) (10 ∷ more) (has_no_end (join_with_byte 32 fields) (no_end fields solid))

cut-entries : (log : ℕ) (entries : List Entry) → All (HasLine log) entries
    → ended_lines (entry_lines log entries) ≡ map (λ (entry : Entry). front_of (entry_line log entry)) entries
unfolding ended_after
cut-entries log [] have = refl
cut-entries log (entry ∷ entries) have =
    cut-line (actor_field entry.actor ∷ event_fields log entry.event) (entry_lines log entries)
    (solid-entry log entry (All-head (HasLine log) entry entries have))
    ∙ ap (λ (lines : List (List ℕ)). front_of (entry_line log entry) ∷ lines)
    (cut-entries log entries (All-tail (HasLine log) entry entries have))

rest-entries : (log : ℕ) (entries : List Entry) → All (HasLine log) entries → rest_of (entry_lines log entries) ≡ []
unfolding rest_after
rest-entries log [] have = refl
rest-entries log (entry ∷ entries) have =
    rest-line (actor_field entry.actor ∷ event_fields log entry.event) (entry_lines log entries)
    (solid-entry log entry (All-head (HasLine log) entry entries have))
    ∙ rest-entries log entries (All-tail (HasLine log) entry entries have)

-- the lines of a text
pub cut-text : (log feeds desks : ℕ) (entries : List Entry) → HasText log feeds desks entries
    → ended_lines (text_of log feeds desks entries)
    ≡ front_of (head_line log feeds desks) ∷ map (λ (entry : Entry). front_of (entry_line log entry)) entries
unfolding text_of
cut-text log feeds desks entries has =
    cut-line (head_fields log feeds desks) (entry_lines log entries)
    (solid-head log feeds desks has.log_version has.feeds_number has.desks_number)
    ∙ ap (λ (lines : List (List ℕ)). front_of (head_line log feeds desks) ∷ lines) (cut-entries log entries has.lines)

pub rest-text : (log feeds desks : ℕ) (entries : List Entry) → HasText log feeds desks entries
    → rest_of (text_of log feeds desks entries) ≡ []
unfolding text_of
rest-text log feeds desks entries has =
    rest-line (head_fields log feeds desks) (entry_lines log entries)
    (solid-head log feeds desks has.log_version has.feeds_number has.desks_number)
    ∙ rest-entries log entries has.lines
