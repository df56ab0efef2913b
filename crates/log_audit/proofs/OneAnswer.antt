-- A log has at most one answer.
use Rattle.log_audit.proofs.Common.{◌≡◌, ◌≢◌, ℕ, ◌+◌, ◌<◌, ◌≤◌, ◌⊎◌, inl, inr, Bool, true, false, List, [], ◌∷◌, ◌++◌, length, refl, sym, ◌∙◌, ap, subst, arith, append_assoc, append-nil, length-append, All, IsTrue, Result, Ok, Err, AllByRecursion, join_with_byte, cases_lt, recursion_from_All, All-from_recursion, Entry, IsLegal, IsLegalEntry, replay, State, HasLine, IsOneOrTwo, actor_field, event_fields, entry_line, entry_lines, head_line, text_of, IsLegal-parts, IsStart, lines-go_on, texts-go_on, texts-same, first-legal, AuditFault, ReadFault, TooLong, NoMemory, Totals, Verdict, Yes, No, Why, Spelling, Tells, HasNoHead, IsLogOf, IsWrongNext, IsWrongEntry, IsWrongLine, IsAnswer, AreTotalsOf, IsFault}
use Rattle.log_audit.specs.declared.verdict.Why.TheVariants.{Actor as ToActor, Reply as ToReply, Batch as ToBatch, Seating as ToSeating, Prices as ToPrices, Outcomes as ToOutcomes}
use Rattle.log_audit.proofs.Legality.{legal-words, one-fault}
use Rattle.log_audit.proofs.ShortLines.{legal-short}

-- of two splits of one list, the longer front goes on after the shorter
pub split-longer : (xs ys zs ws : List ℕ) → xs ++ ys ≡ zs ++ ws → length xs ≤ length zs
    → (mid : List ℕ) × (zs ≡ xs ++ mid) × (ys ≡ mid ++ ws)
split-longer [] ys zs ws same short = (zs, refl, same)
split-longer (x ∷ xs) ys [] ws same short = absurd (omega arith)
split-longer (x ∷ xs) ys (z ∷ zs) ws same short =
    let head : x ≡ z = cc in
    let tail : xs ++ ys ≡ zs ++ ws = cc in
    let (mid, longer, rest) = split-longer xs ys zs ws tail (omega arith) in
    (mid, (λ i. sym head i ∷ longer i), rest)

-- one of two
second-of : {X : Type 0} (P : X → Type 0) (xs : List X) (y : X) (ys : List X) → AllByRecursion P (xs ++ y ∷ ys) → P y
second-of P [] y ys (first, _) = first
second-of P (x ∷ xs) y ys (_, rest) = second-of P xs y ys rest

-- bytes tell at most one entry
pub tells-same : (log : ℕ) (bytes : List ℕ) (a b : Entry) → IsOneOrTwo log → Tells log bytes a → Tells log bytes b → a ≡ b
tells-same log bytes a b fits one two = elim (cases_lt (length (entry_line log a)) (length (entry_line log b))) [
  | inl less ↦ ordered a b one two (omega (arith, less))
  | inr more ↦ sym (ordered b a two one (omega (arith, more)))
]
  where
    ordered : (a b : Entry) → Tells log bytes a → Tells log bytes b → length (entry_line log a) ≤ length (entry_line log b) → a ≡ b
    ordered a b one two short =
        let (more, is) = one.first in
        let (others, are) = two.first in
        let (mid, longer, _) = split-longer (entry_line log a) more (entry_line log b) others (is ∙ sym are) short in
        let lines : entry_lines log (b ∷ []) ≡ entry_lines log (a ∷ []) ++ mid
        = append-nil (entry_line log b) ∙ longer ∙ ap (λ l. l ++ mid) (sym (append-nil (entry_line log a))) in
        let (later, all, _) = lines-go_on log (a ∷ []) (b ∷ []) mid fits (All-from_recursion (HasLine log) (a ∷ []) (one.spelled, tt))
        (All-from_recursion (HasLine log) (b ∷ []) (two.spelled, tt)) lines in
        (cc all)

-- a longer text of a legal history goes on after a shorter one
pub goes-on : (start : State) (feeds desks others_feeds others_desks : ℕ) (entries others : List Entry) (front more longer rest : List ℕ)
    → IsLogOf start feeds desks entries front → IsLogOf start others_feeds others_desks others longer
    → front ++ more ≡ longer ++ rest → length front ≤ length longer
    → (feeds ≡ others_feeds) × (desks ≡ others_desks)
    × ((later : List Entry) × (others ≡ entries ++ later) × (more ≡ entry_lines start.settings.log later ++ rest))
goes-on start feeds desks others_feeds others_desks entries others front more longer rest one two same short =
    let log : ℕ = start.settings.log in
    let (mid, goes, left) = split-longer front more longer rest same short in
    let (_, f, d, (later, all, lines)) = texts-go_on log feeds desks log others_feeds others_desks entries others mid one.has_text two.has_text
    (sym two.text_is ∙ goes ∙ ap (λ l. l ++ mid) one.text_is) in
    (f, d, (later, all, left ∙ ap (λ l. l ++ rest) lines))

-- what comes next is wrong: it tells no entry, or one that has this fault
record TellsNothing (start : State) (rest : List ℕ) (why : Why) : Type 0 where
  why_is : why ≡ Spelling
  some : rest ≢ []
  none : (entry : Entry) → Tells start.settings.log rest entry → ⊥

abbrev HasFault : State → ℕ → ℕ → List Entry → List ℕ → Why → Type 0
HasFault start feeds desks entries rest why =
    (entry : Entry) × Tells start.settings.log rest entry × IsFault why feeds desks (replay start entries) entry.actor entry.event

wrong-cases : (start : State) (feeds desks : ℕ) (entries : List Entry) (rest : List ℕ) (why : Why) → IsWrongNext start feeds desks entries rest why
    → TellsNothing start rest why ⊎ HasFault start feeds desks entries rest why
wrong-cases start feeds desks entries rest Spelling h = inl (record { why_is = refl; some = h.0; none = h.1 })
wrong-cases start feeds desks entries rest ToActor h = inr h
wrong-cases start feeds desks entries rest ToReply h = inr h
wrong-cases start feeds desks entries rest ToBatch h = inr h
wrong-cases start feeds desks entries rest ToSeating h = inr h
wrong-cases start feeds desks entries rest ToPrices h = inr h
wrong-cases start feeds desks entries rest ToOutcomes h = inr h

-- what comes next is not wrong where it is the line of a legal entry
not-wrong : (start : State) (feeds desks : ℕ) (entries : List Entry) (rest : List ℕ) (why : Why) (entry : Entry)
    → IsOneOrTwo start.settings.log → Tells start.settings.log rest entry → IsLegalEntry feeds desks (replay start entries) entry
    → IsWrongNext start feeds desks entries rest why → ⊥
not-wrong start feeds desks entries rest why entry fits tells legal wrong = elim (wrong-cases start feeds desks entries rest why wrong) [
  | inl nothing ↦ nothing.none entry tells
  | inr (other, also, fault) ↦
      let same : other ≡ entry = tells-same start.settings.log rest other entry fits also tells in
      fault.fault (legal-words feeds desks (replay start entries) other.actor other.event
      (subst (IsLegalEntry feeds desks (replay start entries)) (sym same) legal) why)
]

-- the text of a legal history that the bytes begin with is no longer than what stands before a wrong line
pub no-longer : (start : State) (feeds desks : ℕ) (entries : List Entry) (front more bytes : List ℕ) (line : ℕ) (why : Why) → IsStart start
    → IsLogOf start feeds desks entries front → bytes ≡ front ++ more → (w : IsWrongEntry start bytes line why)
    → length front ≤ length w.front
no-longer start feeds desks entries front more bytes line why begins good is w = elim (cases_lt (length w.front) (length front)) [
  | inr fine ↦ omega (arith, fine)
  | inl less ↦
      let (f, d, (later, all, rest_is)) = goes-on start w.feeds w.desks feeds desks w.entries entries w.front w.rest front more w.log good
      (sym w.bytes_are ∙ is) (omega (arith, less)) in
      absurd (by_later later f d all rest_is less)
]
  where
    log : ℕ
    log = start.settings.log

    by_later : (later : List Entry) → w.feeds ≡ feeds → w.desks ≡ desks → entries ≡ w.entries ++ later
        → w.rest ≡ entry_lines log later ++ more → length w.front < length front → ⊥
    by_later [] f d all rest_is less =
        let same : entries ≡ w.entries = all ∙ append-nil w.entries in
        let texts : front ≡ w.front = good.text_is ∙ (λ i. text_of log (sym f i) (sym d i) (same i)) ∙ sym w.log.text_is in
        omega (arith, less, ap length texts)
    by_later (e ∷ es) f d all rest_is less =
        let both : IsLegal w.feeds w.desks start (w.entries ++ e ∷ es)
        = subst (λ n. IsLegal n w.desks start (w.entries ++ e ∷ es)) (sym f) (subst (λ n. IsLegal feeds n start (w.entries ++ e ∷ es)) (sym d)
        (subst (IsLegal feeds desks start) all good.legal)) in
        let legal : IsLegalEntry w.feeds w.desks (replay start w.entries) e
        = first-legal w.feeds w.desks (replay start w.entries) e es (IsLegal-parts w.feeds w.desks start w.entries (e ∷ es) both).1 in
        let spelled : HasLine log e
        = second-of (HasLine log) w.entries e es (recursion_from_All (HasLine log) (w.entries ++ e ∷ es) (subst (All (HasLine log)) all good.has_text.lines)) in
        let tells : Tells log w.rest e = record {
          spelled = spelled;
          short = legal-short w.feeds w.desks start w.entries e begins w.log.legal legal spelled;
          first = (entry_lines log es ++ more, sym (rest_is ∙ append_assoc (entry_line log e) (entry_lines log es) more));
        } in
        not-wrong start w.feeds w.desks w.entries w.rest why e good.has_text.log_version tells legal w.wrong

-- a text begins with a head
has-head : (start : State) (feeds desks : ℕ) (entries : List Entry) (front more bytes : List ℕ)
    → IsLogOf start feeds desks entries front → bytes ≡ front ++ more → HasNoHead start.settings.log bytes → ⊥
unfolding text_of
has-head start feeds desks entries front more bytes good is no_head =
    let log : ℕ = start.settings.log in
    no_head feeds desks good.has_text.feeds_number good.has_text.desks_number (
      entry_lines log entries ++ more,
      sym (is ∙ ap (λ l. l ++ more) good.text_is ∙ append_assoc (head_line log feeds desks) (entry_lines log entries) more),
    )

-- a wrong line comes after all lines of a legal history's text
pub wrong-later : (start : State) (feeds desks : ℕ) (entries : List Entry) (front more bytes : List ℕ) (line : ℕ) (why : Why) → IsStart start
    → IsLogOf start feeds desks entries front → bytes ≡ front ++ more → IsWrongLine start bytes line why → length entries + 2 ≤ line
wrong-later start feeds desks entries front more bytes line why begins good is (inl (no_head, _, _)) =
    absurd (has-head start feeds desks entries front more bytes good is no_head)
wrong-later start feeds desks entries front more bytes line why begins good is (inr w) =
    let longer = no-longer start feeds desks entries front more bytes line why begins good is w in
    let (_, _, (later, all, _)) = goes-on start feeds desks w.feeds w.desks entries w.entries front more w.front w.rest good w.log
    (sym is ∙ w.bytes_are) longer in
    omega (arith, w.line_is, ap length all, length-append entries later)

-- a whole log is not wrong
not-both : (start : State) (feeds desks : ℕ) (entries : List Entry) (bytes : List ℕ) (line : ℕ) (why : Why) → IsStart start
    → IsLogOf start feeds desks entries bytes → IsWrongLine start bytes line why → ⊥
not-both start feeds desks entries bytes line why begins good (inl (no_head, _, _)) =
    has-head start feeds desks entries bytes [] bytes good (sym (append-nil bytes)) no_head
not-both start feeds desks entries bytes line why begins good (inr w) =
    let longer = no-longer start feeds desks entries bytes [] bytes line why begins good (sym (append-nil bytes)) w in
    let (_, _, (later, all, left)) = goes-on start feeds desks w.feeds w.desks entries w.entries bytes [] w.front w.rest good w.log
    (append-nil bytes ∙ w.bytes_are) longer in
    let none : w.rest ≡ [] = nothing-after (entry_lines start.settings.log later) w.rest left in
    elim (wrong-cases start w.feeds w.desks w.entries w.rest why w.wrong) [
      | inl nothing ↦ nothing.some none
      | inr (e, tells, fault) ↦
          let (others, is) = tells.first in
          let long = some-line start.settings.log e in
          omega (arith, ap length none, ap length is, length-append (entry_line start.settings.log e) others, long)
    ]
  where
    nothing-after : (xs ys : List ℕ) → [] ≡ xs ++ ys → ys ≡ []
    nothing-after [] ys same = sym same
    nothing-after (x ∷ xs) ys same = absurd (cc same)

    some-line : (log : ℕ) (e : Entry) → 0 < length (entry_line log e)
    some-line log e = omega (arith, length-append (join_with_byte 32 (actor_field e.actor ∷ event_fields log e.event)) (10 ∷ []))

-- two wrong lines are one
pub wrong-same : (start : State) (bytes : List ℕ) (line others_line : ℕ) (why others_why : Why) → IsStart start
    → IsWrongLine start bytes line why → IsWrongLine start bytes others_line others_why → (line ≡ others_line) × (why ≡ others_why)
wrong-same start bytes line line' why why' begins (inl w) (inl v) = (w.1 ∙ sym v.1, w.2 ∙ sym v.2)
wrong-same start bytes line line' why why' begins (inl w) (inr v) =
    absurd (has-head start v.feeds v.desks v.entries v.front v.rest bytes v.log v.bytes_are w.0)
wrong-same start bytes line line' why why' begins (inr w) (inl v) =
    absurd (has-head start w.feeds w.desks w.entries w.front w.rest bytes w.log w.bytes_are v.0)
wrong-same start bytes line line' why why' begins (inr w) (inr v) =
    let longer = no-longer start w.feeds w.desks w.entries w.front w.rest bytes line' why' begins w.log w.bytes_are v in
    let shorter = no-longer start v.feeds v.desks v.entries v.front v.rest bytes line why begins v.log v.bytes_are w in
    let (f, d, (later, all, left)) = goes-on start w.feeds w.desks v.feeds v.desks w.entries v.entries w.front w.rest v.front v.rest w.log v.log
    (sym w.bytes_are ∙ v.bytes_are) longer in
    let fronts : (mid : List ℕ) × (v.front ≡ w.front ++ mid) × (w.rest ≡ mid ++ v.rest)
    = split-longer w.front w.rest v.front v.rest (sym w.bytes_are ∙ v.bytes_are) longer in
    let no_mid : fronts.0 ≡ [] = no-length fronts.0 (omega (arith, shorter, ap length fronts.1, length-append w.front fronts.0)) in
    let rests : w.rest ≡ v.rest = fronts.2 ∙ ap (λ l. l ++ v.rest) no_mid in
    let texts : w.front ≡ v.front = sym (fronts.1 ∙ ap (λ l. w.front ++ l) no_mid ∙ append-nil w.front) in
    let (_, _, _, entries) = texts-same start.settings.log w.feeds w.desks start.settings.log v.feeds v.desks w.entries v.entries w.log.has_text v.log.has_text
    (sym w.log.text_is ∙ texts ∙ v.log.text_is) in (
      w.line_is ∙ ap (λ (es : List Entry). length es + 2) entries ∙ sym v.line_is,
      faults w.feeds w.desks v.feeds v.desks w.entries v.entries w.rest v.rest f d entries rests w.log.has_text.log_version w.wrong v.wrong,
    )
  where
    no-length : (xs : List ℕ) → length xs ≤ 0 → xs ≡ []
    no-length [] h = refl
    no-length (x ∷ xs) h = absurd (omega arith)

    faults : (feeds desks feeds' desks' : ℕ) (entries entries' : List Entry) (rest rest' : List ℕ) → feeds ≡ feeds' → desks ≡ desks'
        → entries ≡ entries' → rest ≡ rest' → IsOneOrTwo start.settings.log → IsWrongNext start feeds desks entries rest why
        → IsWrongNext start feeds' desks' entries' rest' why' → why ≡ why'
    faults feeds desks feeds' desks' entries entries' rest rest' f d es rs fits one two = elim (wrong-cases start feeds desks entries rest why one) [
      | inl nothing ↦ elim (wrong-cases start feeds' desks' entries' rest' why' two) [
        | inl also ↦ nothing.why_is ∙ sym also.why_is
        | inr (e, tells, fault) ↦ absurd (nothing.none e (subst (λ r. Tells start.settings.log r e) (sym rs) tells))
      ]
      | inr (e, tells, fault) ↦ elim (wrong-cases start feeds' desks' entries' rest' why' two) [
        | inl also ↦ absurd (also.none e (subst (λ r. Tells start.settings.log r e) rs tells))
        | inr (e', tells', fault') ↦
            let same : e ≡ e' = tells-same start.settings.log rest' e e' fits (subst (λ r. Tells start.settings.log r e) rs tells) tells' in
            one-fault why why' feeds' desks' (replay start entries') e'.actor e'.event
            (subst (λ (x : Entry). IsFault why feeds' desks' (replay start entries') x.actor x.event) same
            (subst (λ xs. IsFault why feeds' desks' (replay start xs) e.actor e.event) es
            (subst (λ n. IsFault why feeds' n (replay start entries) e.actor e.event) d
            (subst (λ n. IsFault why n desks (replay start entries) e.actor e.event) f fault)))) fault'
      ]
    ]

-- the totals of one history are one
totals-same : (feeds desks feeds' desks' : ℕ) (start : State) (entries entries' : List Entry) (a b : Totals) → feeds ≡ feeds' → desks ≡ desks'
    → entries ≡ entries' → AreTotalsOf feeds desks start entries a → AreTotalsOf feeds' desks' start entries' b → b ≡ a
totals-same feeds desks feeds' desks' start entries entries' a b f d es one two =
    let also : AreTotalsOf feeds desks start entries b
    = subst (λ n. AreTotalsOf n desks start entries b) (sym f) (subst (λ n. AreTotalsOf feeds' n start entries b) (sym d)
    (subst (λ xs. AreTotalsOf feeds' desks' start xs b) (sym es) two)) in
    let finished : b.finished ≡ a.finished = same-truth b.finished a.finished (λ h. one.finished_is.1 (also.finished_is.0 h))
    (λ h. also.finished_is.1 (one.finished_is.0 h)) in
    (λ i. record {
      entries = (also.entries_are ∙ sym one.entries_are) i;
      confirmed = (also.confirmed_are ∙ sym one.confirmed_are) i;
      away = (also.away_are ∙ sym one.away_are) i;
      picked = (also.picked_are ∙ sym one.picked_are) i;
      dropped = (also.dropped_are ∙ sym one.dropped_are) i;
      finished = finished i;
    })
  where
    same-truth : (a b : Bool) → (IsTrue a → IsTrue b) → (IsTrue b → IsTrue a) → a ≡ b
    same-truth true true f g = refl
    same-truth true false f g = sym (f refl)
    same-truth false true f g = g refl
    same-truth false false f g = refl

-- a log has at most one answer
pub one-answer : (start : State) (bytes : List ℕ) (answer other : Result Verdict AuditFault) → IsStart start
    → IsAnswer start bytes answer → IsAnswer start bytes other → other ≡ answer
one-answer start bytes (Ok (Yes totals)) (Ok (Yes totals')) begins (f, d, es, good, are, _) (f', d', es', good', are', _) =
    let (_, fs, ds, same) = texts-same start.settings.log f d start.settings.log f' d' es es' good.has_text good'.has_text
    (sym good.text_is ∙ good'.text_is) in
    ap (λ t. Ok (Yes t)) (totals-same f d f' d' start es es' totals totals' fs ds same are are')
one-answer start bytes (Ok (Yes totals)) (Ok (No line why)) begins (f, d, es, good, _, _) (wrong, _) =
    absurd (not-both start f d es bytes line why begins good wrong)
one-answer start bytes (Ok (Yes totals)) (Err TooLong) begins (f, d, es, good, _, fits) (long, _) = absurd (fits long)
one-answer start bytes (Ok (Yes totals)) (Err ReadFault) begins h k = absurd k
one-answer start bytes (Ok (Yes totals)) (Err NoMemory) begins h k = absurd k
one-answer start bytes (Ok (No line why)) (Ok (Yes totals)) begins (wrong, _) (f, d, es, good, _, _) =
    absurd (not-both start f d es bytes line why begins good wrong)
one-answer start bytes (Ok (No line why)) (Ok (No line' why')) begins (wrong, _) (wrong', _) =
    let (lines, whys) = wrong-same start bytes line' line why' why begins wrong' wrong in
    (λ i. Ok (No (lines i) (whys i)))
one-answer start bytes (Ok (No line why)) (Err TooLong) begins (wrong, counts) (long, none) = absurd (none line why wrong counts)
one-answer start bytes (Ok (No line why)) (Err ReadFault) begins h k = absurd k
one-answer start bytes (Ok (No line why)) (Err NoMemory) begins h k = absurd k
one-answer start bytes (Err TooLong) (Ok (Yes totals)) begins (long, _) (f, d, es, good, _, fits) = absurd (fits long)
one-answer start bytes (Err TooLong) (Ok (No line why)) begins (long, none) (wrong, counts) = absurd (none line why wrong counts)
one-answer start bytes (Err TooLong) (Err TooLong) begins h k = refl
one-answer start bytes (Err TooLong) (Err ReadFault) begins h k = absurd k
one-answer start bytes (Err TooLong) (Err NoMemory) begins h k = absurd k
one-answer start bytes (Err ReadFault) other begins h k = absurd h
one-answer start bytes (Err NoMemory) other begins h k = absurd h
