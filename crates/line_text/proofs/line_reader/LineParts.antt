-- The lines of a text that comes in parts.
use Rattle.line_text.proofs.Common.{◌≡◌, ◌≢◌, ℕ, zero, suc, ◌+◌, ◌-◌, ◌^◌, ◌<◌, ◌≤◌, min, inl, inr, Bool, true, false, cond, ◌==◌, List, [], ◌∷◌, ◌++◌, length, take, drop, Option, refl, ap, sym, subst, ◌∙◌, arith, append_assoc, append-nil, length-append, nat_lt, take_all, IfSome, AllByRecursion, flat_map, take-append_seam, eqb-true, eqb-false, append_cancel_left, take-append-drop, CutterState, HasTaken, EndsLine, Continues, ended_after, rest_after, ended_lines, rest_of, last_line, lines_of, NextLine, Line, Unfinished, End, ReadStop, SourceFailed, TooLong, Limits, IsTooLong, IsWithinLimits, lines_within, ReaderState, HasGiven, IsAtEnd, IsNextLine, IsNext, IsShown, IsStopped, IsLast, IsFilled, IsCutOff}
use Rattle.std.proofs.lemmas.Grind.{flat_map-append}
use Rattle.line_text.proofs.TextLemmas.{some_bytes}
use Rattle.line_text.proofs.LineLemmas.{ended_lines-append, lines-grow, rest_after-append, some-line}
use Rattle.line_text.specs.inner.line_reader.Reader.{HasRead}
use Rattle.line_text.specs.line_reader.Reader.{HasNoLf}

-- nothing is read at first
pub read-nothing : (reader : ReaderState) → HasTaken reader.cutter [] → reader.cutter.most ≡ reader.limits.line
    → reader.pending ≡ [] → reader.bytes_left ≡ reader.limits.bytes → reader.lines_left ≡ reader.limits.lines → HasGiven reader []
unfolding ended_after rest_after
read-nothing reader taken most none bytes_left lines_left = record {
  read = record {
    taken = taken;
    most = most;
    bytes_counted = omega (arith, ap length none, bytes_left);
    lines_counted = omega (arith, lines_left);
    fresh = λ _. refl;
  };
  whole = refl;
}

-- more bytes are pending
pub read-filled : (left : Option (List ℕ)) (old new : ReaderState) (bytes more : List ℕ) (some : Bool) → HasRead old bytes
    → IsFilled left old new more some → HasRead new bytes
read-filled left old new bytes more some read fills = record {
  taken = subst (λ (c : CutterState). HasTaken c bytes) (sym fills.cutter) read.taken;
  most = ap (λ (c : CutterState). c.most) fills.cutter ∙ read.most ∙ ap (λ (l : Limits). l.line) (sym fills.limits);
  bytes_counted = omega (
    arith,
    read.bytes_counted,
    ap length fills.pending,
    length-append old.pending more,
    fills.bytes_left,
    ap (λ (l : Limits). l.bytes) fills.limits,
  );
  lines_counted = omega (arith, read.lines_counted, fills.lines_left, ap (λ (l : Limits). l.lines) fills.limits);
  fresh = λ full. read.fresh (sym fills.lines_left ∙ full);
}

-- what was pending is the part and what is pending now
pub pending-parts : (pending rest : List ℕ) (used : ℕ) → rest ≡ drop used pending → pending ≡ take used pending ++ rest
pending-parts pending rest used is = sym (take-append-drop used pending) ∙ ap (λ l. take used pending ++ l) (sym is)

-- a part of what was pending is cut
pub read-part : (old new : ReaderState) (bytes : List ℕ) (used : ℕ) → HasRead old bytes
    → used ≤ length old.pending → new.pending ≡ drop used old.pending → new.limits ≡ old.limits
    → new.bytes_left ≡ old.bytes_left → new.cutter.most ≡ old.cutter.most
    → HasTaken new.cutter (bytes ++ take used old.pending)
    → length (ended_lines (bytes ++ take used old.pending)) + new.lines_left ≡ old.limits.lines
    → (new.lines_left ≡ 0 → rest_of (bytes ++ take used old.pending) ≡ [])
    → HasRead new (bytes ++ take used old.pending)
read-part old new bytes used read within rest limits bytes_left most taken counted fresh = record {
  taken = taken;
  most = most ∙ read.most ∙ ap (λ (l : Limits). l.line) (sym limits);
  bytes_counted = omega (
    arith,
    read.bytes_counted,
    ap length (pending-parts old.pending new.pending used rest),
    length-append (take used old.pending) new.pending,
    length-append bytes (take used old.pending),
    bytes_left,
    ap (λ (l : Limits). l.bytes) limits,
  );
  lines_counted = omega (arith, counted, ap (λ (l : Limits). l.lines) limits);
  fresh = fresh;
}

-- bytes without LF, and one more
no_lf-push : (bytes : List ℕ) (b : ℕ) → HasNoLf bytes → b ≢ 10 → HasNoLf (bytes ++ b ∷ [])
no_lf-push [] b none other = (other, tt)
no_lf-push (a ∷ bytes) b (first, none) other = (first, no_lf-push bytes b none other)

-- what stands after the last LF has none
no_lf-after : (line bytes : List ℕ) → HasNoLf line → HasNoLf (rest_after line bytes)
unfolding rest_after
no_lf-after line [] none = none
no_lf-after line (b ∷ bytes) none =
    elim (b == 10) as (λ v. b == 10 ≡ v → HasNoLf (cond v (rest_after [] bytes) (rest_after (line ++ b ∷ []) bytes))) [
      | true ↦ λ _. no_lf-after [] bytes tt
      | false ↦ λ other. no_lf-after (line ++ b ∷ []) bytes (no_lf-push line b none (eqb-false b 10 other))
    ] refl

pub no_lf-rest : (bytes : List ℕ) → HasNoLf (rest_of bytes)
no_lf-rest bytes = no_lf-after [] bytes tt

-- a line that an LF ends has none
no_lf-ended : (line bytes : List ℕ) → HasNoLf line → AllByRecursion HasNoLf (ended_after line bytes)
unfolding ended_after
no_lf-ended line [] none = tt
no_lf-ended line (b ∷ bytes) none =
    elim (b == 10) as (λ v. b == 10 ≡ v → AllByRecursion HasNoLf (cond v (line ∷ ended_after [] bytes) (ended_after (line ++ b ∷ []) bytes))) [
      | true ↦ λ _. (none, no_lf-ended [] bytes tt)
      | false ↦ λ other. no_lf-ended (line ++ b ∷ []) bytes (no_lf-push line b none (eqb-false b 10 other))
    ] refl

-- the last of lines
last-of : (P : List ℕ → Type 0) (lines : List (List ℕ)) (line : List ℕ) → AllByRecursion P (lines ++ line ∷ []) → P line
last-of P [] line (first, _) = first
last-of P (l ∷ lines) line (_, rest) = last-of P lines line rest

-- a line with its LF
abbrev with_lf : List ℕ → List ℕ
with_lf line = line ++ 10 ∷ []

-- bytes are their lines, each with its LF, and what stands after the last LF
joined : (line bytes : List ℕ) → line ++ bytes ≡ flat_map with_lf (ended_after line bytes) ++ rest_after line bytes
unfolding ended_after rest_after
joined line [] = append-nil line
joined line (b ∷ bytes) =
    elim (b == 10) as (λ v. b == 10 ≡ v → line ++ b ∷ bytes
    ≡ flat_map with_lf (cond v (line ∷ ended_after [] bytes) (ended_after (line ++ b ∷ []) bytes))
    ++ cond v (rest_after [] bytes) (rest_after (line ++ b ∷ []) bytes)) [
      | true ↦ λ is.
          ap (λ c. line ++ c ∷ bytes) (eqb-true b 10 is)
          ∙ ap (λ l. line ++ 10 ∷ l) (joined [] bytes)
          ∙ sym (append_assoc line (10 ∷ []) (flat_map with_lf (ended_after [] bytes) ++ rest_after [] bytes))
          ∙ sym (append_assoc (with_lf line) (flat_map with_lf (ended_after [] bytes)) (rest_after [] bytes))
      | false ↦ λ _. sym (append_assoc line (b ∷ []) bytes) ∙ joined (line ++ b ∷ []) bytes
    ] refl

-- whole lines and one more
pub line-joined : (bytes more line : List ℕ) → rest_of bytes ≡ [] → rest_of more ≡ [] → ended_lines more ≡ ended_lines bytes ++ line ∷ []
    → more ≡ bytes ++ line ++ 10 ∷ []
line-joined bytes more line whole also ends =
    let front : bytes ≡ flat_map with_lf (ended_lines bytes) = joined [] bytes ∙ ap (λ l. flat_map with_lf (ended_lines bytes) ++ l) whole ∙ append-nil _ in
    joined [] more
    ∙ (λ i. flat_map with_lf (ends i) ++ also i)
    ∙ append-nil (flat_map with_lf (ended_lines bytes ++ line ∷ []))
    ∙ flat_map-append with_lf (ended_lines bytes) (line ∷ [])
    ∙ (λ i. sym front i ++ append-nil (with_lf line) i)
    ∙ sym (append_assoc bytes line (10 ∷ []))

pub line-no_lf : (bytes more line : List ℕ) → ended_lines more ≡ ended_lines bytes ++ line ∷ [] → HasNoLf line
line-no_lf bytes more line ends =
    last-of HasNoLf (ended_lines bytes) line (subst (AllByRecursion HasNoLf) ends (no_lf-ended [] more tt))

-- the lines of whole lines and more bytes
pub ended-after_whole : (bytes more : List ℕ) → rest_of bytes ≡ [] → ended_lines (bytes ++ more) ≡ ended_lines bytes ++ ended_lines more
ended-after_whole bytes more whole = ended_lines-append bytes more ∙ ap (λ l. ended_lines bytes ++ ended_after l more) whole

-- more bytes after whole lines are at least one more line
pub one-more-line : (bytes more : List ℕ) → rest_of bytes ≡ [] → 0 < length more → length (ended_lines bytes) < length (lines_of (bytes ++ more))
one-more-line bytes more whole some =
    let rest : rest_of (bytes ++ more) ≡ rest_after [] more = rest_after-append [] bytes more ∙ ap (λ l. rest_after l more) whole in
    omega (
      arith,
      length-append (ended_lines (bytes ++ more)) (last_line (rest_of (bytes ++ more))),
      ap length (ended-after_whole bytes more whole),
      length-append (ended_lines bytes) (ended_after [] more),
      ap (λ l. length (last_line l)) rest,
      some-line [] more (omega (arith, some)),
    )

-- the first bytes of a text within the limits do not pass them
pub first-within : (limits : Limits) (bytes more : List ℕ) → IsWithinLimits limits (bytes ++ more) → IsTooLong limits bytes → ⊥
first-within limits bytes more within (inl long) = omega (arith, long, within.few_bytes, length-append bytes more)
first-within limits bytes more within (inr many) = omega (arith, many, within.few_lines, lines-grow bytes more)

-- where as many lines end within the first bytes as count, those are the lines that count
full-lines : (limits : Limits) (bytes more : List ℕ) → rest_of bytes ≡ [] → length bytes ≤ limits.bytes → length (ended_lines bytes) ≡ limits.lines
    → lines_within limits (bytes ++ more) ≡ ended_lines bytes
full-lines limits bytes more whole few full =
    let rest : List ℕ = take (limits.bytes - length bytes) more in
    let front : take limits.bytes (bytes ++ more) ≡ bytes ++ rest = take-past limits.bytes bytes more few in
    ap (λ b. take limits.lines (ended_lines b)) front
    ∙ ap (take limits.lines) (ended-after_whole bytes rest whole)
    ∙ ap (λ n. take n (ended_lines bytes ++ ended_lines rest)) (sym full)
    ∙ take-append_seam (ended_lines bytes) (ended_lines rest)
  where
    take-past : {X : Type 0} (n : ℕ) (xs ys : List X) → length xs ≤ n → take n (xs ++ ys) ≡ xs ++ take (n - length xs) ys
    take-past n [] ys few = let same : n ≡ n - 0 = omega arith in ap (λ m. take m ys) same
    take-past zero (x ∷ xs) ys few = absurd (omega arith)
    take-past (suc n) (x ∷ xs) ys few =
        let same : n - length xs ≡ suc n - suc (length xs) = omega arith in
        ap (λ l. x ∷ l) (take-past n xs ys (omega arith)) ∙ ap (λ m. x ∷ xs ++ take m ys) same

-- where few lines end within the first bytes, those are the lines that count
few-lines : (limits : Limits) (bytes part more : List ℕ) → length (bytes ++ part) ≡ limits.bytes → length (ended_lines bytes) ≤ limits.lines
    → ended_lines (bytes ++ part) ≡ ended_lines bytes → lines_within limits ((bytes ++ part) ++ more) ≡ ended_lines bytes
few-lines limits bytes part more full few same =
    let front : take limits.bytes ((bytes ++ part) ++ more) ≡ bytes ++ part
    = ap (λ n. take n ((bytes ++ part) ++ more)) (sym full) ∙ take-append_seam (bytes ++ part) more in
    ap (λ b. take limits.lines (ended_lines b)) front ∙ ap (take limits.lines) same ∙ take_all limits.lines (ended_lines bytes) few

-- all lines count of a text within the limits
pub lines-within : (limits : Limits) (bytes : List ℕ) → IsWithinLimits limits bytes → lines_within limits bytes ≡ ended_lines bytes
lines-within limits bytes within =
    ap (λ b. take limits.lines (ended_lines b)) (take_all limits.bytes bytes within.few_bytes)
    ∙ take_all limits.lines (ended_lines bytes)
    (omega (arith, within.few_lines, length-append (ended_lines bytes) (last_line (rest_of bytes))))

-- a part of a line, after whole lines
pub record Begins (bytes part : List ℕ) : Type 0 where
  pub ends_none : ended_lines (bytes ++ part) ≡ ended_lines bytes
  pub is_rest : rest_of (bytes ++ part) ≡ part

-- a last line counts only where one more may begin
short-last : (rest : List ℕ) (lines_left : ℕ) → (lines_left ≡ 0 → rest ≡ []) → length (last_line rest) ≤ lines_left
short-last [] lines_left fresh = omega arith
short-last (b ∷ rest) zero fresh = absurd (cc (fresh refl))
short-last (b ∷ rest) (suc lines_left) fresh = omega arith

-- what was cut is within the limits
pub within-limits : (reader : ReaderState) (bytes : List ℕ) → HasRead reader bytes → IsWithinLimits reader.limits bytes
within-limits reader bytes read = record {
  few_bytes = omega (arith, read.bytes_counted);
  few_lines = omega (
    arith,
    length-append (ended_lines bytes) (last_line (rest_of bytes)),
    short-last (rest_of bytes) reader.lines_left read.fresh,
    read.lines_counted,
  );
}

-- nothing comes after a part of a line
pub at-end : (left : Option (List ℕ)) (reader after : ReaderState) (bytes part : List ℕ) (next : NextLine)
    → HasRead reader (bytes ++ part) → Begins bytes part → IfSome left (λ more. more ≡ [])
    → after ≡ reader → IsLast reader (bytes ++ part) next → IsNext left after bytes part next
at-end left reader after bytes part next read begins end same last =
    subst (λ (r : ReaderState). IsNext left r bytes part next) (sym same) (by_next next last)
  where
    is_end : IsAtEnd left reader.limits bytes part
    is_end = record {
      no_lf = subst HasNoLf begins.is_rest (no_lf-rest (bytes ++ part));
      to_end = end;
      within = within-limits reader (bytes ++ part) read;
      ended_are = begins.ends_none;
      rest_is = begins.is_rest;
    }

    by_next : (n : NextLine) → IsLast reader (bytes ++ part) n → IsNext left reader bytes part n
    by_next Line h = absurd h
    by_next Unfinished (some, shown) = (
      is_end,
      (λ none. some (begins.is_rest ∙ none)),
      subst (λ (l : List ℕ). IsShown reader (length (ended_lines bytes) + 1) l) begins.is_rest
          (subst (λ (ls : List (List ℕ)). IsShown reader (length ls + 1) (rest_of (bytes ++ part))) begins.ends_none shown),
    )
    by_next End h = (is_end, sym begins.is_rest ∙ h)

-- no more lines may begin
pub stops-lines : (reader : ReaderState) (bytes part : List ℕ) → HasRead reader (bytes ++ part)
    → Begins bytes part → reader.pending ≢ [] → reader.lines_left ≡ 0 → IsStopped reader.limits bytes (part ++ reader.pending) TooLong
stops-lines reader bytes part read begins some full =
    let nothing : part ≡ [] = sym begins.is_rest ∙ read.fresh full in
    let here : bytes ++ part ≡ bytes = ap (λ l. bytes ++ l) nothing ∙ append-nil bytes in
    let whole : rest_of bytes ≡ [] = ap rest_of (sym here) ∙ begins.is_rest ∙ nothing in
    let many : length (ended_lines bytes) ≡ reader.limits.lines = omega (arith, read.lines_counted, ap length begins.ends_none, full) in
    let came : part ++ reader.pending ≡ reader.pending = ap (λ l. l ++ reader.pending) nothing in
    subst (λ (l : List ℕ). IsStopped reader.limits bytes l TooLong) (sym came) (record {
      lines_are = full-lines reader.limits bytes reader.pending whole (omega (arith, read.bytes_counted, ap length here)) many;
      why = inr (omega (arith, one-more-line bytes reader.pending whole (some_bytes reader.pending some), many));
    })

-- no more bytes come
pub stops-bytes : (reader : ReaderState) (bytes part more : List ℕ) (stop : ReadStop) → HasRead reader (bytes ++ part) → Begins bytes part
    → IsCutOff reader more stop → IsStopped reader.limits bytes (part ++ (reader.pending ++ more)) stop
stops-bytes reader bytes part more SourceFailed read begins (none, nothing) =
    let came : part ++ (reader.pending ++ more) ≡ part = (λ i. part ++ (none i ++ nothing i)) ∙ append-nil part in
    let within : IsWithinLimits reader.limits (bytes ++ part) = within-limits reader (bytes ++ part) read in
    subst (λ (l : List ℕ). IsStopped reader.limits bytes l SourceFailed) (sym came) (record {
      lines_are = lines-within reader.limits (bytes ++ part) within ∙ begins.ends_none;
      why = within;
    })
stops-bytes reader bytes part more TooLong read begins (none, none_left, (byte, is_byte)) =
    let came : part ++ (reader.pending ++ more) ≡ part ++ byte ∷ [] = (λ i. part ++ (none i ++ is_byte i)) in
    let full : length (bytes ++ part) ≡ reader.limits.bytes = omega (arith, read.bytes_counted, ap length none, none_left) in
    let is : (bytes ++ part) ++ byte ∷ [] ≡ bytes ++ (part ++ byte ∷ []) = append_assoc bytes part (byte ∷ []) in
    subst (λ (l : List ℕ). IsStopped reader.limits bytes l TooLong) (sym came) (record {
      lines_are = ap (lines_within reader.limits) (sym is)
          ∙ few-lines reader.limits bytes part (byte ∷ []) full (omega (arith, read.lines_counted, ap length begins.ends_none)) begins.ends_none;
      why = inl (omega (arith, ap length is, length-append (bytes ++ part) (byte ∷ []), full));
    })

-- the next line
pub next-line : (reader : ReaderState) (bytes part piece : List ℕ) → rest_of bytes ≡ [] → Begins bytes part
    → HasRead reader ((bytes ++ part) ++ piece) → (ends : EndsLine reader.cutter (bytes ++ part) piece)
    → IsNextLine reader bytes ((part ++ piece) ++ reader.pending) ends.line
next-line reader bytes part piece whole begins read ends =
    let lines_are : ended_lines ((bytes ++ part) ++ piece) ≡ ended_lines bytes ++ ends.line ∷ []
    = ends.ends ∙ ap (λ ls. ls ++ ends.line ∷ []) begins.ends_none in
    let is : (bytes ++ part) ++ piece ≡ bytes ++ ends.line ++ 10 ∷ []
    = line-joined bytes ((bytes ++ part) ++ piece) ends.line whole ends.begins lines_are in
    let line_is : part ++ piece ≡ ends.line ++ 10 ∷ [] = append_cancel_left bytes (part ++ piece) (ends.line ++ 10 ∷ []) (sym (append_assoc bytes part piece) ∙ is ∙ append_assoc bytes ends.line (10 ∷ [])) in
    record {
      no_lf = line-no_lf bytes ((bytes ++ part) ++ piece) ends.line lines_are;
      parts = ap (λ l. l ++ reader.pending) line_is;
      given = record {
        read = subst (HasRead reader) is read;
        whole = ap rest_of (sym is) ∙ ends.begins;
      };
      lines_are = ap ended_lines (sym is) ∙ lines_are;
      shown = record {
        numbered = ends.shows.numbered ∙ ap (λ (ls : List (List ℕ)). min (length ls + 1) (2 ^ 64 - 1)) begins.ends_none;
        bytes = ends.shows.kept ∙ ap (λ n. take n ends.line) read.most;
        over = ends.shows.more ∙ ap (λ n. nat_lt n (length ends.line)) read.most;
      };
    }

-- what came with one more piece
pub came-more : (first more piece part rest : List ℕ) → first ++ more ≡ part ++ rest → first ++ (more ++ piece) ≡ part ++ (rest ++ piece)
came-more first more piece part rest came =
    sym (append_assoc first more piece) ∙ ap (λ l. l ++ piece) came ∙ append_assoc part rest piece

-- of which a part was cut
pub came-cut : (first more piece part pending filled cut rest : List ℕ) → first ++ more ≡ part ++ pending → filled ≡ pending ++ piece → filled ≡ cut ++ rest
    → first ++ (more ++ piece) ≡ (part ++ cut) ++ rest
came-cut first more piece part pending filled cut rest came fills parts =
    came-more first more piece part pending came ∙ ap (λ l. part ++ l) (sym fills ∙ parts) ∙ sym (append_assoc part cut rest)

-- one more part of the line
pub begins-more : (bytes part piece : List ℕ) → Begins bytes part → Continues (bytes ++ part) piece → Begins bytes (part ++ piece)
begins-more bytes part piece begins continues =
    let assoc : (bytes ++ part) ++ piece ≡ bytes ++ (part ++ piece) = append_assoc bytes part piece in
    record {
      ends_none = ap ended_lines (sym assoc) ∙ continues.ends ∙ begins.ends_none;
      is_rest = ap rest_of (sym assoc) ∙ continues.goes_on ∙ ap (λ l. l ++ piece) begins.is_rest;
    }

-- no part of a line is read at first
pub begins-nothing : (bytes : List ℕ) → rest_of bytes ≡ [] → Begins bytes []
begins-nothing bytes whole = record {
  ends_none = ap ended_lines (append-nil bytes);
  is_rest = ap rest_of (append-nil bytes) ∙ whole;
}
