-- Which statuses are left to a run of whole files without faults.
use Rattle.dispatcher.proofs.Common.{◌≡◌, ◌⊎◌, inl, inr, ℕ, true, List, [], ◌∷◌, ◌++◌, drop, length, Option, Some, None, Result, Ok, Err, IfSome, IsSomeAnd, refl, sym, ap, subst, ◌∙◌, All, All-head, All-tail, ⊤, Format, Reads, Contents, GivenBack, Rose, Ran, RoadMap, Settings, fleet_format, map_format, map_text, IsTooLong, IsWithinLimits, feed_limits, IsAnswer, AuditFault, ReadFault, TooLong, Verdict, Yes, No, FeedRun, Asked, a_replay, an_audit, a_service, a_drill, a_booking, a_league, File, map_file, fleet_file, second_fleet_file, feed_file, log_file, files_of, all_of_none, all_of_one, IsFresh, Meaning, Means, StopsAt, StopsBy, start_of, status_of, HasStopped, HasWorked, IsOver, IsWhole, Shelved, Sunk, told_bytes, Audits, EndsBy, Stop, FleetRefused, MapRefused, NoMemory, ShelfFault, long-status, ran-status, within-not-long}
use Rattle.ride_ports.specs.Status.{status_of as status_ran}
use Rattle.line_text.specs.Texts.{text_value}
use Rattle.log_audit.specs.declared.limits.TheConstants.{LOG_LIMITS}
use Rattle.log_audit.specs.declared.verdict.AuditFault.TheVariants.{NoMemory as AuditNoMemory}
use Rattle.dispatcher.proofs.Bringing.{AreBytesOf}

-- how a run ends that no fault kept from its end
abbrev MayEnd : Asked → ℕ → Type 0
MayEnd ask status = (status ≡ 0) ⊎ (status ≡ 1) ⊎ ((map fleet log : List ℕ) × (ask ≡ an_audit map fleet log) × (status ≡ 7))

-- fleet files are read over a map: the first of the files is a map, or none is a fleet file
abbrev IsFleetFile : File → Type 0
IsFleetFile (fleet_file name) = ⊤
IsFleetFile (second_fleet_file name) = ⊤
IsFleetFile _ = ⊥

abbrev NoFleetFile : File → Type 0
NoFleetFile file = IsFleetFile file → ⊥

abbrev pub IsHeaded : List File → Type 0
IsHeaded files = ((name : List ℕ) × (rest : List File) × (files ≡ map_file name ∷ rest)) ⊎ All NoFleetFile files

pub map-first : (name : List ℕ) (files : List File) → IsHeaded (map_file name ∷ files)
map-first name files = inl (name, files, refl)

headed : (ask : Asked) → IsHeaded (files_of ask)
headed (a_drill plan) = inr (all_of_none NoFleetFile)
headed (a_booking feed) = inr (all_of_one NoFleetFile (feed_file feed) (λ is. is))
headed ask = inl (_, _, refl)

all-at : (P : File → Type 0) (earlier later : List File) (file : File) → All P (earlier ++ file ∷ later) → P file
all-at P [] later file all = All-head P file later all
all-at P (f ∷ earlier) later file all = all-at P earlier later file (All-tail P f (earlier ++ file ∷ later) all)

-- no text of these bytes stops a run
no-text-stop : {S V E : Type 0} (format : Format S V E) (refused : E → Stop) (file : Option (List ℕ)) (sources : List GivenBack) (value : V) (stop : Stop)
    → IsSomeAnd file (λ text. text_value format text ≡ Ok value) → StopsBy format refused file sources stop → (stop ≡ NoMemory) ⊎ (stop ≡ ShelfFault)
no-text-stop format refused None sources value stop whole stops = absurd whole
no-text-stop format refused (Some text) sources value stop whole (inl memory) = inl memory
no-text-stop format refused (Some text) sources value stop whole (inr (inl fault)) = inr fault.0
no-text-stop format refused (Some text) sources value stop whole (inr (inr (e, is, refusal, error))) = absurd (cc (error, whole))

one-network : (file : Option (List ℕ)) (one other : RoadMap) → IsSomeAnd file (λ text. map_text text ≡ Ok one)
    → IfSome file (λ text. map_text text ≡ Ok other) → other ≡ one
one-network None one other whole means = absurd whole
one-network (Some text) one other whole means = cc (whole, means)

with-settings : (P : Settings → List ℕ → Type 0) (file : Option (List ℕ)) → IsSomeAnd file (λ text. (unused : Settings) × P unused text)
    → (unused : Settings) × IsSomeAnd file (P unused)
with-settings P None whole = absurd whole
with-settings P (Some text) whole = whole

-- no text of whole files stops a run
module _ (told : Option Contents) (m n : Meaning) where
  no-stop : (file : File) (sources : List GivenBack) (stop : Stop) → IsWhole told m file → (IsFleetFile file → n.network ≡ m.network)
      → StopsAt told n file sources stop → (stop ≡ NoMemory) ⊎ (stop ≡ ShelfFault)
  no-stop (map_file name) sources stop whole same stops =
      no-text-stop map_format MapRefused (told_bytes told name) sources m.network stop whole stops
  no-stop (fleet_file name) sources stop whole same stops =
      no-text-stop (fleet_format m.network.nodes) FleetRefused (told_bytes told name) sources (m.settings, m.vehicles) stop whole
      (subst (λ (r : RoadMap). StopsBy (fleet_format r.nodes) FleetRefused (told_bytes told name) sources stop) (same tt) stops)
  no-stop (second_fleet_file name) sources stop whole same stops =
      let (unused, is) = with-settings (λ settings text. text_value (fleet_format m.network.nodes) text ≡ Ok (settings, m.second)) (told_bytes told name) whole in
      no-text-stop (fleet_format m.network.nodes) FleetRefused (told_bytes told name) sources (unused, m.second) stop is
      (subst (λ (r : RoadMap). StopsBy (fleet_format r.nodes) FleetRefused (told_bytes told name) sources stop) (same tt) stops)
  no-stop (feed_file name) sources stop whole same stops = stops
  no-stop (log_file name) sources stop whole same stops = stops

  -- the map before a fleet file
  map-before : (earlier later : List File) (file : File) → IsHeaded (earlier ++ file ∷ later) → All (IsWhole told m) (earlier ++ file ∷ later)
      → All (Means told n) earlier → IsFleetFile file → n.network ≡ m.network
  map-before earlier later file (inr none) whole means is_fleet = absurd (all-at NoFleetFile earlier later file none is_fleet)
  map-before [] later file (inl (name, rest, are)) whole means is_fleet =
      let is : file ≡ map_file name = cc are in
      absurd (subst IsFleetFile is is_fleet)
  map-before (f ∷ earlier) later file (inl (name, rest, are)) whole means is_fleet =
      let is : f ≡ map_file name = cc are in
      one-network (told_bytes told name) m.network n.network (subst (IsWhole told m) is (All-head (IsWhole told m) f (earlier ++ file ∷ later) whole))
      (subst (Means told n) is (All-head (Means told n) f earlier means))

-- a run that stopped, though its files were whole, wanted memory
pub whole-stops : (files : List File) (m : Meaning) (old new : Shelved) (out : Sunk) (status : ℕ) → IsHeaded files → HasStopped files old new out status
    → All (IsWhole old.told m) files → (Rose old.faults new.faults → ⊥) → status ≡ 1
whole-stops files m old new out status first (stop, at, says) whole no_fault =
    let all : All (IsWhole old.told m) (at.earlier ++ at.file ∷ at.later) = subst (λ (l : List File). All (IsWhole old.told m) l) at.files_are whole in
    let head : IsHeaded (at.earlier ++ at.file ∷ at.later) = subst IsHeaded at.files_are first in
    elim (no-stop old.told m at.meaning at.file (drop (length at.earlier) new.back) stop (all-at (IsWhole old.told m) at.earlier at.later at.file all)
    (map-before old.told m at.meaning at.earlier at.later at.file head all at.means) at.why) [
      | inl memory ↦ elim says [
        | inl line ↦ line.0 ∙ subst (λ (s : Stop). status_of s ≡ 1) (sym memory) refl
        | inr nothing ↦ nothing.0
      ]
      | inr fault ↦ absurd (no_fault (at.rose fault))
    ]

-- a feed within its limits is not too long, nor is a log
feed-not-long : (file : Option (List ℕ)) (feed : FeedRun) (taken : List ℕ) → IsSomeAnd file (IsWithinLimits feed_limits) → AreBytesOf file feed.bytes
    → Reads feed.bytes feed.left taken → IsTooLong feed_limits taken → ⊥
feed-not-long None feed taken whole are reads long = absurd whole
feed-not-long (Some bytes) feed taken whole are reads long =
    within-not-long feed_limits bytes taken feed.left whole (subst (λ (o : Option (List ℕ)). Reads o feed.left taken) are reads) long

log-not-long : (file : Option (List ℕ)) (m : Meaning) (log : FeedRun) (out : Sunk) (status : ℕ) → IsSomeAnd file (λ bytes. IsTooLong LOG_LIMITS bytes → ⊥)
    → AreBytesOf file log.bytes → (audits : Audits m log out status) → audits.found ≡ Err TooLong → ⊥
log-not-long None m log out status whole are audits long = absurd whole
log-not-long (Some bytes) m log out status whole are audits long =
    whole (subst (λ (o : Option (List ℕ)). IfSome o (λ b. IsAnswer (start_of m) b (Err TooLong))) are
    (subst (λ (f : Result Verdict AuditFault). IfSome log.bytes (λ b. IsAnswer (start_of m) b f)) long
    (audits.answer (λ memory. absurd (cc (memory, long))) (λ fault. absurd (cc (fault, long)))))).0

-- what an audit's answer is said by, where its source did not fail and its log is not too long
found-ends : (map fleet log : List ℕ) (found : Result Verdict AuditFault) (out : Sunk) (status : ℕ) → EndsBy found status out
    → (status ≡ 5 → ⊥) → (status ≡ 6 → ⊥) → (found ≡ Err TooLong → ⊥) → MayEnd (an_audit map fleet log) status
found-ends map fleet log (Ok (Yes totals)) out status (inl (is, says)) no_source no_sink short = inl is
found-ends map fleet log (Ok (Yes totals)) out status (inr (inl (is, says))) no_source no_sink short = absurd (no_sink is)
found-ends map fleet log (Ok (Yes totals)) out status (inr (inr (is, says))) no_source no_sink short = inr (inl is)
found-ends map fleet log (Ok (No line why)) out status (inl (is, prefix, whole)) no_source no_sink short = inr (inr (map, fleet, log, refl, is))
found-ends map fleet log (Ok (No line why)) out status (inr (is, says)) no_source no_sink short = inr (inl is)
found-ends map fleet log (Err TooLong) out status (is, says) no_source no_sink short = absurd (short refl)
found-ends map fleet log (Err ReadFault) out status (is, says) no_source no_sink short = absurd (no_source is)
found-ends map fleet log (Err AuditNoMemory) out status (is, says) no_source no_sink short = inr (inl is)

module _ (old new : Shelved) (out : Sunk) (status : ℕ) (no_shelf : Rose old.faults new.faults → ⊥) (no_sink : Rose out.faults_before out.faults_after → ⊥)
    (m : Meaning) where
  -- a session whose feeds are not too long
  ran-ends : (ask : Asked) (ran : Ran) → HasWorked ask old new out status → status ≡ status_ran ran → (ran.too_long ≡ true → ⊥) → MayEnd ask status
  ran-ends ask ran worked is no_limit = elim (ran-status ran) [
    | inl zero ↦ inl (is ∙ zero)
    | inr (inl one) ↦ inr (inl (is ∙ one))
    | inr (inr (inl five)) ↦ absurd (no_shelf (worked.shelf_fault (is ∙ five)))
    | inr (inr (inr (inl six))) ↦ absurd (no_sink (worked.sink_fault (is ∙ six)))
    | inr (inr (inr (inr eight))) ↦ absurd (no_limit (long-status ran eight).1)
  ]

  -- a session over the last file
  feed-ends : (ask : Asked) (earlier : List File) (name : List ℕ) (ran : Ran) (taken : List ℕ) → HasWorked ask old new out status
      → All (IsWhole old.told m) (earlier ++ feed_file name ∷ []) → (over : IsOver old.told name new.back) → status ≡ status_ran ran
      → Reads over.feed.bytes over.feed.left taken → (ran.too_long ≡ true → IsTooLong feed_limits taken) → MayEnd ask status
  feed-ends ask earlier name ran taken worked whole over is reads long = ran-ends ask ran worked is (λ too_long.
      feed-not-long (told_bytes old.told name) over.feed taken (all-at (IsWhole old.told m) earlier [] (feed_file name) whole) over.bytes_are reads
      (long too_long))

  -- a run that did its work
  worked-ends : (ask : Asked) → HasWorked ask old new out status → All (IsWhole old.told m) (files_of ask) → MayEnd ask status
  worked-ends (a_replay map fleet feed reach) worked whole =
      let (over, did) = worked.did in
      feed-ends (a_replay map fleet feed reach) (map_file map ∷ fleet_file fleet ∷ []) feed did.ran did.taken worked whole over did.status_is did.reads
      did.replayed.too_long
  worked-ends (an_audit map fleet log) worked whole =
      let (over, did) = worked.did in
      found-ends map fleet log did.found out status did.said (λ five. no_shelf (worked.shelf_fault five)) (λ six. no_sink (worked.sink_fault six))
      (log-not-long (told_bytes old.told log) worked.meaning over.feed out status
      (all-at (IsWhole old.told m) (map_file map ∷ fleet_file fleet ∷ []) [] (log_file log) whole) over.bytes_are did)
  worked-ends (a_service map fleet riders drivers workers desks) worked whole =
      let (second, first, serves) = worked.did in
      let texts = map_file map ∷ fleet_file fleet ∷ [] in
      ran-ends (a_service map fleet riders drivers workers desks) serves.ran worked serves.status_is (λ long. elim serves.served [
        | inl not ↦ absurd (cc (ap (λ (r : Ran). r.too_long) not.ran_is, long))
        | inr has ↦ elim (has.too_long long) [
          | inl is ↦ feed-not-long (told_bytes old.told riders) first.feed has.riders_taken
              (all-at (IsWhole old.told m) texts (feed_file drivers ∷ []) (feed_file riders) whole) first.bytes_are has.of_riders.reads is
          | inr is ↦ feed-not-long (told_bytes old.told drivers) second.feed has.drivers_taken
              (all-at (IsWhole old.told m) (texts ++ feed_file riders ∷ []) [] (feed_file drivers) whole) second.bytes_are has.of_drivers.reads is
        ]
      ])
  worked-ends (a_drill plan) worked whole =
      ran-ends (a_drill plan) worked.did.ran worked worked.did.status_is (λ long. absurd (cc (worked.did.no_limit, long)))
  worked-ends (a_booking feed) worked whole =
      let (over, did) = worked.did in
      feed-ends (a_booking feed) [] feed did.ran did.taken worked whole over did.status_is did.reads did.told.too_long
  worked-ends (a_league map fleet second feed) worked whole =
      let (over, did) = worked.did in
      feed-ends (a_league map fleet second feed) (map_file map ∷ fleet_file fleet ∷ second_fleet_file second ∷ []) feed did.ran did.taken worked whole
      over did.status_is did.reads did.told.too_long

-- however a run ended
pub completes : (ask : Asked) (old new : Shelved) (out : Sunk) (status : ℕ)
    → ((status ≡ 1) × IsFresh new × (out.after ≡ out.before)) ⊎ HasStopped (files_of ask) old new out status ⊎ HasWorked ask old new out status
    → (m : Meaning) → All (IsWhole old.told m) (files_of ask)
    → (Rose old.faults new.faults → ⊥) → (Rose out.faults_before out.faults_after → ⊥) → MayEnd ask status
completes ask old new out status (inl unread) m whole no_shelf no_sink = inr (inl unread.0)
completes ask old new out status (inr (inl stopped)) m whole no_shelf no_sink =
    inr (inl (whole-stops (files_of ask) m old new out status (headed ask) stopped whole no_shelf))
completes ask old new out status (inr (inr worked)) m whole no_shelf no_sink = worked-ends old new out status no_shelf no_sink m ask worked whole
