-- The state that a quote was made of, where its vehicles and its clock still stand.
use Rattle.fleet_league.proofs.Common.{◌≡◌, ℕ, ◌+◌, Bool, true, false, not, cond, List, [], ◌∷◌, ◌++◌, length, eqb, Option, Some, None, refl, sym, ap, subst, ◌∙◌, option_map, eqb-true, length-map, all_of, Entry, Vehicle, replay, versions_of, IsLegal, vehicle_ids, State, AreEarlier, any_id, any_fine, consistent, history_goes, legal_goes, replay-append, IsLegal-parts, fed_total, Recorded, state_of, Brief, Timed, Quote, prices_by, won_rides, IsCertifiedBy, IsCertifiedOver, AreOfOneState, first_moved, moved_answer, settled_by, settled_at}
use Rattle.model_laws.proofs.history_laws.Entries.{IsFineEvent}
use Rattle.fleet_league.specs.declared.briefs.Settled.TheVariants.{Confirmed}
use Rattle.fleet_league.proofs.Legality.{IsLegalBoard}

-- earlier records of which none has moved are the later ones
unmoved-same : (earliers laters : List Vehicle) → AreEarlier earliers laters → first_moved (versions_of earliers) laters ≡ None
    → earliers ≡ laters
unmoved-same [] [] are none = refl
unmoved-same [] (later ∷ laters) are none = absurd are
unmoved-same (earlier ∷ earliers) [] are none = absurd are
unmoved-same (earlier ∷ earliers) (later ∷ laters) (is, are) none =
    by_test (eqb earlier.version later.version) refl none (λ rest. unmoved-same earliers laters are rest)
  where
    by_test : (b : Bool) → eqb earlier.version later.version ≡ b
        → cond (not b) (Some ((earlier.id, earlier.version), later)) (first_moved (versions_of earliers) laters) ≡ None
        → (first_moved (versions_of earliers) laters ≡ None → earliers ≡ laters) → (earlier ∷ earliers) ≡ (later ∷ laters)
    by_test false differ some rest = absurd (cc some)
    by_test true same found rest = λ i. is.same (eqb-true earlier.version later.version same) i ∷ rest found i

-- an award that is confirmed: no vehicle has moved, and it is the quoted time
pub record Stands (time : ℕ) (vehicles : List Vehicle) (quote : Quote) : Type 0 where
  pub none_moved : first_moved quote.plans vehicles ≡ None
  pub in_time : quote.time ≡ time

pub stands-confirmed : (time : ℕ) (vehicles : List Vehicle) (quote : Quote) → settled_at time vehicles quote ≡ Confirmed
    → Stands time vehicles quote
stands-confirmed time vehicles quote is = by_moved (first_moved quote.plans vehicles) refl is
  where
    by_time : (b : Bool) → eqb quote.time time ≡ b → cond b Confirmed (Timed quote.time time) ≡ Confirmed → quote.time ≡ time
    by_time true same h = eqb-true quote.time time same
    by_time false differ h = absurd (cc h)

    by_moved : (o : Option ((ℕ × ℕ) × Vehicle)) → first_moved quote.plans vehicles ≡ o → settled_by time quote (option_map moved_answer o) ≡ Confirmed
        → Stands time vehicles quote
    by_moved None found h = record { none_moved = found; in_time = by_time (eqb quote.time time) refl h }
    by_moved (Some pair) found h = absurd (cc h)

-- the quoted state of a board: what it has in common with the state that stands
pub record IsQuoted (board : Recorded) (quoted : State) : Type 0 where
  pub roads_are : quoted.roads ≡ (state_of board).roads
  pub settings_are : quoted.settings ≡ (state_of board).settings
  pub ids_are : vehicle_ids quoted.vehicles ≡ vehicle_ids (state_of board).vehicles
  pub earlier : AreEarlier quoted.vehicles (state_of board).vehicles

pub is-quoted : (board : Recorded) (before after : List Entry) → IsLegalBoard board → board.history ≡ before ++ after
    → IsQuoted board (replay board.start before)
is-quoted board before after is history =
    let legal = subst (IsLegal board.feeds board.desks board.start) history is.legal in
    let (legal_before, legal_after) = IsLegal-parts board.feeds board.desks board.start before after legal in
    let quoted : State = replay board.start before in
    let now : state_of board ≡ replay quoted after = ap (replay board.start) history ∙ replay-append board.start before after in
    let first = consistent board.feeds board.desks board.start before is.begins legal_before in
    let last = consistent board.feeds board.desks board.start board.history is.begins is.legal in
    let goes = legal_goes board.feeds board.desks board.start before is.begins legal_before in
    let on = history_goes board.feeds board.desks (0 + fed_total before) any_id board.start quoted after is.begins goes.inv legal_after
    (all_of (λ (entry : Entry). IsFineEvent any_id entry.event) after (λ entry there. any_fine entry.event)) in
    record {
      roads_are = first.roads_stay ∙ sym last.roads_stay;
      settings_are = first.settings_stay ∙ sym last.settings_stay;
      ids_are = first.fleet_stays ∙ sym last.fleet_stays;
      earlier = subst (λ (t : State). AreEarlier quoted.vehicles t.vehicles) (sym now) on.earlier;
    }

-- there is a quoted version for each vehicle
pub as-many-plans : (board : Recorded) (quote : Quote) (brief : Brief) → IsLegalBoard board → AreOfOneState board quote brief
    → length quote.plans ≡ length (state_of board).vehicles
as-many-plans board quote brief is of =
    let quoted = is-quoted board of.before of.after is of.history_is in
    let earlier = (replay board.start of.before).vehicles in
    ap (λ plans. length plans) of.plans_are ∙ length-map earlier (λ (v : Vehicle). (v.id, v.version))
    ∙ sym (length-map earlier (λ (v : Vehicle). v.id)) ∙ ap (λ ids. length ids) quoted.ids_are
    ∙ length-map (state_of board).vehicles (λ (v : Vehicle). v.id)

-- where all stands, the brief is certified over the prices that stand
pub certified-now : (board : Recorded) (quote : Quote) (brief : Brief) → IsLegalBoard board → AreOfOneState board quote brief
    → Stands (state_of board).clock (state_of board).vehicles quote → IsCertifiedOver (state_of board) brief
certified-now board quote brief is of stands =
    let s : State = state_of board in
    let then : State = replay board.start of.before in
    let quoted = is-quoted board of.before of.after is of.history_is in
    let vehicles : then.vehicles ≡ s.vehicles
    = unmoved-same then.vehicles s.vehicles quoted.earlier (ap (λ plans. first_moved plans s.vehicles) (sym of.plans_are) ∙ stands.none_moved) in
    let clock : then.clock ≡ s.clock = sym of.time_is ∙ stands.in_time in
    subst (λ m. IsCertifiedBy (prices_by m s.settings s.clock s.vehicles (won_rides brief.wins)) s.settings.penalty s.vehicles brief) quoted.roads_are
    (subst (λ settings. IsCertifiedBy (prices_by then.roads settings s.clock s.vehicles (won_rides brief.wins)) settings.penalty s.vehicles brief)
    quoted.settings_are
    (subst (λ time. IsCertifiedBy (prices_by then.roads then.settings time s.vehicles (won_rides brief.wins)) then.settings.penalty s.vehicles brief)
    clock
    (subst (λ vs. IsCertifiedBy (prices_by then.roads then.settings then.clock vs (won_rides brief.wins)) then.settings.penalty vs brief)
    vehicles of.certified)))
