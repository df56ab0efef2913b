use Rattle.fleet_league.proofs.Common.{◌≡◌, ◌≤◌, length, sym, ap, subst, ◌∙◌, arith, All, IsTrue, Ride, Recorded, state_of, CompanyState, MayWin, IsNewRide, won_rides, AreOfOneState, HasRoomFor, settled_at}
use Rattle.fleet_league.specs.declared.briefs.Settled.TheVariants.{Confirmed}
use Rattle.fleet_league.proofs.Legality.{IsLegalBoard}
use Rattle.fleet_league.proofs.MayAward.{MayAward, may-win}
use Rattle.fleet_league.proofs.QuotedState.{as-many-plans, stands-confirmed}
use Rattle.fleet_league.proofs.company.Company.award.Goals as goal
use Rattle.fleet_league.proofs.company.Company.award.Goals.{in-Confirmed, in_default}

pub settled_at-settled-requires : goal.settled_at-settled-requires
settled_at-settled-requires g c =
    let board : Recorded = c.self.inside.board in
    let legal : IsLegalBoard board = record { begins = c.entries-history.ensures.start; legal = c.entries-history.ensures.legal } in
    as-many-plans board c.args.quote.now c.args.brief.now legal
    (subst (λ (s : CompanyState). AreOfOneState s.board c.args.quote.now c.args.brief.now) (sym c.self.view_is) c.requires.of_one_state)
    ∙ ap (λ vs. length vs) (sym c.vehicles.ensures)

pub price_won-requires-clause-few : goal.price_won-requires-clause-few
price_won-requires-clause-few g c κs within =
    let board : Recorded = c.self.inside.board in
    let begins = c.entries-history.ensures.start in
    let batch : board.start.settings.batch ≤ 128 = begins.may_start.settings_fit.batch_limit in
    let room = subst (λ (s : CompanyState). HasRoomFor s.board (length c.args.brief.now.wins)) (sym c.self.view_is) c.requires.room in
    omega (arith, room.in_batch, batch, ap (λ ws. length ws) c.items-2.ensures)

pub award_priced-requires-clause-may : goal.award_priced-requires-clause-may
award_priced-requires-clause-may g c =
    let board : Recorded = c.self.inside.board in
    let brief = c.args.brief.now in
    let back = sym c.self.view_is in
    let may : MayAward board c.args.quote.now brief = record {
      legal = record { begins = c.entries-history.ensures.start; legal = c.entries-history.ensures.legal };
      of_one_state = subst (λ (s : CompanyState). AreOfOneState s.board c.args.quote.now brief) back c.requires.of_one_state;
      rides = subst (λ (s : CompanyState). All (IsNewRide (state_of s.board)) (won_rides brief.wins)) back c.requires.rides;
      ids_differ = c.requires.ids_differ;
      ids_spelled = c.requires.ids_spelled;
      chairs = subst (λ (s : CompanyState). s.board.start.settings.log ≡ 1 → All (λ (ride : Ride). ride.chairs ≡ 0) (won_rides brief.wins)) back
          c.requires.chairs;
      room = subst (λ (s : CompanyState). HasRoomFor s.board (length brief.wins)) back c.requires.room;
    } in
    let settled : c.settled_at-settled.result ≡ Confirmed = elim c.match-matches.branch [
      | in-Confirmed w ↦ w.in-Confirmed.is
      | in_default w ↦ absurd (cc (w.matches-is, c.if-not-matches.false))
    ] in
    let at : settled_at (state_of board).clock (state_of board).vehicles c.args.quote.now ≡ Confirmed
    = (λ i. settled_at (sym c.now.ensures i) (sym c.vehicles.ensures i) c.args.quote.now) ∙ sym c.settled_at-settled.ensures ∙ settled in
    let inside : CompanyState = record { board = board; is_open = c.self.inside.is_open } in (
      won_rides brief.wins,
      subst (λ (s : CompanyState). MayWin s (won_rides brief.wins) brief) c.self.view_is
          (may-win inside c.args.quote.now brief (subst (λ (s : CompanyState). IsTrue s.is_open) back c.requires.is_open) may
          (stands-confirmed (state_of board).clock (state_of board).vehicles c.args.quote.now at)),
    )
