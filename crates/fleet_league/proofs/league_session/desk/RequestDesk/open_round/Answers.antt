use Rattle.fleet_league.proofs.Common.{◌≡◌, ◌+◌, ◌≤◌, [], ◌∷◌, take, length, Ok, ap, subst, sym, ◌∙◌, arith, length-append, Desk, Ask, next_batch, waiting_rides, fed_commands, BatchCopy, State, IsOpenBatch, opening_at, Recorded, state_of, HasOpened, IsDesk}
use Rattle.fleet_league.proofs.league_session.OpenedRounds.{Opens, after-ask, asked_once, fed-same, gets-next, has-opened, rides-are}
use Rattle.fleet_league.proofs.Reports.{fed-push}
use Rattle.fleet_league.proofs.WinsAsked.{none-ended, none-open}
use Rattle.fleet_league.proofs.league_session.desk.RequestDesk.open_round.Goals as goal

pub open_batch-requires-clause-not_ended : goal.open_batch-requires-clause-not_ended
open_batch-requires-clause-not_ended c =
    let old : Recorded = c.self.inside.board in
    let desk : IsDesk old = subst IsDesk (sym c.self.view_is) c.requires.fits in
    let few : (state_of old).asked + 1 ≤ 2000 = omega (arith, c.if-asked-ge-MOST_BATCHES.false, c.asked.ensures) in
    none-ended (state_of c.apply.new.self) (Desk 1)
    (ap (λ (t : State). t.ended) (after-ask old c.apply.new.self few c.in_ok-apply.ensures.others c.in_ok-apply.ensures.entry) ∙ desk.none_ended)

pub open_batch-requires-clause-none_open : goal.open_batch-requires-clause-none_open
open_batch-requires-clause-none_open c =
    let old : Recorded = c.self.inside.board in
    let desk : IsDesk old = subst IsDesk (sym c.self.view_is) c.requires.fits in
    let few : (state_of old).asked + 1 ≤ 2000 = omega (arith, c.if-asked-ge-MOST_BATCHES.false, c.asked.ensures) in
    none-open (state_of c.apply.new.self) 1
    (ap (λ (t : State). t.batches) (after-ask old c.apply.new.self few c.in_ok-apply.ensures.others c.in_ok-apply.ensures.entry) ∙ desk.none_open)

pub returns-in_default : goal.returns-in_default
returns-in_default c =
    let old : Recorded = c.self.inside.board in
    let desk : IsDesk old = subst IsDesk (sym c.self.view_is) c.requires.fits in
    let few : (state_of old).asked + 1 ≤ 2000 = omega (arith, c.if-asked-ge-MOST_BATCHES.false, c.asked.ensures) in
    absurd (c.in_default.not-Batch (next_batch (asked_once (state_of old)) 1)
    (c.in_ok-batch.ensures.opening
    ∙ ap (λ (t : State). opening_at c.apply.new.self.feeds t 1)
    (after-ask old c.apply.new.self few c.in_ok-apply.ensures.others c.in_ok-apply.ensures.entry)
    ∙ gets-next (state_of old) c.apply.new.self.feeds desk.all_opened))

pub returns-clause-opened : goal.returns-clause-opened
returns-clause-opened c batch same =
    let old : Recorded = c.self.inside.board in
    let desk : IsDesk old = subst IsDesk (sym c.self.view_is) c.requires.fits in
    let few : (state_of old).asked + 1 ≤ 2000 = omega (arith, c.if-asked-ge-MOST_BATCHES.false, c.asked.ensures) in
    let opens : Opens old c.apply.new.self c.open_batch.new.self c.in-Batch.batch = record {
      desk = desk;
      few_asked = few;
      first = c.in_ok-apply.ensures.others;
      asking = c.in_ok-apply.ensures.entry;
      opening = sym c.in-Batch.is ∙ c.in_ok-batch.ensures.opening;
      second = c.in_ok-batch.ensures.others;
      entry = c.in_ok-batch.ensures.entry c.in-Batch.batch (ap Ok c.in-Batch.is);
      open_now = c.in_ok-batch.ensures.open_now c.in-Batch.batch (ap Ok c.in-Batch.is);
    } in
    let is : c.in-Batch.batch ≡ batch = cc same in
    let few_now : (state_of c.args.self.now).asked + 1 ≤ 2000 = subst (λ (d : Recorded). (state_of d).asked + 1 ≤ 2000) c.self.view_is few in (
      omega (arith, few_now),
      subst (λ (b : BatchCopy). HasOpened (state_of c.args.self.now) b c.open_batch.new.self) is
          (subst (λ (d : Recorded). HasOpened (state_of d) c.in-Batch.batch c.open_batch.new.self) c.self.view_is
          (has-opened old c.apply.new.self c.open_batch.new.self c.in-Batch.batch opens)),
    )

pub returns-clause-rides : goal.returns-clause-rides
returns-clause-rides c batch same =
    let old : Recorded = c.self.inside.board in
    let desk : IsDesk old = subst IsDesk (sym c.self.view_is) c.requires.fits in
    let few : (state_of old).asked + 1 ≤ 2000 = omega (arith, c.if-asked-ge-MOST_BATCHES.false, c.asked.ensures) in
    let opens : Opens old c.apply.new.self c.open_batch.new.self c.in-Batch.batch = record {
      desk = desk;
      few_asked = few;
      first = c.in_ok-apply.ensures.others;
      asking = c.in_ok-apply.ensures.entry;
      opening = sym c.in-Batch.is ∙ c.in_ok-batch.ensures.opening;
      second = c.in_ok-batch.ensures.others;
      entry = c.in_ok-batch.ensures.entry c.in-Batch.batch (ap Ok c.in-Batch.is);
      open_now = c.in_ok-batch.ensures.open_now c.in-Batch.batch (ap Ok c.in-Batch.is);
    } in
    let is : c.in-Batch.batch ≡ batch = cc same in
    sym (ap (λ (b : BatchCopy). b.requests) is)
    ∙ rides-are old c.apply.new.self c.open_batch.new.self c.in-Batch.batch opens
    ∙ ap (λ (d : Recorded). take (state_of d).settings.batch (waiting_rides (state_of d))) c.self.view_is

pub returns-clause-open_now : goal.returns-clause-open_now
returns-clause-open_now c batch same =
    let old : Recorded = c.self.inside.board in
    let desk : IsDesk old = subst IsDesk (sym c.self.view_is) c.requires.fits in
    let few : (state_of old).asked + 1 ≤ 2000 = omega (arith, c.if-asked-ge-MOST_BATCHES.false, c.asked.ensures) in
    let opens : Opens old c.apply.new.self c.open_batch.new.self c.in-Batch.batch = record {
      desk = desk;
      few_asked = few;
      first = c.in_ok-apply.ensures.others;
      asking = c.in_ok-apply.ensures.entry;
      opening = sym c.in-Batch.is ∙ c.in_ok-batch.ensures.opening;
      second = c.in_ok-batch.ensures.others;
      entry = c.in_ok-batch.ensures.entry c.in-Batch.batch (ap Ok c.in-Batch.is);
      open_now = c.in_ok-batch.ensures.open_now c.in-Batch.batch (ap Ok c.in-Batch.is);
    } in
    let is : c.in-Batch.batch ≡ batch = cc same in
    let one : c.apply.new.self.desks ≡ 1 = ap (λ (b : Recorded). b.desks) opens.first ∙ desk.one_desk in
    subst (λ (b : BatchCopy). IsOpenBatch 1 (state_of c.open_batch.new.self) b) is
    (subst (λ n. IsOpenBatch n (state_of c.open_batch.new.self) c.in-Batch.batch) one opens.open_now)

pub returns-clause-one_more : goal.returns-clause-one_more
returns-clause-one_more c =
    let old : Recorded = c.self.inside.board in
    let desk : IsDesk old = subst IsDesk (sym c.self.view_is) c.requires.fits in
    let few : (state_of old).asked + 1 ≤ 2000 = omega (arith, c.if-asked-ge-MOST_BATCHES.false, c.asked.ensures) in
    let opens : Opens old c.apply.new.self c.open_batch.new.self c.in-Batch.batch = record {
      desk = desk;
      few_asked = few;
      first = c.in_ok-apply.ensures.others;
      asking = c.in_ok-apply.ensures.entry;
      opening = sym c.in-Batch.is ∙ c.in_ok-batch.ensures.opening;
      second = c.in_ok-batch.ensures.others;
      entry = c.in_ok-batch.ensures.entry c.in-Batch.batch (ap Ok c.in-Batch.is);
      open_now = c.in_ok-batch.ensures.open_now c.in-Batch.batch (ap Ok c.in-Batch.is);
    } in
    let asked : length (fed_commands 1 c.apply.new.self.history) ≡ length (fed_commands 1 old.history) + 1
    = ap length (fed-push (state_of old) old.history c.apply.new.self.history Ask opens.asking) ∙ length-append (fed_commands 1 old.history) (Ask ∷ []) in
    let same : fed_commands 1 c.open_batch.new.self.history ≡ fed_commands 1 c.apply.new.self.history
    = fed-same c.apply.new.self.history c.open_batch.new.self.history c.in-Batch.batch.desk _ opens.entry in
    subst (λ (d : Recorded). length (fed_commands 1 c.open_batch.new.self.history) ≤ length (fed_commands 1 d.history) + 1) c.self.view_is
    (omega (arith, asked, ap length same))
