use Rattle.fleet_league.proofs.Common.{inl, [], ◌∷◌, ◌++◌, length, Ok, sym, ap, subst, ◌∙◌, arith, take_all, Desk, RoadMap, BatchCopy, State, IsTableOf, Recorded, state_of, abandoned_entry, asking_entries, won_batch}
use Rattle.fleet_league.proofs.Awarded.{IsOpened, opened-award, opens-some, asked-facts, cut-none_open, award-table, award-won, award-open, IsCommitOf, commit-adds, commit-idle, gives-up}
use Rattle.fleet_league.proofs.Legality.{IsLegalBoard}
use Rattle.fleet_league.proofs.Outcomes.{on_err}
use Rattle.fleet_league.proofs.WinsAsked.{none-ended, none-open}
use Rattle.fleet_league.proofs.confirming.confirm.Goals as goal

pub returns-in_err-ask-clause-none_open : goal.returns-in_err-ask-clause-none_open
returns-in_err-ask-clause-none_open c =
    let (many, history) = c.in_err-ask.ensures.cut in
    on_err c.from_residual.result
    (cut-none_open c.args.board.now c.ask.new.board c.items.result.now many c.in_err-ask.ensures.others history c.requires.may.idle.none_open)

pub open_batch-requires-clause-not_ended : goal.open_batch-requires-clause-not_ended
open_batch-requires-clause-not_ended c =
    none-ended (state_of c.ask.new.board) (Desk 1)
    (asked-facts c.args.board.now c.ask.new.board c.args.brief.now c.items.result.now c.requires.may c.items.ensures
    c.in_ok-ask.ensures.others c.in_ok-ask.ensures.asked).0

pub open_batch-requires-clause-none_open : goal.open_batch-requires-clause-none_open
open_batch-requires-clause-none_open c =
    let (_, none) = asked-facts c.args.board.now c.ask.new.board c.args.brief.now c.items.result.now c.requires.may c.items.ensures
    c.in_ok-ask.ensures.others c.in_ok-ask.ensures.asked in
    none-open (state_of c.ask.new.board) 1 none

pub returns-in_err-batch-clause-part : goal.returns-in_err-batch-clause-part
returns-in_err-batch-clause-part c =
    let entries = asking_entries (state_of c.args.board.now) c.args.brief.now.wins in
    on_err c.from_residual-in_err-batch.result (inl (
      length entries,
      ap (λ (b : Recorded). b.history) c.in_err-batch.ensures.no_memory ∙ c.in_ok-ask.ensures.asked
          ∙ ap (λ ws. c.args.board.now.history ++ asking_entries (state_of c.args.board.now) ws) c.items.ensures
          ∙ ap (λ es. c.args.board.now.history ++ es) (sym (take_all (length entries) entries (omega arith))),
    ))

pub returns-in_err-batch-clause-none_open : goal.returns-in_err-batch-clause-none_open
returns-in_err-batch-clause-none_open c =
    let (_, none) = asked-facts c.args.board.now c.ask.new.board c.args.brief.now c.items.result.now c.requires.may c.items.ensures
    c.in_ok-ask.ensures.others c.in_ok-ask.ensures.asked in
    on_err c.from_residual-in_err-batch.result (ap (λ (b : Recorded). (state_of b).batches) c.in_err-batch.ensures.no_memory ∙ none)

pub returns-in_default : goal.returns-in_default
returns-in_default c =
    absurd (c.in_default.not-Batch (won_batch (state_of c.args.board.now) c.args.brief.now.wins)
    (opens-some c.args.board.now c.ask.new.board c.args.brief.now c.items.result.now c.in_ok-batch.field-0 c.requires.may c.items.ensures
    c.in_ok-ask.ensures.others c.in_ok-ask.ensures.asked c.in_ok-batch.ensures.opening))

pub solved-requires : goal.solved-requires
solved-requires c =
    let opened : IsOpened c.args.board.now c.args.brief.now c.open_batch.new.self c.in-Batch.batch
    = opened-award c.args.board.now c.ask.new.board c.open_batch.new.self c.args.brief.now c.items.result.now c.in_ok-batch.field-0
    c.in-Batch.batch c.requires.may c.items.ensures c.in_ok-ask.ensures.others c.in_ok-ask.ensures.asked c.in_ok-batch.ensures.opening
    c.in-Batch.is c.in_ok-batch.ensures.others (c.in_ok-batch.ensures.entry c.in-Batch.batch (ap Ok c.in-Batch.is)) in
    let legal : IsLegalBoard c.open_batch.new.self = record { begins = c.entries-history.ensures.start; legal = c.entries-history.ensures.legal } in
    record {
      won = (
        c.args.board.now.start.roads,
        award-table c.args.board.now c.open_batch.new.self c.args.brief.now c.in-Batch.batch c.args.table opened c.requires.table,
        award-won c.args.board.now c.open_batch.new.self c.args.brief.now c.in-Batch.batch c.requires.may opened legal,
      );
    }

pub commit-requires-clause-is_open : goal.commit-requires-clause-is_open
commit-requires-clause-is_open c =
    let opened : IsOpened c.args.board.now c.args.brief.now c.open_batch.new.self c.in-Batch.batch
    = opened-award c.args.board.now c.ask.new.board c.open_batch.new.self c.args.brief.now c.items.result.now c.in_ok-batch.field-0
    c.in-Batch.batch c.requires.may c.items.ensures c.in_ok-ask.ensures.others c.in_ok-ask.ensures.asked c.in_ok-batch.ensures.opening
    c.in-Batch.is c.in_ok-batch.ensures.others (c.in_ok-batch.ensures.entry c.in-Batch.batch (ap Ok c.in-Batch.is)) in
    award-open c.args.board.now c.open_batch.new.self c.args.brief.now c.in-Batch.batch c.in-Ok.solved.batch c.requires.may opened c.in-Ok.ensures.batch

pub commit-requires-clause-table : goal.commit-requires-clause-table
commit-requires-clause-table c =
    let opened : IsOpened c.args.board.now c.args.brief.now c.open_batch.new.self c.in-Batch.batch
    = opened-award c.args.board.now c.ask.new.board c.open_batch.new.self c.args.brief.now c.items.result.now c.in_ok-batch.field-0
    c.in-Batch.batch c.requires.may c.items.ensures c.in_ok-ask.ensures.others c.in_ok-ask.ensures.asked c.in_ok-batch.ensures.opening
    c.in-Batch.is c.in_ok-batch.ensures.others (c.in_ok-batch.ensures.entry c.in-Batch.batch (ap Ok c.in-Batch.is)) in
    let roads = c.args.board.now.start.roads in
    subst (λ (m : RoadMap). IsTableOf m c.in-Ok.solved.batch c.in-Ok.solved.table) (sym (ap (λ (t : State). t.roads) opened.awarding.start))
    (subst (λ (b : BatchCopy). IsTableOf roads b c.in-Ok.solved.table) (sym c.in-Ok.ensures.batch)
    (subst (IsTableOf roads c.in-Batch.batch) (sym c.in-Ok.ensures.table)
    (award-table c.args.board.now c.open_batch.new.self c.args.brief.now c.in-Batch.batch c.args.table opened c.requires.table)))

pub abandon-requires : goal.abandon-requires
abandon-requires c =
    let opened : IsOpened c.args.board.now c.args.brief.now c.open_batch.new.self c.in-Batch.batch
    = opened-award c.args.board.now c.ask.new.board c.open_batch.new.self c.args.brief.now c.items.result.now c.in_ok-batch.field-0
    c.in-Batch.batch c.requires.may c.items.ensures c.in_ok-ask.ensures.others c.in_ok-ask.ensures.asked c.in_ok-batch.ensures.opening
    c.in-Batch.is c.in_ok-batch.ensures.others (c.in_ok-batch.ensures.entry c.in-Batch.batch (ap Ok c.in-Batch.is)) in
    record {
      is_open = award-open c.args.board.now c.open_batch.new.self c.args.brief.now c.in-Batch.batch c.in-Err.batch c.requires.may opened
          c.in-Err.ensures.same_batch;
    }

pub returns-in-Ok-clause-added : goal.returns-in-Ok-clause-added
returns-in-Ok-clause-added c =
    let opened : IsOpened c.args.board.now c.args.brief.now c.open_batch.new.self c.in-Batch.batch
    = opened-award c.args.board.now c.ask.new.board c.open_batch.new.self c.args.brief.now c.items.result.now c.in_ok-batch.field-0
    c.in-Batch.batch c.requires.may c.items.ensures c.in_ok-ask.ensures.others c.in_ok-ask.ensures.asked c.in_ok-batch.ensures.opening
    c.in-Batch.is c.in_ok-batch.ensures.others (c.in_ok-batch.ensures.entry c.in-Batch.batch (ap Ok c.in-Batch.is)) in
    let legal : IsLegalBoard c.open_batch.new.self = record { begins = c.entries-history.ensures.start; legal = c.entries-history.ensures.legal } in
    let commit : IsCommitOf c.args.board.now c.open_batch.new.self c.args.brief.now c.in-Batch.batch c.args.board.now.start.roads c.in-Ok.solved = record {
      may = c.requires.may;
      opened = opened;
      legal = legal;
      roads_are = ap (λ (t : State). t.roads) opened.awarding.start;
      batch_is = c.in-Ok.ensures.batch;
      table = subst (IsTableOf c.args.board.now.start.roads c.in-Batch.batch) (sym c.in-Ok.ensures.table)
          (award-table c.args.board.now c.open_batch.new.self c.args.brief.now c.in-Batch.batch c.args.table opened c.requires.table);
      certified = c.in-Ok.ensures.certified;
      seats = c.in-Ok.ensures.seats;
      prices = c.in-Ok.ensures.prices;
      pays = c.in-Ok.ensures.pays;
    } in
    commit-adds c.args.board.now c.open_batch.new.self c.commit.new.self c.args.brief.now c.in-Batch.batch c.args.board.now.start.roads c.in-Ok.solved commit
    c.commit.ensures.others c.commit.ensures.entry

pub returns-in-Ok-clause-idle : goal.returns-in-Ok-clause-idle
returns-in-Ok-clause-idle c =
    let opened : IsOpened c.args.board.now c.args.brief.now c.open_batch.new.self c.in-Batch.batch
    = opened-award c.args.board.now c.ask.new.board c.open_batch.new.self c.args.brief.now c.items.result.now c.in_ok-batch.field-0
    c.in-Batch.batch c.requires.may c.items.ensures c.in_ok-ask.ensures.others c.in_ok-ask.ensures.asked c.in_ok-batch.ensures.opening
    c.in-Batch.is c.in_ok-batch.ensures.others (c.in_ok-batch.ensures.entry c.in-Batch.batch (ap Ok c.in-Batch.is)) in
    let legal : IsLegalBoard c.open_batch.new.self = record { begins = c.entries-history.ensures.start; legal = c.entries-history.ensures.legal } in
    let commit : IsCommitOf c.args.board.now c.open_batch.new.self c.args.brief.now c.in-Batch.batch c.args.board.now.start.roads c.in-Ok.solved = record {
      may = c.requires.may;
      opened = opened;
      legal = legal;
      roads_are = ap (λ (t : State). t.roads) opened.awarding.start;
      batch_is = c.in-Ok.ensures.batch;
      table = subst (IsTableOf c.args.board.now.start.roads c.in-Batch.batch) (sym c.in-Ok.ensures.table)
          (award-table c.args.board.now c.open_batch.new.self c.args.brief.now c.in-Batch.batch c.args.table opened c.requires.table);
      certified = c.in-Ok.ensures.certified;
      seats = c.in-Ok.ensures.seats;
      prices = c.in-Ok.ensures.prices;
      pays = c.in-Ok.ensures.pays;
    } in
    commit-idle c.args.board.now c.open_batch.new.self c.commit.new.self c.args.brief.now c.in-Batch.batch c.args.board.now.start.roads c.in-Ok.solved commit
    c.commit.ensures.others c.commit.ensures.entry

pub returns-in-Err-clause-part : goal.returns-in-Err-clause-part
returns-in-Err-clause-part c =
    let opened : IsOpened c.args.board.now c.args.brief.now c.open_batch.new.self c.in-Batch.batch
    = opened-award c.args.board.now c.ask.new.board c.open_batch.new.self c.args.brief.now c.items.result.now c.in_ok-batch.field-0
    c.in-Batch.batch c.requires.may c.items.ensures c.in_ok-ask.ensures.others c.in_ok-ask.ensures.asked c.in_ok-batch.ensures.opening
    c.in-Batch.is c.in_ok-batch.ensures.others (c.in_ok-batch.ensures.entry c.in-Batch.batch (ap Ok c.in-Batch.is)) in
    let (part, none_open) = gives-up c.args.board.now c.open_batch.new.self c.abandon.new.self c.args.brief.now.wins opened.awarding
    c.requires.may.idle.none_open (ap (λ (b : Recorded). b.start) c.abandon.ensures.others)
    (c.abandon.ensures.entry ∙ ap (λ b. c.open_batch.new.self.history ++ abandoned_entry b ∷ []) (c.in-Err.ensures.same_batch ∙ opened.batch_is)) in
    part

pub returns-in-Err-clause-none_open : goal.returns-in-Err-clause-none_open
returns-in-Err-clause-none_open c =
    let opened : IsOpened c.args.board.now c.args.brief.now c.open_batch.new.self c.in-Batch.batch
    = opened-award c.args.board.now c.ask.new.board c.open_batch.new.self c.args.brief.now c.items.result.now c.in_ok-batch.field-0
    c.in-Batch.batch c.requires.may c.items.ensures c.in_ok-ask.ensures.others c.in_ok-ask.ensures.asked c.in_ok-batch.ensures.opening
    c.in-Batch.is c.in_ok-batch.ensures.others (c.in_ok-batch.ensures.entry c.in-Batch.batch (ap Ok c.in-Batch.is)) in
    let (part, none_open) = gives-up c.args.board.now c.open_batch.new.self c.abandon.new.self c.args.brief.now.wins opened.awarding
    c.requires.may.idle.none_open (ap (λ (b : Recorded). b.start) c.abandon.ensures.others)
    (c.abandon.ensures.entry ∙ ap (λ b. c.open_batch.new.self.history ++ abandoned_entry b ∷ []) (c.in-Err.ensures.same_batch ∙ opened.batch_is)) in
    none_open
