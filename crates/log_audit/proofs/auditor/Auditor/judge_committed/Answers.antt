use Rattle.log_audit.proofs.Common.{◌≡◌, [], ◌∷◌, ◌++◌, Some, refl, sym, ◌∙◌, ap, subst, Entry, IsRoadMap, RoadMap, IsBatchOver, open_batch_numbered, IsPriceable, IsTableOf, Recorded, state_of, committed_entry, Auditor, Outcomes, Prices, Seating, AreOpen}
use Rattle.log_audit.proofs.SaidCommits.{Said, SolvedFacts, said_entry, seats-wrong, seats-right, prices-wrong, prices-right, solved-facts, outcomes-wrong}
use Rattle.log_audit.proofs.Judged.{auditing-on, judged, uncommitted}
use Rattle.log_audit.proofs.OpenOnes.{OpenOne, open-one, open-committed}
use Rattle.log_audit.proofs.auditor.Auditor.judge_committed.Goals as goal

pub price_batch_by-requires-clause-priceable : goal.price_batch_by-requires-clause-priceable
price_batch_by-requires-clause-priceable g c = λ κs within.
    let one = open-one c.args.self.now.board c.args.desk c.args.commit.number c.in-Some.batch c.entries-history.ensures.start
    c.entries-history.ensures.legal (sym (sym c.in-Some.is ∙ c.take_numbered.ensures.batch)) in
    subst (λ (r : RoadMap). IsPriceable r c.in-Some.batch)
    (sym (ap (λ (a : Auditor). a.pricing) c.take_numbered.ensures.left ∙ c.requires.auditing.roads_are)) one.priceable

pub seated-requires-clause-priceable : goal.seated-requires-clause-priceable
seated-requires-clause-priceable g c =
    let one = open-one c.args.self.now.board c.args.desk c.args.commit.number c.in-Some.batch c.entries-history.ensures.start
    c.entries-history.ensures.legal (sym (sym c.in-Some.is ∙ c.take_numbered.ensures.batch)) in
    subst (λ (r : RoadMap). IsPriceable r c.in-Some.batch)
    (sym (c.in_ok-priced.ensures.pricer ∙ ap (λ (a : Auditor). a.pricing) c.take_numbered.ensures.left ∙ c.requires.auditing.roads_are)) one.priceable

pub seated-requires-clause-table : goal.seated-requires-clause-table
seated-requires-clause-table g c =
    subst (λ (r : RoadMap). IsTableOf r c.in-Some.batch c.in_ok-priced.priced) (sym c.in_ok-priced.ensures.pricer) c.in_ok-priced.ensures.table

pub returns-in_default-2 : goal.returns-in_default-2
returns-in_default-2 g c = λ outcomes is.
    let board = c.args.self.now.board in
    let commit = c.args.commit in
    let said : Said = record { number = commit.number; cost = commit.cost; seats = commit.seats; prices = commit.prices; pays = commit.pays } in
    let found = sym (sym c.in-Some.is ∙ c.take_numbered.ensures.batch) in
    let one = open-one board c.args.desk commit.number c.in-Some.batch c.entries-history.ensures.start c.entries-history.ensures.legal found in
    let taken = c.take_numbered.ensures.left in
    uncommitted c.args.self.now (record c.take_numbered.new.self { pricing = c.seated.new.pricing }) (said_entry c.args.desk said outcomes) Seating
    c.in-Some.batch c.with_batch.result c.with_batch.ensures
    (record {
      board_stays = ap (λ (a : Auditor). a.board) taken;
      pricing_stays = c.in_ok-placed.ensures.kept ∙ c.in_ok-priced.ensures.pricer ∙ ap (λ (a : Auditor). a.pricing) taken;
      log_stays = ap (λ (a : Auditor). a.log) taken;
      is_open = one.numbered;
    })
    (seats-wrong board c.args.desk said outcomes c.in-Some.batch c.price_batch_by.new.pricer c.items-seats.result.now c.in_ok-placed.field-0 found
    (one.roads_stay ∙ sym (c.in_ok-priced.ensures.pricer ∙ ap (λ (a : Auditor). a.pricing) c.take_numbered.ensures.left ∙ c.requires.auditing.roads_are))
    c.items-seats.ensures c.in_default-2.is c.in_ok-placed.ensures.seated)

pub certified-requires-clause-fits : goal.certified-requires-clause-fits
certified-requires-clause-fits g c = subst IsRoadMap (sym (c.in_ok-placed.ensures.kept ∙ c.in_ok-priced.ensures.pricer)) c.in_ok-priced.ensures.fits

pub certified-requires-clause-over_map : goal.certified-requires-clause-over_map
certified-requires-clause-over_map g c =
    let one = open-one c.args.self.now.board c.args.desk c.args.commit.number c.in-Some.batch c.entries-history.ensures.start
    c.entries-history.ensures.legal (sym (sym c.in-Some.is ∙ c.take_numbered.ensures.batch)) in
    subst (λ (r : RoadMap). IsBatchOver r c.in-Some.batch)
    (sym (c.in_ok-placed.ensures.kept ∙ c.in_ok-priced.ensures.pricer ∙ ap (λ (a : Auditor). a.pricing) c.take_numbered.ensures.left
    ∙ c.requires.auditing.roads_are)) one.priceable.over_map

pub certified-requires-clause-table : goal.certified-requires-clause-table
certified-requires-clause-table g c =
    subst (λ (r : RoadMap). IsTableOf r c.in-Some.batch c.in_ok-priced.priced) (sym (c.in_ok-placed.ensures.kept ∙ c.in_ok-priced.ensures.pricer))
    c.in_ok-priced.ensures.table

pub returns-in_default-3 : goal.returns-in_default-3
returns-in_default-3 g c = λ outcomes is.
    let board = c.args.self.now.board in
    let commit = c.args.commit in
    let said : Said = record { number = commit.number; cost = commit.cost; seats = commit.seats; prices = commit.prices; pays = commit.pays } in
    let found = sym (sym c.in-Some.is ∙ c.take_numbered.ensures.batch) in
    let one = open-one board c.args.desk commit.number c.in-Some.batch c.entries-history.ensures.start c.entries-history.ensures.legal found in
    let roads_are : (state_of board).roads ≡ c.price_batch_by.new.pricer
    = one.roads_stay ∙ sym (c.in_ok-priced.ensures.pricer ∙ ap (λ (a : Auditor). a.pricing) c.take_numbered.ensures.left ∙ c.requires.auditing.roads_are) in
    let taken = c.take_numbered.ensures.left in
    uncommitted c.args.self.now (record c.take_numbered.new.self { pricing = c.seated.new.pricing }) (said_entry c.args.desk said outcomes) Prices c.in-Some.batch c.with_batch-in_default-3.result
    c.with_batch-in_default-3.ensures
    (record {
      board_stays = ap (λ (a : Auditor). a.board) taken;
      pricing_stays = c.in_ok-placed.ensures.kept ∙ c.in_ok-priced.ensures.pricer ∙ ap (λ (a : Auditor). a.pricing) taken;
      log_stays = ap (λ (a : Auditor). a.log) taken;
      is_open = one.numbered;
    })
    (prices-wrong board c.args.desk said outcomes c.in-Some.batch c.seated.new.pricing c.in_ok-table.field-0 found
    (roads_are ∙ sym c.in_ok-placed.ensures.kept)
    (seats-right (state_of board) said c.in-Some.batch c.price_batch_by.new.pricer c.items-seats.result.now c.in_ok-placed.field-0 c.in-Some-2.placed
    roads_are c.items-seats.ensures c.in-Some-2.is c.in_ok-placed.ensures.seated)
    c.in_default-3.is c.in_ok-table.ensures)

pub commit-requires-clause-is_open : goal.commit-requires-clause-is_open
commit-requires-clause-is_open g c =
    let board = c.args.self.now.board in
    let commit = c.args.commit in
    let said : Said = record { number = commit.number; cost = commit.cost; seats = commit.seats; prices = commit.prices; pays = commit.pays } in
    let one = open-one board c.args.desk commit.number c.in-Some.batch c.entries-history.ensures.start c.entries-history.ensures.legal
    (sym (sym c.in-Some.is ∙ c.take_numbered.ensures.batch)) in
    let facts : SolvedFacts c.seated.new.pricing c.in-Some.batch said c.tie.result
    = solved-facts c.in-Some.batch said c.seated.new.pricing (c.in-Some-3.table, c.in-Some-3.answer) c.tie.result
    (prices-right c.in-Some.batch said c.seated.new.pricing c.in_ok-table.field-0 (c.in-Some-3.table, c.in-Some-3.answer) c.in-Some-3.is
    c.in_ok-table.ensures) c.tie.ensures in
    let batch_is : c.tie.result.batch ≡ c.in-Some.batch = facts.0 in
    let board_is : c.take_numbered.new.self.board ≡ board
    = ap (λ (a : Auditor). a.board) c.take_numbered.ensures.left in
    (λ i. open_batch_numbered (state_of (board_is i)) (batch_is i).desk (batch_is i).number) ∙ one.numbered ∙ sym (ap Some batch_is)

pub returns : goal.returns
returns g c = λ outcomes is.
    let old = c.args.self.now in
    let board = old.board in
    let commit = c.args.commit in
    let said : Said = record { number = commit.number; cost = commit.cost; seats = commit.seats; prices = commit.prices; pays = commit.pays } in
    let batch = c.in-Some.batch in
    let solved = c.tie.result in
    let found = sym (sym c.in-Some.is ∙ c.take_numbered.ensures.batch) in
    let one : OpenOne board c.args.desk commit.number batch
    = open-one board c.args.desk commit.number batch c.entries-history.ensures.start c.entries-history.ensures.legal found in
    let roads_are : (state_of board).roads ≡ c.price_batch_by.new.pricer
    = one.roads_stay ∙ sym (c.in_ok-priced.ensures.pricer ∙ ap (λ (a : Auditor). a.pricing) c.take_numbered.ensures.left ∙ c.requires.auditing.roads_are) in
    let facts : SolvedFacts c.seated.new.pricing batch said solved
    = solved-facts batch said c.seated.new.pricing (c.in-Some-3.table, c.in-Some-3.answer) solved
    (prices-right batch said c.seated.new.pricing c.in_ok-table.field-0 (c.in-Some-3.table, c.in-Some-3.answer) c.in-Some-3.is
    c.in_ok-table.ensures) c.tie.ensures in
    let board_is : c.take_numbered.new.self.board ≡ board
    = ap (λ (a : Auditor). a.board) c.take_numbered.ensures.left in
    let start = ap (λ (b : Recorded). b.start) c.commit.ensures.others ∙ ap (λ (b : Recorded). b.start) board_is in
    let last : Entry = committed_entry (state_of board) solved in
    let grows = c.commit.ensures.entry ∙ ap (λ (b : Recorded). b.history ++ committed_entry (state_of b) solved ∷ []) board_is in
    let batches = ap (λ (a : Auditor). a.batches) c.take_numbered.ensures.left in
    let seated = seats-right (state_of board) said batch c.price_batch_by.new.pricer c.items-seats.result.now c.in_ok-placed.field-0
    c.in-Some-2.placed roads_are c.items-seats.ensures c.in-Some-2.is c.in_ok-placed.ensures.seated in
    judged old _ _ last c.args.line.now Outcomes c.unless_told.result c.requires.auditing c.entries-history-2.ensures.text
    (record {
      grows = grows;
      start_stays = start;
      feeds_stay = ap (λ (b : Recorded). b.feeds) c.commit.ensures.others ∙ ap (λ (b : Recorded). b.feeds) board_is;
      desks_stay = ap (λ (b : Recorded). b.desks) c.commit.ensures.others ∙ ap (λ (b : Recorded). b.desks) board_is;
      auditing = auditing-on old _ c.requires.auditing start
          (c.in_ok-placed.ensures.kept ∙ c.in_ok-priced.ensures.pricer
          ∙ ap (λ (a : Auditor). a.pricing) c.take_numbered.ensures.left)
          (ap (λ (a : Auditor). a.log) c.take_numbered.ensures.left)
          (subst (AreOpen (state_of c.commit.new.self)) (sym batches)
          (open-committed board c.commit.new.self c.args.desk commit.number solved old.batches start c.requires.desk
          (subst (OpenOne board c.args.desk commit.number) (sym facts.0) one) grows c.requires.auditing.open_are));
    }) (λ went. (refl, (last, went))) is
    (c.unless_told.ensures.told board.history last grows) (c.unless_told.ensures.not_told board.history last grows)
    (outcomes-wrong board c.args.desk said outcomes batch c.seated.new.pricing solved found (roads_are ∙ sym c.in_ok-placed.ensures.kept) one.desk_is
    one.number_is seated facts)
