-- Commits that were judged.
use Rattle.log_audit.proofs.Common.{◌≡◌, ℕ, List, Option, None, Some, Vec, Global, sym, ◌∙◌, ap, subst, MatchOption, Desk, Entry, Committed, Outcome, Seat, outcomes_of, RoadMap, BatchCopy, Certifies, seating_cost, State, open_batch_numbered, CertifiesOverCells, undecided, SolvedBatch, IsTableOf, Table, Recorded, state_of, committed_entry, Placed, Seating, Prices, Outcomes, ArePlaced, IsSeatedAt, IsFault}
use Rattle.batch_commit.specs.declared.answers.Answer.{Answer}
use Rattle.log_audit.proofs.Legality.{fault-seating, fault-prices, fault-outcomes}

-- what a commit says
pub record Said : Type 0 where
  pub number : ℕ
  pub cost : ℕ
  pub seats : List Seat
  pub prices : List (ℕ × ℕ)
  pub pays : List (ℕ × ℕ)

-- the entry of a commit
abbrev pub said_entry : ℕ → Said → List (ℕ × Outcome) → Entry
said_entry desk said outcomes = record { actor = Desk desk; event = Committed said.number said.cost said.seats said.prices said.pays outcomes }

-- what the answer to a seating says
abbrev pub SeatedAnswer : RoadMap → BatchCopy → List Seat → ℕ → Option (Vec Placed Global) → Type 0
SeatedAnswer roads batch seats cost o = MatchOption o (IsSeatedAt roads batch seats cost → ⊥)
    (λ placed. IsSeatedAt roads batch seats cost × ArePlaced roads batch seats placed.items)

-- the seats are no seating of this cost
pub seats-wrong : (board : Recorded) (desk : ℕ) (said : Said) (outcomes : List (ℕ × Outcome)) (batch : BatchCopy) (roads : RoadMap) (seats : List Seat)
    (o : Option (Vec Placed Global)) → open_batch_numbered (state_of board) desk said.number ≡ Some batch → (state_of board).roads ≡ roads
    → seats ≡ said.seats → o ≡ None → SeatedAnswer roads batch seats said.cost o
    → IsFault Seating board.feeds board.desks (state_of board) (Desk desk) (said_entry desk said outcomes).event
seats-wrong board desk said outcomes batch roads seats o found roads_are seats_are none answer =
    fault-seating board.feeds board.desks (state_of board) desk said.number said.cost said.seats said.prices said.pays outcomes batch found
    (λ h. subst (SeatedAnswer roads batch seats said.cost) none answer
    (subst (λ r. IsSeatedAt r batch seats said.cost) roads_are
    (subst (λ x. IsSeatedAt (state_of board).roads batch x said.cost) (sym seats_are) h)))

-- they are one
pub seats-right : (s : State) (said : Said) (batch : BatchCopy) (roads : RoadMap) (seats : List Seat)
    (o : Option (Vec Placed Global)) (placed : Vec Placed Global) → s.roads ≡ roads → seats ≡ said.seats → o ≡ Some placed
    → SeatedAnswer roads batch seats said.cost o → IsSeatedAt s.roads batch said.seats said.cost
seats-right s said batch roads seats o placed roads_are seats_are some answer =
    subst (λ r. IsSeatedAt r batch said.seats said.cost) (sym roads_are)
    (subst (λ x. IsSeatedAt roads batch x said.cost) seats_are (subst (SeatedAnswer roads batch seats said.cost) some answer).0)

-- what the answer to prices says
abbrev pub CertifiedFacts : RoadMap → BatchCopy → Said → Table × Answer → Type 0
CertifiedFacts roads batch said pair = IsTableOf roads batch pair.0
    × (pair.1 ≡ record { seating = said.seats; prices = said.prices; pays = said.pays; outcomes = undecided said.prices })
    × CertifiesOverCells batch pair.0 said.seats said.prices said.pays × Certifies roads batch said.seats said.prices said.pays

abbrev pub CertifiedAnswer : RoadMap → BatchCopy → Said → Option (Table × Answer) → Type 0
CertifiedAnswer roads batch said o = MatchOption o (Certifies roads batch said.seats said.prices said.pays → ⊥) (CertifiedFacts roads batch said)

pub prices-wrong : (board : Recorded) (desk : ℕ) (said : Said) (outcomes : List (ℕ × Outcome)) (batch : BatchCopy) (roads : RoadMap)
    (o : Option (Table × Answer)) → open_batch_numbered (state_of board) desk said.number ≡ Some batch → (state_of board).roads ≡ roads
    → IsSeatedAt (state_of board).roads batch said.seats said.cost → o ≡ None → CertifiedAnswer roads batch said o
    → IsFault Prices board.feeds board.desks (state_of board) (Desk desk) (said_entry desk said outcomes).event
prices-wrong board desk said outcomes batch roads o found roads_are seated none answer =
    fault-prices board.feeds board.desks (state_of board) desk said.number said.cost said.seats said.prices said.pays outcomes batch found seated
    (λ h. subst (CertifiedAnswer roads batch said) none answer (subst (λ r. Certifies r batch said.seats said.prices said.pays) roads_are h))

pub prices-right : (batch : BatchCopy) (said : Said) (roads : RoadMap) (o : Option (Table × Answer)) (pair : Table × Answer) → o ≡ Some pair
    → CertifiedAnswer roads batch said o → CertifiedFacts roads batch said pair
prices-right batch said roads o pair some answer = subst (CertifiedAnswer roads batch said) some answer

-- the solved batch of a commit
abbrev pub SolvedFacts : RoadMap → BatchCopy → Said → SolvedBatch → Type 0
SolvedFacts roads batch said solved = (solved.batch ≡ batch) × (solved.answer.seating ≡ said.seats) × (solved.answer.prices ≡ said.prices)
    × (solved.answer.pays ≡ said.pays) × Certifies roads batch said.seats said.prices said.pays × IsTableOf roads batch solved.table

pub solved-facts : (batch : BatchCopy) (said : Said) (roads : RoadMap) (pair : Table × Answer) (solved : SolvedBatch) → CertifiedFacts roads batch said pair
    → solved ≡ record { batch = batch; table = pair.0; answer = pair.1 } → SolvedFacts roads batch said solved
solved-facts batch said roads pair solved (of_map, answer_is, over_cells, certified) is = (
  ap (λ (s : SolvedBatch). s.batch) is,
  ap (λ (s : SolvedBatch). s.answer.seating) is ∙ ap (λ (a : Answer). a.seating) answer_is,
  ap (λ (s : SolvedBatch). s.answer.prices) is ∙ ap (λ (a : Answer). a.prices) answer_is,
  ap (λ (s : SolvedBatch). s.answer.pays) is ∙ ap (λ (a : Answer). a.pays) answer_is,
  certified,
  subst (IsTableOf roads batch) (sym (ap (λ (s : SolvedBatch). s.table) is)) of_map,
)

-- where the commit is another than the board's, its outcomes are others
pub outcomes-wrong : (board : Recorded) (desk : ℕ) (said : Said) (outcomes : List (ℕ × Outcome)) (batch : BatchCopy) (roads : RoadMap)
    (solved : SolvedBatch) → open_batch_numbered (state_of board) desk said.number ≡ Some batch → (state_of board).roads ≡ roads
    → batch.desk ≡ desk → batch.number ≡ said.number → IsSeatedAt (state_of board).roads batch said.seats said.cost
    → SolvedFacts roads batch said solved → (said_entry desk said outcomes ≡ committed_entry (state_of board) solved → ⊥)
    → IsFault Outcomes board.feeds board.desks (state_of board) (Desk desk) (said_entry desk said outcomes).event
outcomes-wrong board desk said outcomes batch roads solved found roads_are desk_is number_is seated facts differs =
    let s : State = state_of board in
    let (batch_is, seats_are, prices_are, pays_are, certified, of_map) = facts in
    let number_same : said.number ≡ solved.batch.number = sym (ap (λ (b : BatchCopy). b.number) batch_is ∙ number_is) in
    let desk_same : desk ≡ solved.batch.desk = sym (ap (λ (b : BatchCopy). b.desk) batch_is ∙ desk_is) in
    let seats_same : said.seats ≡ solved.answer.seating = sym seats_are in
    let prices_same : said.prices ≡ solved.answer.prices = sym prices_are in
    let pays_same : said.pays ≡ solved.answer.pays = sym pays_are in
    let batch_same : batch ≡ solved.batch = sym batch_is in
    let cost_same : said.cost ≡ seating_cost s.roads solved.batch solved.answer.seating
    = seated.1 ∙ (λ i. seating_cost s.roads (batch_same i) (seats_same i)) in
    fault-outcomes board.feeds board.desks s desk said.number said.cost said.seats said.prices said.pays outcomes batch found seated
    (subst (λ r. Certifies r batch said.seats said.prices said.pays) (sym roads_are) certified)
    (λ same.
    let outcomes_same : outcomes ≡ outcomes_of solved.batch solved.answer.seating s = same ∙ (λ i. outcomes_of (batch_same i) (seats_same i) s) in
    differs (λ i. record {
      actor = Desk (desk_same i);
      event = Committed (number_same i) (cost_same i) (seats_same i) (prices_same i) (pays_same i) (outcomes_same i);
    }))
