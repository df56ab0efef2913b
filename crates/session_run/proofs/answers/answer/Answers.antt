use Rattle.session_run.proofs.Common.{◌≡◌, ℕ, true, false, [], Some, refl, ap, sym, subst, ◌∙◌, arith, IfOk-weaker, on_err_weaker, Recorded, state_of, fed_entry, AddsSheets, is_whole, sheets_in, RunsBatch, Answers, Stops, is_asked}
use Rattle.session_run.proofs.CommitSheets.{adds-none, adds-then}
use Rattle.session_run.proofs.Answering.{answers-others, asks, asks-stops, answers-ask, not_asked}
use Rattle.session_run.proofs.answers.answer.Goals as goal
use Rattle.session_run.proofs.answers.answer.Goals.{in-Asked, in_default}

pub run_batch-requires-clause-asked : goal.run_batch-requires-clause-asked
run_batch-requires-clause-asked g c κs a =
    let accepted : is_asked c.in_ok-reply.reply ≡ true =
    elim c.match-matches.branch [ in-Asked w ↦ ap is_asked w.in-Asked.is | in_default w ↦ absurd (cc (sym w.matches-is ∙ c.if-matches.true)) ] in
    asks c.args.board.now c.apply.new.self c.args.command.now c.requires.session
    (ap (λ (b : Recorded). b.start) c.apply.ensures.others) (ap (λ (b : Recorded). b.feeds) c.apply.ensures.others)
    (ap (λ (b : Recorded). b.desks) c.apply.ensures.others) c.in_ok-reply.ensures.entry (ap is_asked (sym c.in_ok-reply.ensures.reply) ∙ accepted)
    c.requires.all_opened

pub returns-clause-answered : goal.returns-clause-answered
returns-clause-answered g c =
    let refused : is_asked c.in_ok-reply.reply ≡ false =
    elim c.match-matches.branch [ in-Asked w ↦ absurd (cc (sym w.matches-is ∙ c.if-matches.false)) | in_default w ↦ not_asked c.in_ok-reply.reply w.in_default.not-Asked ] in
    answers-others c.args.board.now c.apply.new.self c.args.command.now c.requires.session
    (ap (λ (b : Recorded). b.start) c.apply.ensures.others) (ap (λ (b : Recorded). b.feeds) c.apply.ensures.others)
    (ap (λ (b : Recorded). b.desks) c.apply.ensures.others) c.in_ok-reply.ensures.entry (ap is_asked (sym c.in_ok-reply.ensures.reply) ∙ refused)
    c.requires.all_opened

pub returns-then-matches-clause-answered : goal.returns-then-matches-clause-answered
returns-then-matches-clause-answered g c =
    let accepted : is_asked c.in_ok-reply.reply ≡ true =
    elim c.match-matches.branch [ in-Asked w ↦ ap is_asked w.in-Asked.is | in_default w ↦ absurd (cc (sym w.matches-is ∙ c.if-matches.true)) ] in
    IfOk-weaker c.run_batch.result (λ answered. RunsBatch (is_whole answered) c.apply.new.self c.run_batch.new.board)
    (λ answered. Answers (is_whole answered) c.args.command.now c.args.board.now c.run_batch.new.board)
    (λ answered ran. answers-ask c.args.board.now c.apply.new.self c.args.command.now c.requires.session
    (ap (λ (b : Recorded). b.start) c.apply.ensures.others) (ap (λ (b : Recorded). b.feeds) c.apply.ensures.others)
    (ap (λ (b : Recorded). b.desks) c.apply.ensures.others) c.in_ok-reply.ensures.entry (is_whole answered) c.run_batch.new.board
    (ap is_asked (sym c.in_ok-reply.ensures.reply) ∙ accepted) ran)
    c.run_batch.ensures.ran

pub returns-then-matches-clause-stopped : goal.returns-then-matches-clause-stopped
returns-then-matches-clause-stopped g c =
    on_err_weaker c.run_batch.result
    (λ (same : c.run_batch.new.board ≡ c.apply.new.self). subst (λ (b : Recorded). Stops c.args.command.now c.args.board.now b) (sym same)
    (asks-stops c.args.board.now c.apply.new.self c.args.command.now c.requires.session
    (ap (λ (b : Recorded). b.start) c.apply.ensures.others) (ap (λ (b : Recorded). b.feeds) c.apply.ensures.others)
    (ap (λ (b : Recorded). b.desks) c.apply.ensures.others) c.in_ok-reply.ensures.entry))
    c.run_batch.ensures.no_memory

pub apply-requires-clause-feed : goal.apply-requires-clause-feed
apply-requires-clause-feed g c = (omega arith, c.entries-entries.ensures.text.feeds_number.0)

-- the sheets of a history that goes on by an answer, and then by a batch
pub returns-clause-sheets : goal.returns-clause-sheets
returns-clause-sheets g c whole r given =
    adds-none r c.args.board.now c.apply.new.self (fed_entry (state_of c.args.board.now) 1 c.args.command.now)
    (ap (λ (b : Recorded). b.start) c.apply.ensures.others) c.in_ok-reply.ensures.entry (λ before. refl)

pub returns-then-matches-clause-sheets : goal.returns-then-matches-clause-sheets
returns-then-matches-clause-sheets g c =
    IfOk-weaker c.run_batch.result (λ answered. is_whole answered ≡ true
    → (r : ℕ) → c.args.reach ≡ Some r → AddsSheets r (sheets_in answered) c.apply.new.self c.run_batch.new.board)
    (λ answered. is_whole answered ≡ true
    → (r : ℕ) → c.args.reach ≡ Some r → AddsSheets r (sheets_in answered) c.args.board.now c.run_batch.new.board)
    (λ answered more whole r given.
    adds-then r [] (sheets_in answered) c.args.board.now c.apply.new.self c.run_batch.new.board
    (adds-none r c.args.board.now c.apply.new.self (fed_entry (state_of c.args.board.now) 1 c.args.command.now)
    (ap (λ (b : Recorded). b.start) c.apply.ensures.others) c.in_ok-reply.ensures.entry (λ before. refl))
    (more whole r given))
    c.run_batch.ensures.sheets
