use Rattle.session_loops.proofs.Common.{◌≡◌, ap, sym, ◌∙◌, Recorded, knowledge, OpensBatch, OpensNone, Known, desk-may_end, root-stays}
use Rattle.board_core.specs.declared.opening.Opening.TheVariants.{Idle}
use Rattle.session_loops.proofs.BatchRuns.{batches-none, batch-then, batches-same, batches-wanting}
use Rattle.session_loops.proofs.MadeEntries.{root-added}
use Rattle.session_loops.proofs.desks.run_batches.Goals as goal

-- none was opened yet
pub batches-init : goal.batches-init
batches-init g c = record {
  goes = tt;
  finite = tt;
  desk = c.requires.desk;
  roads = c.requires.roads;
  ran = batches-none (knowledge c.args.pass.now);
}

-- one batch more was closed
pub batches-preserved-in-Ok-Batch : goal.batches-preserved-in-Ok-Batch
batches-preserved-in-Ok-Batch g c =
    let before : Known = knowledge c.batches.pass in
    let opened : Known = knowledge c.open_batch.new.pass in
    let after : Known = knowledge c.close_batch.new.pass in
    let opens : OpensBatch before opened c.in-Ok-Batch.batch = rw c.in-Ok-Batch.field-0-is at c.in-Ok-Batch.ensures.opening in
    let closes = c.close_batch.ensures.closed in
    record {
      goes = tt;
      finite = tt;
      desk = c.close_batch.ensures.desk;
      roads = ap (λ (r : Recorded). r.start.roads) (root-added opened after closes.entry closes.adds ∙ root-added before opened _ opens.entry)
          ∙ c.batches.invariant.roads ∙ sym c.close_batch.ensures.pricer;
      ran = batch-then c.batches.no_memory c.close_batch.result (knowledge c.args.pass.now) before opened after c.in-Ok-Batch.batch
          c.batches.invariant.ran opens closes;
    }

-- none was opened
pub batches-preserved : goal.batches-preserved
batches-preserved g c =
    let before : Known = knowledge c.batches.pass in
    let looked : Known = knowledge c.open_batch.new.pass in
    let none : OpensNone before looked Idle = rw c.in-Ok-Idle.field-0-is at c.in-Ok-Idle.ensures.opening in
    record {
      goes = tt;
      finite = tt;
      desk = record {
        may_use = c.open_batch.ensures.pass;
        point = c.open_batch.ensures.point;
        desk = c.open_batch.ensures.desk;
        none_open = none.none_open;
      };
      roads = ap (λ (r : Recorded). r.start.roads) (root-stays before looked none.none) ∙ c.batches.invariant.roads;
      ran = batches-same c.batches.no_memory (knowledge c.args.pass.now) before looked c.batches.invariant.ran none.none;
    }

pub returns-in-Ok-Ended-clause-may_end : goal.returns-in-Ok-Ended-clause-may_end
returns-in-Ok-Ended-clause-may_end g c =
    desk-may_end (knowledge c.batches.pass) (knowledge c.open_batch.new.pass) c.open_batch.ensures.point c.open_batch.ensures.desk
    (rw c.in-Ok-Ended.field-0-is at c.in-Ok-Ended.ensures.opening)

pub returns-in-Err-clause-ran : goal.returns-in-Err-clause-ran
returns-in-Err-clause-ran g c =
    batches-wanting c.batches.no_memory (knowledge c.args.pass.now) (knowledge c.open_batch.new.pass)
    (batches-same c.batches.no_memory (knowledge c.args.pass.now) (knowledge c.batches.pass) (knowledge c.open_batch.new.pass)
    c.batches.invariant.ran c.in-Err.ensures.no_memory)
