-- What a desk gets that asks for a batch, and the batch that it has open.
use Rattle.std.specs.Prelude.{◌≡◌, Some, IsNone}
use Rattle.ride_model.specs.Batch.{next_batch}
use Rattle.ride_model.specs.Seating.{BatchCopy}
use Rattle.ride_model.specs.State.{open_batch_of, open_batch_numbered}
use Rattle.batch_commit.specs.inner.Table.{IsPriceable}
use Rattle.board_core.specs.declared.opening.Opening.{Opening}
use Rattle.board_core.specs.declared.opening.Opening.TheVariants.{Batch, Idle, Ended}
use Rattle.board_core.specs.inner.Opening.{opening_at}
use Rattle.board_core.specs.Recorded.{opened_entry}
use Rattle.fleet_board.specs.inner.Passes.{Known, root_of, seen_state, state_before, desk_of, AddsNone, AddsEntry}

-- the desk of the pass has no batch open
abbrev pub HasNoneOpen : Known → Type 0
HasNoneOpen k = IsNone (open_batch_of (seen_state k) (desk_of k))

-- the desk of the pass has this batch open, with just these requests and copies
pub record HasOpen (k : Known) (batch : BatchCopy) : Type 0 where
  pub of_desk : batch.desk ≡ desk_of k
  pub is_open : open_batch_numbered (seen_state k) batch.desk batch.number ≡ Some batch

-- the desk opened a batch: that of the state before its entry, copies of all vehicles included
pub record OpensBatch (old new : Known) (batch : BatchCopy) : Type 0 where
  pub entry : AddsEntry old new (opened_entry batch)
  pub copied : batch ≡ next_batch (state_before new) (desk_of new)
  pub open_now : HasOpen new batch
  pub priceable : IsPriceable (root_of new).start.roads batch

-- the desk opened none, since none was to be opened at what the pass has now seen
pub record OpensNone (old new : Known) (opening : Opening) : Type 0 where
  pub none : AddsNone old new
  pub none_open : HasNoneOpen new
  pub told : opening ≡ opening_at (root_of new).feeds (seen_state new) (desk_of new)

-- what the desk got
abbrev pub Opens : Known → Known → Opening → Type 0
Opens old new (Batch batch) = OpensBatch old new batch
Opens old new Idle = OpensNone old new Idle
Opens old new Ended = OpensNone old new Ended
