-- The passes of a board that was shared when something had happened on it: an actor that has not ended may go on, and a desk has
-- the batch open that it had.
use Rattle.fleet_board.proofs.Common.{◌≡◌, ℕ, ◌-◌, ◌≤◌, Some, sym, subst, IsFalse, Feed, Desk, IsNumbered, BatchCopy, has_ended, open_batch_numbered, Recorded, state_of, HasOpen, Known, IsDesk, IsFeed, newcomer}

module _ (board : Recorded) (n : ℕ) (k : Known) (new : k ≡ newcomer board n) where
  -- a feed that has not ended
  pub standing-feed : IsNumbered board.feeds n → IsFalse (has_ended (state_of board) (Feed n)) → IsFeed k
  standing-feed numbered lives = subst IsFeed (sym new) (record { numbered = numbered; not_ended = lives })

  -- a desk that has not ended
  pub standing-desk : 3 ≤ n → IsNumbered board.desks (n - 2) → IsFalse (has_ended (state_of board) (Desk (n - 2))) → IsDesk k
  standing-desk above numbered lives = subst IsDesk (sym new) (record { above_feeds = above; numbered = numbered; not_ended = lives })

  -- a desk's open batch
  pub standing-open : (batch : BatchCopy) → batch.desk ≡ n - 2 → open_batch_numbered (state_of board) batch.desk batch.number ≡ Some batch
      → HasOpen k batch
  standing-open batch of_desk is = subst (λ j. HasOpen j batch) (sym new) (record { of_desk = of_desk; is_open = is })
