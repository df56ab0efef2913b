-- What stopped a feed.
use Rattle.session_run.proofs.Common.{◌≡◌, ℕ, Bool, false, List, [], sym, ◌∙◌, true≢false, Option, Some, None, IfSome, SourceFailed, TooLong, Recorded, Stop, NoMemory, OfFeed, is_source_failed, is_too_long, HasEnded}

-- where neither memory nor the source was wanting, and the feed was not too long, nothing is left of it
pub nothing-left : (log : ℕ) (left : Option (List ℕ)) (stop : Option Stop) (board : Recorded) (no_memory : Bool) (taken : List ℕ) → no_memory ≡ false
    → is_source_failed stop ≡ false → is_too_long stop ≡ false → HasEnded log left stop board no_memory taken → IfSome left (λ bytes. bytes ≡ [])
nothing-left log left None board no_memory taken memory sound short ended = ended.1.to_end
nothing-left log left (Some (OfFeed SourceFailed)) board no_memory taken memory sound short ended = absurd (true≢false sound)
nothing-left log left (Some (OfFeed TooLong)) board no_memory taken memory sound short ended = absurd (true≢false short)
nothing-left log left (Some NoMemory) board no_memory taken memory sound short ended = absurd (true≢false (sym ended.2 ∙ memory))
