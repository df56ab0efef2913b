-- What a session's status tells of what was wanting.
use Rattle.model_laws.proofs.Common.{◌≡◌, ◌⊎◌, inl, inr, ℕ, ◌≤◌, ◌+◌, true, false, List, length, Option, Some, refl, ap, sym, subst, ◌∙◌, arith, length-append}
use Rattle.ride_ports.proofs.ByteLemmas.{Reads-told}
use Rattle.ride_ports.specs.Bytes.{Reads}
use Rattle.ride_ports.specs.Status.{status_of as status_ran}
use Rattle.ride_ports.specs.declared.outcome.Ran.{Ran}
use Rattle.line_text.proofs.LineLemmas.{lines-grow}
use Rattle.line_text.specs.Lines.{lines_of}
use Rattle.line_text.specs.declared.line_reader.limits.Limits.{Limits}
use Rattle.line_text.specs.line_reader.FeedRuns.{IsReadWhole}
use Rattle.line_text.specs.line_reader.Limits.{IsTooLong, IsWithinLimits}

-- what a session's status may be
pub ran-status : (ran : Ran) → (status_ran ran ≡ 0) ⊎ (status_ran ran ≡ 1) ⊎ (status_ran ran ≡ 5) ⊎ (status_ran ran ≡ 6) ⊎ (status_ran ran ≡ 8)
ran-status ran = grind arith

-- none of these was wanting
pub record NoneWanting (ran : Ran) : Type 0 where
  pub sink : ran.sink_failed ≡ false
  pub memory : ran.no_memory ≡ false
  pub read : IsReadWhole ran

-- a whole session
pub whole-status : (ran : Ran) → status_ran ran ≡ 0 → NoneWanting ran
whole-status ran zero = record { sink = grind arith; memory = grind arith; read = (grind arith, grind arith) }

pub none-status : (ran : Ran) → NoneWanting ran → status_ran ran ≡ 0
none-status ran none = rw (none.sink, none.memory, none.read.0, none.read.1) refl

-- a session whose source, or whose sink, failed, or whose feed was too long
pub source-status : (ran : Ran) → status_ran ran ≡ 5 → ran.source_failed ≡ true
source-status ran five = grind arith

pub sink-status : (ran : Ran) → status_ran ran ≡ 6 → ran.sink_failed ≡ true
sink-status ran six = grind arith

pub long-status : (ran : Ran) → status_ran ran ≡ 8 → (ran.no_memory ≡ false) × (ran.too_long ≡ true)
long-status ran eight = (grind arith, grind arith)

-- bytes within the limits do not begin with too many
pub within-not-long : (limits : Limits) (bytes taken : List ℕ) (left : Option (List ℕ)) → IsWithinLimits limits bytes → Reads (Some bytes) left taken
    → IsTooLong limits taken → ⊥
within-not-long limits bytes taken left within reads long =
    let (rest, is, all) = Reads-told bytes reads refl in
    let size : length bytes ≡ length taken + length rest = ap length all ∙ length-append taken rest in
    let lines : length (lines_of taken) ≤ length (lines_of bytes) = subst (λ (l : List ℕ). length (lines_of taken) ≤ length (lines_of l)) (sym all) (lines-grow taken rest) in
    elim long [
      | inl bytes_many ↦ omega (arith, within.few_bytes, size, bytes_many)
      | inr lines_many ↦ omega (arith, within.few_lines, lines, lines_many)
    ]
