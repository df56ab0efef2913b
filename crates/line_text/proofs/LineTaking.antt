-- The lines of a feed as they are taken, and the text that they give.
use Rattle.line_text.proofs.Common.{◌≡◌, ℕ, ◌+◌, ◌-◌, ◌^◌, ◌<◌, ◌≤◌, min, true, false, List, [], ◌∷◌, ◌++◌, Option, Some, None, Ok, Err, sym, subst, ◌∙◌, arith, ended_lines, Limits, Unfinished, End, ReadStop, ReaderState, HasGiven, HasPut, OutputState, Puts}
unfoldable use Rattle.line_text.specs.Lines.{ended_after}
use Rattle.line_text.specs.declared.line_reader.stops.Stop.{Stop}
use Rattle.line_text.specs.declared.line_reader.stops.Stop.TheVariants.{NoMemory, OfFeed}
use Rattle.line_text.specs.inner.Taking.{TakesOneMore, TakesUntil}
use Rattle.line_text.specs.inner.line_reader.FeedRuns.{HasRun, IsBetween}
use Rattle.line_text.proofs.line_reader.FeedLines.{Follows, HasCome, between-none, run-sink_failed}
use Rattle.line_text.proofs.text_page.OutputLemmas.{put-added, put-same, put-two, puts-none}

-- the number of a line that came is that of the lines before it, and one more
pub number-is : (number n limit most : ℕ) → number ≡ min (n + 1) (2 ^ 64 - 1) → n < limit → limit ≤ most → most < 2 ^ 64
    → number ≡ n + 1
number-is number n limit most is few within small = is ∙ least (n + 1) (omega arith)
  where
    least : (m : ℕ) → m ≤ 2 ^ 64 - 1 → min m (2 ^ 64 - 1) ≡ m
    least m few = omega arith

pub few-of : (number n limit most : ℕ) → number ≡ n + 1 → n < limit → limit ≤ most → number ≤ most
few-of number n limit most is few within = omega arith

module _ {L : Type 0} (takes : L → List (List ℕ) → List ℕ → L → Type 0) (first : L) (limits : Limits) (feed was : Option (List ℕ)) (k : ℕ)
    (fresh : OutputState) where
  -- between two lines: those so far were taken, and their text was put
  pub record SoFar (left : Option (List ℕ)) (reader : ReaderState) (now : Option (List ℕ)) (n : ℕ) (output : OutputState) (taker : L) : Type 0 where
    pub bytes : List ℕ
    pub text : List ℕ
    pub between : IsBetween feed left reader bytes
    pub taken : takes first (ended_lines bytes) text taker
    pub put : Puts was k fresh now n output text

  -- no more lines are taken
  abbrev pub HasEnded : Option (List ℕ) → Option Stop → Option (List ℕ) → ℕ → OutputState → L → Type 0
  HasEnded left stop now n output taker = (taken : List ℕ) × (lines : List (List ℕ)) × (text : List ℕ)
      × HasRun limits feed left stop output.failed taken lines × TakesUntil takes first lines text stop taker × Puts was k fresh now n output text

  -- what is written changes neither
  pub so-written : (left now later : Option (List ℕ)) (n m : ℕ) (reader : ReaderState) (output after : OutputState) (taker : L)
      → ((before : Option (List ℕ)) (faults : ℕ) (text : List ℕ) → HasPut before now faults n output text → HasPut before later faults m after text)
      → SoFar left reader now n output taker → SoFar left reader later m after taker
  so-written left now later n m reader output after taker put so = record {
    bytes = so.bytes;
    text = so.text;
    between = so.between;
    taken = so.taken;
    put = λ before faults earlier had. put before faults (earlier ++ so.text) (so.put before faults earlier had);
  }

  -- the text of one more line
  puts-line : (now : Option (List ℕ)) (n : ℕ) (output after : OutputState) (text more : List ℕ) → output.failed ≡ false
      → after.failed ≡ output.failed → after.page ≡ output.page ++ more → Puts was k fresh now n output text → Puts was k fresh now n after (text ++ more)
  puts-line now n output after text more stands same page put before faults earlier had =
      put-two before now faults n after earlier text more
      (put-added before now faults n output after (earlier ++ text) more stands (same ∙ stands) page (put before faults earlier had))

  -- the sink failed
  pub ends-failed : (left now : Option (List ℕ)) (n : ℕ) (reader : ReaderState) (output : OutputState) (taker : L) → output.failed ≡ true
      → SoFar left reader now n output taker → HasEnded left None now n output taker
  ends-failed left now n reader output taker fell so = (
    so.bytes ++ reader.pending,
    ended_lines so.bytes,
    so.text,
    run-sink_failed limits feed left reader output.failed so.bytes so.between fell,
    so.taken,
    so.put,
  )

  module _ (left later now : Option (List ℕ)) (n : ℕ) (old reader : ReaderState) (output : OutputState) (taker : L) (so : SoFar left old now n output taker)
      (came : List ℕ) where
    -- the feed has no more lines, or is stopped
    pub ends-whole : Follows limits feed later reader so.bytes came (Ok End) → HasEnded later None now n output taker
    ends-whole run = (so.bytes ++ came, ended_lines so.bytes, so.text, run output.failed, so.taken, so.put)

    pub ends-stopped : (stop : ReadStop) → Follows limits feed later reader so.bytes came (Err stop)
        → HasEnded later (Some (OfFeed stop)) now n output taker
    ends-stopped stop run = (so.bytes ++ came, ended_lines so.bytes, so.text, run output.failed, so.taken, so.put)

    module _ (after : OutputState) (same : after.failed ≡ output.failed) where
      -- memory is wanting for a line
      pub ends-wanting : (line : List ℕ) (new : L) → HasCome limits feed later reader so.bytes came line → after.page ≡ output.page
          → HasEnded later (Some NoMemory) now n after new
      ends-wanting line new come page = (
        so.bytes ++ came,
        ended_lines so.bytes,
        so.text,
        come.wanting after.failed,
        (taker, so.taken),
        λ before faults earlier had. put-same before now faults n output after (earlier ++ so.text) page same (so.put before faults earlier had),
      )

      -- the last line was taken
      pub ends-last : (new : L) → output.failed ≡ false → Follows limits feed later reader so.bytes came (Ok Unfinished)
          → TakesOneMore takes first (ended_lines so.bytes) so.text came output.page after.page new → HasEnded later None now n after new
      ends-last new stands (come, run) (more, page, taken) = (
        so.bytes ++ came,
        ended_lines so.bytes ++ came ∷ [],
        so.text ++ more,
        run after.failed,
        taken,
        puts-line now n output after so.text more stands same page so.put,
      )

      -- one more line was taken
      pub goes-on : (line : List ℕ) (new : L) → output.failed ≡ false → IsBetween feed later reader (so.bytes ++ line ++ 10 ∷ [])
          → ended_lines (so.bytes ++ line ++ 10 ∷ []) ≡ ended_lines so.bytes ++ line ∷ []
          → TakesOneMore takes first (ended_lines so.bytes) so.text line output.page after.page new → SoFar later reader now n after new
      goes-on line new stands on lines_are (more, page, taken) = record {
        bytes = so.bytes ++ line ++ 10 ∷ [];
        text = so.text ++ more;
        between = on;
        taken = subst (λ (ls : List (List ℕ)). takes first ls (so.text ++ more) new) (sym lines_are) taken;
        put = puts-line now n output after so.text more stands same page so.put;
      }

-- before the first line
pub so-first : {L : Type 0} (takes : L → List (List ℕ) → List ℕ → L → Type 0) (first taker : L) (feed now : Option (List ℕ)) (n : ℕ) (output : OutputState)
    (limits : Limits) (reader : ReaderState) → HasGiven reader [] → reader.pending ≡ [] → takes first [] [] taker
    → SoFar takes first limits feed now n output feed reader now n output taker
unfolding ended_after
so-first takes first taker feed now n output limits reader given bare taken = record {
  bytes = [];
  text = [];
  between = between-none feed reader given bare;
  taken = taken;
  put = puts-none now n output;
}

-- whatever stopped the feed, the lines were taken
pub takes-last : {L : Type 0} (takes : L → List (List ℕ) → List ℕ → L → Type 0) (first : L) (lines : List (List ℕ)) (text : List ℕ) (stop : Option Stop) (now : L)
    → TakesUntil takes first lines text stop now → (last : L) × takes first lines text last
takes-last takes first lines text None now taken = (now, taken)
takes-last takes first lines text (Some NoMemory) now taken = taken
takes-last takes first lines text (Some (OfFeed stop)) now taken = (now, taken)
