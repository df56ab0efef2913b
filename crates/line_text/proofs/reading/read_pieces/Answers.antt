use Rattle.line_text.proofs.Common.{◌≡◌, ◌≤◌, ◌++◌, List, ℕ, length, take, subst, arith, length-take-le, Reads-then, IsRefused}
use Rattle.line_text.proofs.ReadingLemmas.{counted-refused, full-length, goes-on}
use Rattle.line_text.proofs.reading.read_pieces.Goals as goal

pub returns-in-Err-clause-refused : goal.returns-in-Err-clause-refused
returns-in-Err-clause-refused g c e is =
    let same : c.in-Err.refusal ≡ e = cc in
    let (bytes, reads, room, read) = c.pieces.invariant.read in
    let buffer : List ℕ = c.read.new.buffer in
    let within : ℕ = c.min-within.result in
    let fits : c.in-Ok.count ≤ length buffer = c.in-Ok.ensures.room in
    let count : ℕ = c.in-Ok.count in
    let cut : length (take within buffer) ≡ within = length-take-le within buffer (omega arith) in
    let refused : IsRefused g.L.LineParser.refuses c.args.parser.now (bytes ++ take within buffer) c.in-Err.refusal =
    c.in-Err.ensures c.args.parser.now bytes read (omega (arith, c.ranges.most.fits)) in
    counted-refused g.L.LineParser.refuses c.args.parser.now c.args.most _ _ bytes buffer within count e (omega arith) fits (omega arith)
    (Reads-then reads c.in-Ok.ensures.bytes)
    (subst (λ d. IsRefused g.L.LineParser.refuses c.args.parser.now (bytes ++ take within buffer) d) same refused)

pub returns-then-count-room-clause-too_long : goal.returns-then-count-room-clause-too_long
returns-then-count-room-clause-too_long g c is =
    let (bytes, reads, room, read) = c.pieces.invariant.read in
    let buffer : List ℕ = c.read.new.buffer in
    let within : ℕ = c.min-within.result in
    let fits : c.in-Ok.count ≤ length buffer = c.in-Ok.ensures.room in
    let count : ℕ = c.in-Ok.count in
    let full : within ≡ c.pieces.room = omega arith in
    let cut : length (take within buffer) ≡ within = length-take-le within buffer (omega arith) in (
      bytes ++ take within buffer,
      full-length bytes buffer within c.args.most (omega arith) (omega arith),
      (c.in_default-take_piece.ensures c.args.parser.now bytes read (omega (arith, c.ranges.most.fits))).lines,
      goes-on _ _ bytes buffer within count (omega arith) fits (Reads-then reads c.in-Ok.ensures.bytes),
    )

pub returns-in-Err-clause-taken : goal.returns-in-Err-clause-taken
returns-in-Err-clause-taken g c =
    let (bytes, reads, room, read) = c.pieces.invariant.read in
    (bytes ++ take c.in-Ok.count c.read.new.buffer, Reads-then reads c.in-Ok.ensures.bytes)

pub returns-then-count-room-clause-taken : goal.returns-then-count-room-clause-taken
returns-then-count-room-clause-taken g c =
    let (bytes, reads, room, read) = c.pieces.invariant.read in
    (bytes ++ take c.in-Ok.count c.read.new.buffer, Reads-then reads c.in-Ok.ensures.bytes)
