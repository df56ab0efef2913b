use Rattle.session_loops.proofs.Common.{◌≡◌, List, length, take, sym, ◌∙◌, arith, vec_len, eqb-true, Entry, entry_lines, knowledge, adds_none-then}
use Rattle.session_loops.proofs.Scribing.{cut-short, has-scribed, has-scribed-some, looks-of, never_whole, next-lines, next-within, none-next, scribing-on, scribing-still, scribing-told}
use Rattle.session_loops.proofs.scribes.scribe_loop.Goals as goal

pub put_tail-requires-clause-have_lines : goal.put_tail-requires-clause-have_lines
put_tail-requires-clause-have_lines g c κs within =
    let found = looks-of (knowledge c.looks.pass) (knowledge c.next_tail.new.pass) c.looks.entries c.as_slice.result.now c.in-Ok-next_tail.tail.entries.items
    c.in-Ok-next_tail.count c.next_tail.ensures.none c.as_slice.ensures.value c.in-Ok-next_tail.ensures.entries c.in-Ok-next_tail.ensures.count in
    next-lines c.args.log c.looks.entries c.as_slice.result.now (knowledge c.args.pass.now) (knowledge c.next_tail.new.pass)
    (adds_none-then (knowledge c.args.pass.now) (knowledge c.looks.pass) (knowledge c.next_tail.new.pass) c.looks.invariant.scribing.none
    c.next_tail.ensures.none) c.requires.log c.next_tail.ensures.point found.items_are

pub looks-preserved : goal.looks-preserved
looks-preserved g c =
    let found = looks-of (knowledge c.looks.pass) (knowledge c.next_tail.new.pass) c.looks.entries c.as_slice.result.now c.in-Ok-next_tail.tail.entries.items
    c.in-Ok-next_tail.count c.next_tail.ensures.none c.as_slice.ensures.value c.in-Ok-next_tail.ensures.entries c.in-Ok-next_tail.ensures.count in
    record {
      pass = c.next_tail.ensures.pass;
      point = c.next_tail.ensures.point;
      scribing = scribing-on c.args.log (knowledge c.args.pass.now) (knowledge c.looks.pass) (knowledge c.next_tail.new.pass)
          (g.K.Sink.written c.args.out.now) (g.K.Sink.written c.looks.out) (g.K.Sink.written c.put_tail.new.out) (g.K.Sink.faults c.args.out.now)
          (g.K.Sink.faults c.looks.out) (g.K.Sink.faults c.put_tail.new.out) c.looks.output c.put_tail.new.output c.looks.entries
          c.in-Ok-next_tail.count c.as_slice.result.now c.looks.invariant.scribing found c.put_tail.ensures.logged
          (sym c.failed.ensures ∙ c.if-failed.false);
    }

pub returns-then-failed : goal.returns-then-failed
returns-then-failed g c =
    let found = looks-of (knowledge c.looks.pass) (knowledge c.next_tail.new.pass) c.looks.entries c.as_slice.result.now c.in-Ok-next_tail.tail.entries.items
    c.in-Ok-next_tail.count c.next_tail.ensures.none c.as_slice.ensures.value c.in-Ok-next_tail.ensures.entries c.in-Ok-next_tail.ensures.count in
    let told = scribing-told c.args.log (knowledge c.args.pass.now) (knowledge c.looks.pass) (knowledge c.next_tail.new.pass)
    (g.K.Sink.written c.args.out.now) (g.K.Sink.written c.looks.out) (g.K.Sink.written c.put_tail.new.out) (g.K.Sink.faults c.args.out.now)
    (g.K.Sink.faults c.looks.out) (g.K.Sink.faults c.put_tail.new.out) c.looks.output c.put_tail.new.output c.looks.entries c.in-Ok-next_tail.count
    c.as_slice.result.now c.looks.invariant.scribing found c.put_tail.ensures.logged in
    let fell = sym c.failed.ensures ∙ c.if-failed.true in
    record {
      pass = c.next_tail.ensures.pass;
      point = c.next_tail.ensures.point;
      none = adds_none-then (knowledge c.args.pass.now) (knowledge c.looks.pass) (knowledge c.next_tail.new.pass) c.looks.invariant.scribing.none
          c.next_tail.ensures.none;
      written = tt;
      whole = tt;
      prefix = has-scribed-some _ _ _ _ _ _ _ _ fell told;
      sink_faults = rw fell at told.faults;
    }

pub returns-then-tail : goal.returns-then-tail
returns-then-tail g c =
    let found = looks-of (knowledge c.looks.pass) (knowledge c.next_tail.new.pass) c.looks.entries c.as_slice.result.now c.in-Ok-next_tail.tail.entries.items
    c.in-Ok-next_tail.count c.next_tail.ensures.none c.as_slice.ensures.value c.in-Ok-next_tail.ensures.entries c.in-Ok-next_tail.ensures.count in
    let told = scribing-told c.args.log (knowledge c.args.pass.now) (knowledge c.looks.pass) (knowledge c.next_tail.new.pass)
    (g.K.Sink.written c.args.out.now) (g.K.Sink.written c.looks.out) (g.K.Sink.written c.put_tail.new.out) (g.K.Sink.faults c.args.out.now)
    (g.K.Sink.faults c.looks.out) (g.K.Sink.faults c.put_tail.new.out) c.looks.output c.put_tail.new.output c.looks.entries c.in-Ok-next_tail.count
    c.as_slice.result.now c.looks.invariant.scribing found c.put_tail.ensures.logged in
    let stands = sym c.failed.ensures ∙ c.if-failed.false in
    let no_item : length c.as_slice.result.now ≡ 0 = omega (arith, eqb-true (vec_len c.in-Ok-next_tail.tail.entries) 0 (sym c.is_empty.ensures ∙ c.if-is_empty.true), c.as_slice.ensures.len) in
    let within = next-within (knowledge c.looks.pass) (knowledge c.next_tail.new.pass) c.looks.entries c.as_slice.result.now c.in-Ok-next_tail.count
    found c.looks.invariant.scribing.within in
    record {
      pass = c.next_tail.ensures.pass;
      point = c.next_tail.ensures.point;
      none = adds_none-then (knowledge c.args.pass.now) (knowledge c.looks.pass) (knowledge c.next_tail.new.pass) c.looks.invariant.scribing.none
          c.next_tail.ensures.none;
      written = has-scribed _ _ _ _ _ _ _ _ within stands (c.put_tail.ensures.caught_up (omega (arith, no_item)) stands) told;
      whole = λ _. (
        none-next (knowledge c.looks.pass) (knowledge c.next_tail.new.pass) c.looks.entries c.as_slice.result.now c.in-Ok-next_tail.count
            found c.looks.invariant.scribing.within no_item,
        sym c.in-Ok-next_tail.ensures.settled ∙ c.if-tail.true,
      );
      prefix = tt;
      sink_faults = rw stands at told.faults;
    }

pub returns-in_default-next_tail : goal.returns-in_default-next_tail
returns-in_default-next_tail g c =
    let seen : List Entry = (knowledge c.next_tail.new.pass).seen in
    let s = scribing-still c.args.log (knowledge c.args.pass.now) (knowledge c.looks.pass) (knowledge c.next_tail.new.pass)
    (g.K.Sink.written c.args.out.now) (g.K.Sink.written c.looks.out) (g.K.Sink.faults c.args.out.now) (g.K.Sink.faults c.looks.out) c.looks.output
    c.looks.entries c.looks.invariant.scribing c.next_tail.ensures.none in
    let has = c.written_out.ensures.logged (g.K.Sink.written c.args.out.now) (g.K.Sink.faults c.args.out.now)
    (entry_lines c.args.log (take c.looks.entries seen)) s.logged in
    let cut = cut-short c.args.log (g.K.Sink.written c.args.out.now) (g.K.Sink.written c.written_out.new.out) (g.K.Sink.faults c.args.out.now)
    (g.K.Sink.faults c.written_out.new.out) c.written_out.new.output c.looks.entries seen c.written_out.result s.within has
    c.written_out.ensures.nothing_left c.written_out.ensures.failed c.written_out.ensures.scribed in
    record {
      pass = c.next_tail.ensures.pass;
      point = c.next_tail.ensures.point;
      none = s.none;
      written = cut.written;
      whole = never_whole c.written_out.result _ cut.not_whole;
      prefix = cut.prefix;
      sink_faults = cut.faults_kept;
    }
