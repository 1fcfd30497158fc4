use Rattle.std.proofs.Common.{◌≡◌, ◌∙◌, ℕ, List, Err, ap, arith, false, length, nat_eq, subst, sym, true, vec_len}
use Rattle.session_run.specs.Exits.{ServesLine}
use Rattle.session_run.proofs.EndLemmas.{so_far_none, so_far_line, counted, ends_begin, ends_done, ends_empty, ends_last, ends_line, ends_unread, ends_within}
use Rattle.session_run.proofs.session.serve_lines.Goals as goal

pub returns-in_default-clause-ends : goal.returns-in_default-clause-ends
returns-in_default-clause-ends g c = ends_begin g.D.Disk.moment g.D.Disk.leaves g.D.Disk.faults c.args.chain.now _ _ c.args.bench.now _ _ c.requires.up

pub lines-init : goal.lines-init
lines-init g c = record {
  so_far = so_far_none g.D.Disk.moment g.D.Disk.leaves g.D.Disk.faults c.args.chain.now _ c.args.bench.now _ _ c.in-Ok.ensures.bytes c.in-Ok.ensures.total c.requires.up;
  count = rw (c.in-Ok.ensures.bytes, c.in-Ok.ensures.total) (omega arith);
  within = omega (arith, c.in-Ok.ensures.total);
  latest = omega arith;
  reads = omega arith;
  writes = omega arith;
}

pub lines-preserved : goal.lines-preserved
lines-preserved g c =
    let gives = rw c.in-Ok-Line.field-0-is at c.in-Ok-Line.ensures.line in
    let served = rw c.as_slice.ensures.value at c.in-Ok-serve_line.ensures.serves in
    record {
      so_far = so_far_line g.D.Disk.moment g.D.Disk.leaves g.D.Disk.faults c.args.chain.now (g.I.Source.left c.args.input.now) (g.I.Source.left c.lines.input) (g.I.Source.left c.next.new.source) c.args.bench.now c.lines.bench c.serve_line.new.bench (g.O.Sink.held c.args.out.now) (g.O.Sink.held c.lines.out) (g.O.Sink.held c.serve_line.new.out) c.lines.lines c.next.new.self c.lines.latest c.lines.invariant.so_far c.in-Ok-Line.line c.in-Ok-serve_line.now (g.O.Sink.faults c.lines.out) (g.O.Sink.faults c.serve_line.new.out) gives served;
      count = counted c.lines.counter c.in-Ok-Line.line gives c.lines.invariant.count;
      within = gives.within;
      latest = served.4;
      reads = omega (arith, c.lines.invariant.reads, c.in-Ok-Line.ensures.later);
      writes = omega (arith, c.lines.invariant.writes, c.in-Ok-serve_line.ensures.later);
    }

pub returns-in-Err-serve_line-clause-ends : goal.returns-in-Err-serve_line-clause-ends
returns-in-Err-serve_line-clause-ends g c =
    let gives = rw c.in-Ok-Line.field-0-is at c.in-Ok-Line.ensures.line in
    let S : List ℕ → Type 0 = λ l. ServesLine g.D.Disk.moment g.D.Disk.leaves g.D.Disk.faults c.args.chain.now c.lines.latest l c.lines.bench c.serve_line.new.bench (g.O.Sink.held c.lines.out) (g.O.Sink.held c.serve_line.new.out) (g.O.Sink.faults c.lines.out) (g.O.Sink.faults c.serve_line.new.out) (Err c.in-Err-serve_line.fault) in
    let served = subst S c.as_slice.ensures.value c.in-Err-serve_line.ensures.serves in
    ends_line g.D.Disk.moment g.D.Disk.leaves g.D.Disk.faults c.args.chain.now (g.I.Source.left c.args.input.now) (g.I.Source.left c.lines.input) (g.I.Source.left c.next.new.source) c.args.bench.now c.lines.bench c.serve_line.new.bench (g.O.Sink.held c.args.out.now) (g.O.Sink.held c.lines.out) (g.O.Sink.held c.serve_line.new.out) c.lines.lines c.next.new.self c.lines.latest c.lines.invariant.so_far c.in-Ok-Line.line c.in-Err-serve_line.fault (g.O.Sink.held c.close_unserved.new.out) (g.I.Source.faults c.args.input.now) (g.I.Source.faults c.next.new.source) (g.O.Sink.faults c.args.out.now) (g.O.Sink.faults c.lines.out) (g.O.Sink.faults c.serve_line.new.out) (g.O.Sink.faults c.close_unserved.new.out) c.close_unserved.result
    gives served c.close_unserved.ensures.closes c.lines.invariant.writes c.in-Err-serve_line.ensures.later

pub returns-then-is_empty-clause-ends : goal.returns-then-is_empty-clause-ends
returns-then-is_empty-clause-ends g c =
    let gives = rw c.in-Ok-Last.field-0-is at c.in-Ok-Last.ensures.line in
    let end = c.in-Ok-Last.ensures.end (rw c.in-Ok-Last.field-0-is tt) in
    let same : length c.in-Ok-Last.line.items ≡ vec_len c.in-Ok-Last.line = omega (arith, c.in-Ok-Last.line.ok) in
    let N : ℕ → Type 0 = λ n. nat_eq n 0 ≡ true in
    ends_empty g.D.Disk.moment g.D.Disk.leaves g.D.Disk.faults c.args.chain.now (g.I.Source.left c.args.input.now) (g.I.Source.left c.lines.input) (g.I.Source.left c.next.new.source) c.args.bench.now c.lines.bench (g.O.Sink.held c.args.out.now) (g.O.Sink.held c.lines.out) c.lines.lines c.next.new.self c.lines.latest c.lines.invariant.so_far c.in-Ok-Last.line (g.I.Source.faults c.args.input.now) (g.I.Source.faults c.next.new.source) (g.O.Sink.faults c.args.out.now) (g.O.Sink.faults c.lines.out) gives end (subst N (sym same) (sym c.is_empty.ensures ∙ c.if-is_empty.true))

pub returns-in-Ok-serve_line-2-clause-ends : goal.returns-in-Ok-serve_line-2-clause-ends
returns-in-Ok-serve_line-2-clause-ends g c =
    let gives = rw c.in-Ok-Last.field-0-is at c.in-Ok-Last.ensures.line in
    let end = c.in-Ok-Last.ensures.end (rw c.in-Ok-Last.field-0-is tt) in
    let served = rw c.as_slice-in-Ok-Last.ensures.value at c.in-Ok-serve_line-2.ensures.serves in
    let same : length c.in-Ok-Last.line.items ≡ vec_len c.in-Ok-Last.line = omega (arith, c.in-Ok-Last.line.ok) in
    let N : ℕ → Type 0 = λ n. nat_eq n 0 ≡ false in
    ends_done g.D.Disk.moment g.D.Disk.leaves g.D.Disk.faults c.args.chain.now (g.I.Source.left c.args.input.now) (g.I.Source.left c.lines.input) (g.I.Source.left c.next.new.source) c.args.bench.now c.lines.bench c.serve_line-in-Ok-Last.new.bench (g.O.Sink.held c.args.out.now) (g.O.Sink.held c.lines.out) (g.O.Sink.held c.serve_line-in-Ok-Last.new.out) c.lines.lines c.next.new.self c.lines.latest c.lines.invariant.so_far c.in-Ok-Last.line c.in-Ok-serve_line-2.field-0 (g.I.Source.faults c.args.input.now) (g.I.Source.faults c.next.new.source) (g.O.Sink.faults c.args.out.now) (g.O.Sink.faults c.lines.out) (g.O.Sink.faults c.serve_line-in-Ok-Last.new.out) gives end (subst N (sym same) (sym c.is_empty.ensures ∙ c.if-is_empty.false)) served

pub returns-in-Err-serve_line-2-clause-ends : goal.returns-in-Err-serve_line-2-clause-ends
returns-in-Err-serve_line-2-clause-ends g c =
    let gives = rw c.in-Ok-Last.field-0-is at c.in-Ok-Last.ensures.line in
    let end = c.in-Ok-Last.ensures.end (rw c.in-Ok-Last.field-0-is tt) in
    let S : List ℕ → Type 0 = λ l. ServesLine g.D.Disk.moment g.D.Disk.leaves g.D.Disk.faults c.args.chain.now c.lines.latest l c.lines.bench c.serve_line-in-Ok-Last.new.bench (g.O.Sink.held c.lines.out) (g.O.Sink.held c.serve_line-in-Ok-Last.new.out) (g.O.Sink.faults c.lines.out) (g.O.Sink.faults c.serve_line-in-Ok-Last.new.out) (Err c.in-Err-serve_line-2.fault) in
    let served = subst S c.as_slice-in-Ok-Last.ensures.value c.in-Err-serve_line-2.ensures.serves in
    let same : length c.in-Ok-Last.line.items ≡ vec_len c.in-Ok-Last.line = omega (arith, c.in-Ok-Last.line.ok) in
    let N : ℕ → Type 0 = λ n. nat_eq n 0 ≡ false in
    ends_last g.D.Disk.moment g.D.Disk.leaves g.D.Disk.faults c.args.chain.now (g.I.Source.left c.args.input.now) (g.I.Source.left c.lines.input) (g.I.Source.left c.next.new.source) c.args.bench.now c.lines.bench c.serve_line-in-Ok-Last.new.bench (g.O.Sink.held c.args.out.now) (g.O.Sink.held c.lines.out) (g.O.Sink.held c.serve_line-in-Ok-Last.new.out) c.lines.lines c.next.new.self c.lines.latest c.lines.invariant.so_far c.in-Ok-Last.line c.in-Err-serve_line-2.fault (g.O.Sink.held c.close_unserved-in-Err-serve_line-2.new.out) (g.I.Source.faults c.args.input.now) (g.I.Source.faults c.next.new.source) (g.O.Sink.faults c.args.out.now) (g.O.Sink.faults c.lines.out) (g.O.Sink.faults c.serve_line-in-Ok-Last.new.out) (g.O.Sink.faults c.close_unserved-in-Err-serve_line-2.new.out) c.close_unserved-in-Err-serve_line-2.result
    gives end (subst N (sym same) (sym c.is_empty.ensures ∙ c.if-is_empty.false)) served c.close_unserved-in-Err-serve_line-2.ensures.closes c.lines.invariant.writes c.in-Err-serve_line-2.ensures.later

pub returns-in-Err-clause-ends : goal.returns-in-Err-clause-ends
returns-in-Err-clause-ends g c =
    let e = c.in-Err.ensures in
    ends_unread g.D.Disk.moment g.D.Disk.leaves g.D.Disk.faults c.args.chain.now (g.I.Source.left c.args.input.now) (g.I.Source.left c.lines.input) (g.I.Source.left c.next.new.source) c.args.bench.now c.lines.bench (g.O.Sink.held c.args.out.now) (g.O.Sink.held c.lines.out) c.lines.lines c.next.new.self c.lines.latest c.lines.invariant.so_far (g.O.Sink.held c.close_unread.new.out) (g.I.Source.faults c.args.input.now) (g.I.Source.faults c.lines.input) (g.I.Source.faults c.next.new.source) (g.O.Sink.faults c.args.out.now) (g.O.Sink.faults c.lines.out) (g.O.Sink.faults c.close_unread.new.out) c.close_unread.result
    e.stays c.lines.invariant.reads c.lines.invariant.writes c.in-Err.fault (λ q. e.no_file (ap Err q)) (λ q. e.no_keys (ap Err q)) (λ q. e.fault (ap Err q)) (λ q. e.line_limit (ap Err q)) (λ q. e.input_limit (ap Err q)) c.close_unread.ensures.closes

pub returns-in-Err-clause-within : goal.returns-in-Err-clause-within
returns-in-Err-clause-within g c = λ within l is. ends_within g.D.Disk.moment g.D.Disk.leaves g.D.Disk.faults c.args.chain.now _ _ _ _ _ (returns-in-Err-clause-ends g c) within l is
