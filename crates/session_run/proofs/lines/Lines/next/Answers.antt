use Rattle.std.proofs.Common.{arith, sym, subst}
use Rattle.session_run.specs.Lines.{BeginsTooLong, IsShortLine}
use Rattle.session_run.specs.Reading.{Pending, ReadsMore}
use Rattle.session_run.proofs.ReadingLemmas.{reads_on}
use Rattle.session_run.proofs.LineLemmas.{too_long, too_long_whole}
use Rattle.session_run.proofs.lines.Lines.next.Goals as goal

pub returns-then-len-gt-LINE_LIMIT-clause-line_limit : goal.returns-then-len-gt-LINE_LIMIT-clause-line_limit
returns-then-len-gt-LINE_LIMIT-clause-line_limit g c = λ e.
    let found = c.in-Some.ensures.found in
    let P : Pending → Type 0 = λ p. BeginsTooLong p.bytes in
    subst P (sym c.in-Some.ensures.same) (too_long c.reads.self.bytes c.in-Some.len c.if-len-gt-LINE_LIMIT.true (omega (arith, found.0)) found.2)

pub returns-then-len-gt-LINE_LIMIT-2-clause-line_limit : goal.returns-then-len-gt-LINE_LIMIT-2-clause-line_limit
returns-then-len-gt-LINE_LIMIT-2-clause-line_limit g c = λ e.
    let P : Pending → Type 0 = λ p. BeginsTooLong p.bytes in
    let over = rw (c.len.ensures, c.in_default.ensures.same) at c.if-len-gt-LINE_LIMIT-2.true in
    subst P (sym c.in_default.ensures.same) (too_long_whole c.reads.self.bytes over c.in_default.ensures.none)

pub returns-then-self-clause-stays : goal.returns-then-self-clause-stays
returns-then-self-clause-stays g c =
    let P : Pending → Type 0 = λ p. ReadsMore (g.I.Source.left c.args.source.now) (g.I.Source.left c.reads.source) c.args.self.now p in
    let S : Pending → Type 0 = λ p. IsShortLine p.bytes in
    let within = rw (c.len.ensures, c.in_default.ensures.same) at c.if-len-gt-LINE_LIMIT-2.false in
    let short : IsShortLine c.reads.self.bytes = (c.in_default.ensures.none, omega (arith, within)) in
    reads_on (subst P (sym c.in_default.ensures.same) c.reads.invariant.reads) c.in-Ok.ensures.more (subst S (sym c.in_default.ensures.same) short)
