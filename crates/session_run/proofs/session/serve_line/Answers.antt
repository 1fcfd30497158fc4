use Rattle.std.proofs.Common.{rules}
use Rattle.session_run.proofs.ActLemmas.{none_done}
use Rattle.session_run.proofs.OnceLemmas.{within_limit, files_once}
use Rattle.session_run.proofs.ExitLemmas.{serves_ok, serves_disk, serves_write}
use Rattle.session_run.proofs.session.serve_line.Goals as goal

pub answer-requires-clause-epoch : goal.answer-requires-clause-epoch
answer-requires-clause-epoch g c = within_limit c.args.chain.now c.args.line.now c.in-Ok.read c.in-Ok.ensures

pub answer-requires-clause-once : goal.answer-requires-clause-once
answer-requires-clause-once g c = files_once c.args.chain.now c.args.line.now c.in-Ok.read c.in-Ok.ensures

pub returns-in-Ok-write_all-clause-serves : goal.returns-in-Ok-write_all-clause-serves
returns-in-Ok-write_all-clause-serves g c =
    let done = c.in-Ok-answer.ensures.done in
    serves_disk g.D.Disk.moment g.D.Disk.leaves g.D.Disk.faults c.args.line.now c.as_bytes.result.now _ _ 0 0 c.in-Ok.ensures done c.as_bytes.ensures.value c.failed.result c.in-Ok-write_all.ensures.ok c.failed.ensures c.if-failed.true

pub returns-in-Ok-2-clause-serves : goal.returns-in-Ok-2-clause-serves
returns-in-Ok-2-clause-serves g c =
    let done = c.in-Ok-answer.ensures.done in
    serves_ok g.D.Disk.moment g.D.Disk.leaves g.D.Disk.faults c.args.line.now c.as_bytes.result.now _ _ 0 0 c.in-Ok.ensures done c.as_bytes.ensures.value c.in-Ok-answer.now c.failed.result c.in-Ok-2.ensures.ok c.in-Ok-answer.ensures.latest c.in-Ok-answer.ensures.limit c.failed.ensures c.if-failed.false

pub returns-clause-serves : goal.returns-clause-serves
returns-clause-serves g c =
    let done = c.in-Ok-answer.ensures.done in
    let err = c.in-Err.ensures.err in
    serves_write g.D.Disk.moment g.D.Disk.leaves g.D.Disk.faults c.args.line.now c.as_bytes.result.now _ _ _ _ c.in-Ok.ensures done c.as_bytes.ensures.value err.0 err.1 err.2 c.in-Err.ensures.cause.failed

pub returns-in_default-clause-serves : goal.returns-in_default-clause-serves
returns-in_default-clause-serves g c = (search rules, none_done g.D.Disk.moment g.D.Disk.leaves g.D.Disk.faults _ _)
