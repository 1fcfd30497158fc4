use Rattle.std.proofs.Common.{Err, ap, refl, inl, inr}
use Rattle.program_end.specs.declared.status.Status.TheVariants as status
use Rattle.journal_commands.specs.Views.{Output, output_of}
use Rattle.journal_commands.proofs.ShowLemmas.{listed_ends}
use Rattle.journal_commands.proofs.keys.show_desk.Goals as goal

pub returns-in-Ok : goal.returns-in-Ok
returns-in-Ok g c =
    let before : Output = output_of g.O.Sink.held g.O.Sink.faults c.args.out.now in
    let now : Output = output_of g.O.Sink.held g.O.Sink.faults c.show_keys.new.out in
    record { ends = listed_ends g.D.Disk.moment g.D.Disk.leaves g.D.Disk.faults c.args.desk.now c.keys.new.self c.in-Keys.listed before now status.Done c.in-Keys.ensures (inl (refl, rw c.as_slice.ensures at c.in-Ok.ensures.shown)) }

pub returns-in-Err-Memory : goal.returns-in-Err-Memory
returns-in-Err-Memory g c =
    let before : Output = output_of g.O.Sink.held g.O.Sink.faults c.args.out.now in
    let now : Output = output_of g.O.Sink.held g.O.Sink.faults c.show_keys.new.out in
    record { ends = listed_ends g.D.Disk.moment g.D.Disk.leaves g.D.Disk.faults c.args.desk.now c.keys.new.self c.in-Keys.listed before now status.OutOfMemory c.in-Keys.ensures (inr (tt, rw c.as_slice.ensures at c.in-Err-Memory.ensures.part)) }

pub returns : goal.returns
returns g c =
    let before : Output = output_of g.O.Sink.held g.O.Sink.faults c.args.out.now in
    let now : Output = output_of g.O.Sink.held g.O.Sink.faults c.show_keys.new.out in
    record { ends = listed_ends g.D.Disk.moment g.D.Disk.leaves g.D.Disk.faults c.args.desk.now c.keys.new.self c.in-Keys.listed before now status.WriteFault c.in-Keys.ensures (inr (c.in-Err-Write.ensures.write (ap Err c.in-Err-Write.field-0-is), rw c.as_slice.ensures at c.in-Err-Write.ensures.part)) }
