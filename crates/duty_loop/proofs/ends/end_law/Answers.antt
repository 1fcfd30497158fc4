use Rattle.duty_loop.proofs.EndLemmas.{disk_end, no_memory_end, path_later, write_end}
use Rattle.duty_loop.proofs.ends.end_law.Goals as goal

pub returns : goal.returns
returns g c = record {
  write = write_end g.K.DeskCalls.leads;
  disk = disk_end;
  no_memory = no_memory_end;
  later = path_later g.K.DeskCalls.leads;
}
