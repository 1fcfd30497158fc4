use Rattle.std.proofs.Common.{◌≡◌, length}
use Rattle.rehearsal.specs.Rehearsals.{empty}
use Rattle.rehearsal.specs.Stages.{Stands}
use Rattle.rehearsal.proofs.cast.Cast.new.Given as goal

abbrev pub invariant-clients : goal.invariant-clients
invariant-clients l = record { count : length l.clients.items ≡ l._made; stands : Stands l.clients.items empty }
