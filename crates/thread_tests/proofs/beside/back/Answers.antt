use Rattle.std.proofs.Common.{◌≡◌, ℕ}
use Rattle.desk_lock.specs.Passes.{number}
use Rattle.desk_seat.specs.Seats.{DeskPass, IsDeskPass}
use Rattle.thread_tests.proofs.PassLemmas.{of_two}
use Rattle.thread_tests.proofs.beside.back.Goals as goal

pub take_back-requires-clause-all : goal.take_back-requires-clause-all
take_back-requires-clause-all g c =
    let P : DeskPass g.row.D.Denot → ℕ → Type 0 = λ p k. IsDeskPass g.D.Disk.moment g.D.Disk.leaves g.D.Disk.faults c.args.owner.shared p × (number p ≡ k) in
    of_two P c.args.owner.passes c.in_ok-passes.passes.items c.push_reserved.new.self.items c.push_reserved-2.new.self.items c.args.one c.args.other
    c.requires.given.0 c.in_ok-passes.ensures.items c.push_reserved.ensures.items c.push_reserved-2.ensures.items c.requires.one c.requires.other
