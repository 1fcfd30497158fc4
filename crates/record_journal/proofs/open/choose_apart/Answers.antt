use Rattle.std.proofs.Common.{◌⊎◌}
use Rattle.edge_kit.specs.Causes.{Rose}
use Rattle.record_journal.proofs.Opening.{fault_refused, refused_not_disk, err_is, chosen_file, chosen_of, read_of}
use Rattle.record_journal.proofs.open.choose_apart.Goals as goal

pub decide-requires-clause-one : goal.decide-requires-clause-one
decide-requires-clause-one g c = (c.in-Ok.ensures.first_seen.bytes, c.in-Ok.ensures.first_seen.holds)

pub decide-requires-clause-other : goal.decide-requires-clause-other
decide-requires-clause-other g c = (c.in-Ok.ensures.second_seen.bytes, c.in-Ok.ensures.second_seen.holds)

pub returns-in-Err-decide-clause-fault : goal.returns-in-Err-decide-clause-fault
returns-in-Err-decide-clause-fault g c =
    fault_refused g.D.Disk.shows g.D.Disk.moment g.D.Disk.leaves c.args.root.now c.args.first.now c.args.second.now c.in-Ok.found.0 c.in-Ok.found.1 c.in-Err-decide.fault c.in-Ok.ensures.first_seen c.in-Ok.ensures.second_seen c.in-Err-decide.ensures.fault

pub returns-in-Err-decide-clause-cause : goal.returns-in-Err-decide-clause-cause
returns-in-Err-decide-clause-cause g c =
    let r = c.in-Ok.ensures.first_seen in
    let s = c.in-Ok.ensures.second_seen in
    λ e. absurd {A = Rose (g.D.Disk.faults c.args.first.now) (g.D.Disk.faults c.see_apart.new.first) ⊎ Rose (g.D.Disk.faults c.args.second.now) (g.D.Disk.faults c.see_apart.new.second)} (refused_not_disk c.args.root.now r.bytes s.bytes c.in-Err-decide.fault (c.in-Err-decide.ensures.fault r.bytes s.bytes r.holds s.holds) (err_is _ _ e))

pub returns-clause-first_chosen : goal.returns-clause-first_chosen
returns-clause-first_chosen g c = chosen_of g.D.Disk.shows g.D.Disk.moment g.D.Disk.leaves c.args.root.now c.see_apart.new.first _ _ c.in-Ok.ensures.first_found c.in-Ok-decide.ensures.first

pub returns-clause-second_chosen : goal.returns-clause-second_chosen
returns-clause-second_chosen g c = chosen_of g.D.Disk.shows g.D.Disk.moment g.D.Disk.leaves c.args.root.now c.see_apart.new.second _ _ c.in-Ok.ensures.second_found c.in-Ok-decide.ensures.second

pub returns-clause-first_read : goal.returns-clause-first_read
returns-clause-first_read g c = read_of g.D.Disk.shows g.D.Disk.moment g.D.Disk.leaves c.args.root.now c.args.first.now _ _ c.in-Ok.ensures.first_seen c.in-Ok-decide.ensures.first

pub returns-clause-second_read : goal.returns-clause-second_read
returns-clause-second_read g c = read_of g.D.Disk.shows g.D.Disk.moment g.D.Disk.leaves c.args.root.now c.args.second.now _ _ c.in-Ok.ensures.second_seen c.in-Ok-decide.ensures.second

pub reader_at-reader-requires : goal.reader_at-reader-requires
reader_at-reader-requires g c =
    chosen_file c.args.root.now c.in-Ok.found.0 c.in-Ok.found.1 c.in-Ok.found.3.items c.in-Ok.found.2 c.in-Ok-decide.choice c.in-Ok-decide.ensures.first c.in-Ok-decide.ensures.second c.in-Ok.ensures.bytes
