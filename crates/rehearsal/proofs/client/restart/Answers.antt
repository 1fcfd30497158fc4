use Rattle.std.proofs.Common.{subst}
use Rattle.edge_kit.specs.OnMemDisks.{Leaves}
use Rattle.edge_kit.specs.declared.disk.Disks.{Disks}
use Rattle.edge_kit.specs.declared.mem_disk.MemDisk.{MemDisk}
use Rattle.rehearsal.proofs.GoLemmas.{if_ok}
use Rattle.rehearsal.proofs.OpenLemmas.{restarts}
use Rattle.rehearsal.proofs.client.restart.Goals as goal

pub returns : goal.returns
returns c =
    let a = c.in_ok-first.first.items in
    let b = c.in_ok-second.second.items in
    let A : Disks MemDisk → Type 0 = λ d. Leaves d.first a in
    let B : Disks MemDisk → Type 0 = λ d. Leaves d.second b in
    let left = subst A c.end-disks.ensures.disks c.in_ok-first.ensures.left in
    let left_too = subst B c.end-disks.ensures.disks c.in_ok-second.ensures.left in
    if_ok _ _ c.open.result (λ new opens chain. restarts (a, b) c.args.now c.args.desk.contents new.contents chain (λ state stands. c.end-disks.ensures.left state stands a b left left_too) opens) c.open.ensures
