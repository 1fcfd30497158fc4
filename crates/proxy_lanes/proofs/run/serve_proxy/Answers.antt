use Rattle.std.proofs.Common.{◌≡◌, ℕ, List, Err, length, map, ap, ◌∙◌, subst, sym, arith}
use Rattle.std.proofs.lemmas.Grind.{common_steps}
use Rattle.std.proofs.lemmas.List.{length-map}
use Rattle.check_sign.specs.Contents.{Seen}
use Rattle.desk_lock.specs.Sharing.{given_of, opening, passes_of}
use Rattle.desk_seat.specs.Seats.{DeskPass, SharedDesk}
use Rattle.desk_seat.specs.Turns.{Served}
use Rattle.client_calls.specs.Seats.{SignerSeen, signer_seen}
use Rattle.door_lanes.specs.Doors.{DoorSeen, door_seen}
use Rattle.door_lanes.specs.declared.lanes.LoopEnd.TheVariants as loop
use Rattle.keymanager_api.specs.Doors.{link_seen}
use Rattle.proxy_api.specs.Attending.{Terms, terms_of}
use Rattle.proxy_lanes.specs.Lanes.{ProxyRan, signers_seen}
use Rattle.proxy_lanes.specs.Seating.{AreNew, RanSeated}
use Rattle.proxy_lanes.specs.declared.seats.Place.{Place}
use Rattle.proxy_lanes.proofs.PassLemmas.{lanes_count, nothing_served, proxy_ran}
use Rattle.proxy_lanes.proofs.run.serve_proxy.Goals as goal

pub serve_seated-ended-requires-clause-places : goal.serve_seated-ended-requires-clause-places
serve_seated-ended-requires-clause-places g c κs within =
    let none : given_of c.in-Ok-lend.owner ≡ 0 = grind (arith, common_steps) in
    subst (λ (n : ℕ). AreNew g.D.Disk.moment g.D.Disk.leaves g.D.Disk.faults c.give_passes.new.owner.shared n (map (λ (place : Place (DeskPass g.row.D.Denot) g.row.S.Denot). place.pass) c.give_passes.new.places.items)) none c.give_passes.ensures.new

pub take_back-requires-clause-all : goal.take_back-requires-clause-all
take_back-requires-clause-all g c =
    let ran = c.serve_seated-ended.ensures in
    let lent : passes_of c.in-Ok-lend.owner ≡ length c.args.signers.items = grind (arith, common_steps) in
    let same : passes_of c.give_passes.new.owner ≡ passes_of c.in-Ok-lend.owner = c.give_passes.ensures.same.1 in
    let made = ran.made_are.count in
    let long = lanes_count _ _ _ _ _ _ _ _ _ _ _ _ _ ran in
    let shown = length-map (map (λ (place : Place (DeskPass g.row.D.Denot) g.row.S.Denot). place.signer) c.give_passes.new.places.items) (signer_seen g.S.Signer.told g.S.Signer.faults g.S.Signer.denials) in
    let given = ap (λ (l : List g.row.S.Denot). length l) c.give_passes.ensures.signers in
    (omega (arith, lent, same, made, long, given, shown), λ k p e. let at = ran.made_are.each k p e in (at.0, at.1))

pub returns-in_default : goal.returns-in_default
returns-in_default g c =
    nothing_served g.D.Disk.moment g.D.Disk.leaves g.D.Disk.faults (link_seen g.R.Conn.Link.left g.R.Conn.Link.held g.R.Conn.Link.faults) _ _ c.args.desk
    (signers_seen g.S.Signer.told g.S.Signer.faults g.S.Signer.denials c.args.signers.items) (door_seen g.R.Door.coming g.R.Door.finished g.R.Door.lent g.R.Door.faults c.args.door)

pub returns-in_default-with_capacity : goal.returns-in_default-with_capacity
returns-in_default-with_capacity g c =
    nothing_served g.D.Disk.moment g.D.Disk.leaves g.D.Disk.faults (link_seen g.R.Conn.Link.left g.R.Conn.Link.held g.R.Conn.Link.faults) _ _ c.args.desk
    (signers_seen g.S.Signer.told g.S.Signer.faults g.S.Signer.denials c.args.signers.items) (door_seen g.R.Door.coming g.R.Door.finished g.R.Door.lent g.R.Door.faults c.args.door)

pub returns-in-Err : goal.returns-in-Err
returns-in-Err g c =
    let moment = g.D.Disk.moment in
    let leaves = g.D.Disk.leaves in
    let faults = g.D.Disk.faults in
    let see = link_seen g.R.Conn.Link.left g.R.Conn.Link.held g.R.Conn.Link.faults in
    let w = c.args.wanted in
    let terms : Terms = terms_of (g.C.Clock.start c.args.clock.now) w.token.now w.genesis w.genesis_time in
    let signers : List SignerSeen = signers_seen g.S.Signer.told g.S.Signer.faults g.S.Signer.denials c.args.signers.items in
    let door : DoorSeen g.row.R-Conn.Denot = door_seen g.R.Door.coming g.R.Door.finished g.R.Door.lent g.R.Door.faults c.args.door in
    let same : c.in-Err.desk ≡ c.args.desk = grind (arith, common_steps) in
    subst (λ (d : Seen g.row.D.Denot). ProxyRan moment leaves faults see terms w.connections c.args.desk d signers signers door door (Err loop.Memory)) (sym same)
    (nothing_served moment leaves faults see terms w.connections c.args.desk signers door)

pub returns : goal.returns
returns g c =
    let moment = g.D.Disk.moment in
    let leaves = g.D.Disk.leaves in
    let faults = g.D.Disk.faults in
    let S : Type 0 = g.row.S.Denot in
    let see = link_seen g.R.Conn.Link.left g.R.Conn.Link.held g.R.Conn.Link.faults in
    let w = c.args.wanted in
    let terms : Terms = terms_of (g.C.Clock.start c.args.clock.now) w.token.now w.genesis w.genesis_time in
    let shown : List S → List SignerSeen = λ l. signers_seen g.S.Signer.told g.S.Signer.faults g.S.Signer.denials l in
    let seen = door_seen g.R.Door.coming g.R.Door.finished g.R.Door.lent g.R.Door.faults in
    let before : DoorSeen g.row.R-Conn.Denot = seen c.args.door in
    let now : DoorSeen g.row.R-Conn.Denot = seen c.serve_seated-ended.result.1 in
    let result = c.serve_seated-ended.result.0 in
    let shared : SharedDesk g.row.D.Denot = c.give_passes.new.owner.shared in
    let passes : List (DeskPass g.row.D.Denot) = c.serve_seated-ended.new.passes.items in
    let left : List SignerSeen = shown c.serve_seated-ended.new.signers.items in
    let ran : RanSeated moment leaves faults shared see terms w.connections (shown c.args.signers.items) left before now passes result =
    subst (λ (l : List S). RanSeated moment leaves faults shared see terms w.connections (shown l) left before now passes result) c.give_passes.ensures.signers c.serve_seated-ended.ensures in
    let lent : opening c.in-Ok-lend.owner.shared ≡ c.args.desk = grind (arith, common_steps) in
    let opened : opening shared ≡ c.args.desk = ap (λ s. opening s) c.give_passes.ensures.same.0 ∙ lent in
    let served = subst (λ (d : Seen g.row.D.Denot). Served moment leaves faults d passes c.take_back.result) opened c.take_back.ensures in
    proxy_ran moment leaves faults see terms w.connections shared (shown c.args.signers.items) left before now passes result ran c.args.desk c.take_back.result served
