use denote.Param.{param}
use denote.Exit.{no}
use denote.Param.Send.{param_send, arg_send}
use Rattle.std.proofs.Common.{◌≡◌, ◌<◌, ℕ, List, [], ◌++◌, Some, get_or, length, map, refl, sym, ap, ◌∙◌, subst, arith}
use Rattle.std.proofs.lemmas.List.{get_or-map, length-map}
use Rattle.std.proofs.lemmas.Option.{slice_get-get_or}
use Rattle.desk_lock.specs.Passes.{made}
use Rattle.desk_machine.specs.declared.call.DeskCall.{DeskCall}
use Rattle.desk_machine.specs.declared.call.DeskReply.{DeskReply}
use Rattle.client_calls.specs.Seats.{Seat, SignerSeen, at_seat, signer_seen}
use Rattle.desk_seat.proofs.Crosses.{seated_send}
use Rattle.desk_seat.specs.declared.seated.Seated.{Seated}
use Rattle.desk_seat.specs.SeatLaws.{grows_more, grows_none}
use Rattle.desk_seat.specs.Seats.{DeskPass, Grows, IsDeskPass, SharedDesk}
use Rattle.keymanager_api.specs.Doors.{link_seen}
use Rattle.door_lanes.specs.Doors.{DoorSeen, door_seen}
use Rattle.door_lanes.specs.Runs.{Served}
use Rattle.door_lanes.proofs.ListLemmas.{map_twice}
use Rattle.proxy_api.specs.Attending.{Terms, terms_of}
use Rattle.proxy_api.specs.declared.servant.ProxyServant.{ProxyServant}
use Rattle.proxy_api.proofs.servant.ProxyServant.TheSendSync as servant
use Rattle.proxy_lanes.specs.Lanes.{AttendsBy, Calls, Grew, LaneSeen, idle_lanes}
use Rattle.proxy_lanes.specs.Seating.{AreNew, HaveMade}
use Rattle.proxy_lanes.specs.declared.seats.Place.{Place}
use Rattle.proxy_lanes.proofs.LaneLemmas.{lane_of, served_led, served_seen}
use Rattle.proxy_lanes.proofs.PassLemmas.{have_made, idle_of, served_long}
use Rattle.proxy_lanes.proofs.run.serve_seated.Goals as goal

pub take_seats-requires-clause-passes : goal.take_seats-requires-clause-passes
take_seats-requires-clause-passes g c κs within = λ k d lt.
    let f = λ (place : Place (DeskPass g.row.D.Denot) g.row.S.Denot). place.pass in
    let long = length-map c.args.places.items f in
    (c.requires.places k (get_or c.args.places.items k d).pass (slice_get-get_or (map f c.args.places.items) k d.pass (omega (arith, lt, long)) ∙ ap Some (get_or-map f c.args.places.items k d d.pass lt))).0

pub serve_door-ended-requires-send-V : goal.serve_door-ended-requires-send-V
serve_door-ended-requires-send-V g c κs within =
    param_send 2 _ (arg_send _ no _ (servant.the_send _ _ (param 2 g.row.S) (param 3 g.row.C)
    (seated_send _ (param 1 g.row.D) (param 0 g.row.X) g.D.Disk c.type_bounds.send-D c.type_bounds.sync-X) c.type_bounds.send-S c.type_bounds.sync-C))

pub leave_seats-requires-clause-room : goal.leave_seats-requires-clause-room
leave_seats-requires-clause-room g c κs within =
    let D : Type 0 = g.row.D.Denot in
    let V : Type 0 = ProxyServant (Seated D g.row.X.Denot) g.row.S.Denot g.row.C.Denot in
    let vs : List V = c.take_seats.new.servants.items in
    let ws : List V = c.serve_door-ended.result.2.items in
    let long : length ws ≡ length vs = served_long _ _ _ _ vs ws _ c.serve_door-ended.ensures.served in
    let same = ap (λ (l : List (DeskPass D)). length l) c.take_seats.ensures.passes in
    let one = length-map vs (λ (v : V). v.desk.pass) in
    let two = length-map c.args.places.items (λ (place : Place (DeskPass D) g.row.S.Denot). place.pass) in
    let passes = c.requires.passes.1 in
    let signers = c.requires.signers.1 in
    (omega (arith, long, same, one, two, passes), omega (arith, long, same, one, two, signers))

pub returns : goal.returns
returns g c =
    let D : Type 0 = g.row.D.Denot in
    let S : Type 0 = g.row.S.Denot in
    let K : Type 0 = Seated D g.row.X.Denot in
    let V : Type 0 = ProxyServant K S g.row.C.Denot in
    let L : Type 0 = Place (DeskPass D) S in
    let moment = g.D.Disk.moment in
    let leaves = g.D.Disk.leaves in
    let faults = g.D.Disk.faults in
    let shared : SharedDesk D = c.args.shared.now in
    let leads : K → List (DeskCall × DeskReply) → K → Type 0 = λ s xs t. (t.shared ≡ s.shared) × Grows s.pass xs t.pass in
    let none : (d : K) → leads d [] d = λ d. (refl, grows_none d.pass) in
    let more : (d e f : K) (xs ys : List (DeskCall × DeskReply)) → leads d xs e → leads e ys f → leads d (xs ++ ys) f = λ d e f xs ys p q. (q.0 ∙ p.0, grows_more d.pass e.pass f.pass xs ys p.1 q.1) in
    let view : K → Calls = λ s. made s.pass in
    let is : (a b : K) (xs : Calls) → leads a xs b → Grew (view a) xs (view b) = λ a b xs p. p.1.made_is in
    let shows : S → SignerSeen = signer_seen g.S.Signer.told g.S.Signer.faults g.S.Signer.denials in
    let see = link_seen g.R.Conn.Link.left g.R.Conn.Link.held g.R.Conn.Link.faults in
    let terms : V → Terms = λ v. terms_of (g.C.Clock.start v.clock.now) v.token.now v.genesis v.genesis_time in
    let p : Terms = terms_of (g.C.Clock.start c.args.clock.now) c.args.wanted.token.now c.args.wanted.genesis c.args.wanted.genesis_time in
    let seat : V → Seat K = λ v. at_seat v.desk (shows v.signer) in
    let seen = door_seen g.R.Door.coming g.R.Door.finished g.R.Door.lent g.R.Door.faults in
    let before : DoorSeen g.row.R-Conn.Denot = seen c.args.door in
    let now : DoorSeen g.row.R-Conn.Denot = seen c.serve_door-ended.result.1 in
    let result = c.serve_door-ended.result.0 in
    let vs : List V = c.take_seats.new.servants.items in
    let ws : List V = c.serve_door-ended.result.2.items in
    let e = c.take_seats.ensures in
    let f : V → DeskPass D = λ v. v.desk.pass in
    let h : L → DeskPass D = λ place. place.pass in
    let places : List L = c.args.places.items in
    let new : AreNew moment leaves faults shared 0 (map f vs) = subst (λ (l : List (DeskPass D)). AreNew moment leaves faults shared 0 l) (sym e.passes) c.requires.places in
    let led = served_led leads view is see terms seat none more c.args.wanted.connections before now vs ws result c.serve_door-ended.ensures.served in
    let long : length ws ≡ length vs = led.0 in
    let ready : (k : ℕ) (d : V) → k < length ws → IsDeskPass moment leaves faults shared (f (get_or ws k d)) = λ k d lt.
    let below : k < length vs = omega (arith, lt, long) in
    subst (λ (s : SharedDesk D). IsDeskPass moment leaves faults s (f (get_or ws k d))) (ap (λ x. x.now) (led.1 k d below).1.0 ∙ e.shared k d below) (c.serve_door-ended.ensures.ready k d lt) in
    let have : HaveMade moment leaves faults shared (map (λ (w : V). made (f w)) ws) (map f ws) =
    have_made moment leaves faults f shared vs ws new long (λ k d lt. ((led.1 k d lt).0, (led.1 k d lt).1.1)) ready in
    let lanes : List LaneSeen = map (lane_of leads view is see terms seat) ws in
    let served = served_seen leads view is see terms seat p c.args.wanted.connections before now vs ws result e.terms c.serve_door-ended.ensures.served in
    let idle : map (lane_of leads view is see terms seat) vs ≡ idle_lanes (map shows (map (λ (place : L). place.signer) places)) =
    idle_of view seat shows (λ (v : V). v.signer) (λ v. refl) moment leaves faults shared f (λ v. refl) vs new ∙ ap (λ (l : List S). idle_lanes (map shows l)) e.signers in
    let calls : map (λ (lane : LaneSeen). lane.desk) lanes ≡ map (λ (w : V). made (f w)) ws = map_twice (lane_of leads view is see terms seat) (λ (lane : LaneSeen). lane.desk) ws in
    let signers : map (λ (lane : LaneSeen). lane.signer) lanes ≡ map shows c.leave_seats.new.signers.items =
    map_twice (lane_of leads view is see terms seat) (λ (lane : LaneSeen). lane.signer) ws ∙ sym (map_twice (λ (w : V). w.signer) shows ws) ∙ ap (map shows) (sym c.leave_seats.ensures.signers) in
    record {
      lanes = lanes;
      served = subst (λ (l : List LaneSeen). Served (AttendsBy see p) c.args.wanted.connections before now l lanes result) idle served;
      signers = signers;
      made_are = subst (λ (ps : List (DeskPass D)). HaveMade moment leaves faults shared (map (λ (lane : LaneSeen). lane.desk) lanes) ps) (sym c.leave_seats.ensures.passes)
          (subst (λ (cs : List Calls). HaveMade moment leaves faults shared cs (map f ws)) (sym calls) have);
    }
