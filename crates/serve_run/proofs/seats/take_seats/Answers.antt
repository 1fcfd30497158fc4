use Rattle.std.proofs.Common.{◌≡◌, ◌∷◌, ◌++◌, [], All, List, append_assoc, map, sym, ap, ◌∙◌, subst, arith}
use Rattle.std.proofs.lemmas.List.{map-append}
use Rattle.std.proofs.lemmas.List.Elements.{All-push}
use Rattle.desk_seat.specs.Seats.{DeskPass, IsDeskPass, SharedDesk}
use Rattle.desk_seat.specs.declared.seated.Seated.{Seated}
use Rattle.duty_workers.specs.Working.{IsReady}
use Rattle.duty_workers.specs.declared.lane.Lane.{Lane}
use Rattle.serve_run.specs.Seating.{lane_end}
use Rattle.serve_run.specs.declared.lanes.LaneEnd.{LaneEnd}
use Rattle.serve_run.proofs.ShareLemmas.{map_push, next_of}
use Rattle.serve_run.proofs.seats.take_seats.Goals as goal

pub new-requires : goal.new-requires
new-requires g c =
    let D : Type 0 = g.row.D.Denot in
    let L : Type 0 = Lane (DeskPass D) g.row.S.Denot g.row.N.Denot in
    let Is : DeskPass D → Type 0 = λ p. IsDeskPass g.D.Disk.moment g.D.Disk.leaves g.D.Disk.faults c.args.shared.now p in
    let rest : c.lanes.lane-iterator.rest.items ≡ c.in-Some.lane ∷ c.next.new.self.rest.items = c.in-Some.ensures.steps.0 in
    let at : Is c.in-Some.lane.desk = next_of (λ (l : L). Is l.desk) c.args.lanes.items c.lanes.yielded c.next.new.self.rest.items c.in-Some.lane c.requires.passes
    (ap (λ (l : List L). c.lanes.yielded ++ l) (sym rest) ∙ c.lanes.invariant.rest) in
    subst Is (sym (ap (λ t. t.0) c.into_parts-pass.ensures)) at

pub lanes-preserved : goal.lanes-preserved
lanes-preserved g c =
    let moment = g.D.Disk.moment in
    let leaves = g.D.Disk.leaves in
    let faults = g.D.Disk.faults in
    let D : Type 0 = g.row.D.Denot in
    let L : Type 0 = Lane (DeskPass D) g.row.S.Denot g.row.N.Denot in
    let X : Type 0 = Lane (Seated D g.row.T.Denot) g.row.S.Denot g.row.N.Denot in
    let E : Type 0 = LaneEnd g.row.S.Denot g.row.N.Denot in
    let i = c.lanes.invariant in
    let done : List L = c.lanes.yielded in
    let taken : L = c.in-Some.lane in
    let later = c.next.new.self.rest.items in
    let rest : c.lanes.lane-iterator.rest.items ≡ taken ∷ later = c.in-Some.ensures.steps.0 in
    let seats : List X = c.lanes.seats.items in
    let longer : List X = c.push_reserved.new.self.items in
    let seat : X = c.new-in-lanes.result in
    let items : longer ≡ seats ++ seat ∷ [] = c.push_reserved.ensures.items in
    let capacity = c.push_reserved.ensures.capacity in
    let room = i.room in
    let made = c.new-in-lanes.ensures in
    let parts = c.into_parts-pass.ensures in
    let pass : seat.desk.pass ≡ taken.desk = ap (λ (d : Seated D g.row.T.Denot). d.pass) made.0 ∙ c.new.ensures.1 ∙ ap (λ t. t.0) parts in
    let shared : seat.desk.shared.now ≡ c.args.shared.now = ap (λ (d : Seated D g.row.T.Denot). d.shared.now) made.0 ∙ ap (λ s. s.now) c.new.ensures.0 in
    let Is : SharedDesk D → DeskPass D → Type 0 = λ s p. IsDeskPass moment leaves faults s p in
    let at : Is c.args.shared.now taken.desk = next_of (λ (l : L). Is c.args.shared.now l.desk) c.args.lanes.items done later taken c.requires.passes (ap (λ (l : List L). done ++ l) (sym rest) ∙ i.rest) in
    let ready : Is seat.desk.shared.now seat.desk.pass =
    subst (λ (s : SharedDesk D). Is s seat.desk.pass) (sym shared) (subst (λ (p : DeskPass D). Is c.args.shared.now p) (sym pass) at) in
    let Shared : X → Type 0 = λ lane. lane.desk.shared.now ≡ c.args.shared.now in
    let Ready : X → Type 0 = IsReady (λ desk. IsDeskPass moment leaves faults desk.shared.now desk.pass) in
    record {
      next = tt;
      finite = tt;
      rest = append_assoc done (taken ∷ []) later ∙ ap (λ (l : List L). done ++ l) (sym rest) ∙ i.rest;
      room = omega (arith, room, capacity);
      passes = map_push (λ (lane : X). lane.desk.pass) seats longer (map (λ (lane : L). lane.desk) done) seat taken.desk i.passes items pass ∙ sym (map-append (λ (lane : L). lane.desk) done (taken ∷ []));
      ends = map_push lane_end seats longer (map lane_end done) seat (lane_end taken) i.ends items
          (ap (λ (s : g.row.S.Denot). record { signer = s; nodes = seat.nodes }) (made.1 ∙ ap (λ t. t.1) parts) ∙ ap (λ n. record { signer = taken.signer; nodes = n }) (made.2 ∙ ap (λ t. t.2) parts))
          ∙ sym (map-append lane_end done (taken ∷ []));
      shared = subst (λ (l : List X). All Shared l) (sym items) (All-push Shared seats seat i.shared shared);
      ready = subst (λ (l : List X). All Ready l) (sym items) (All-push Ready seats seat i.ready ready);
    }
