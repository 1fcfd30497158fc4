use Rattle.std.proofs.Common.{◌≡◌, ◌+◌, ◌∷◌, ◌++◌, [], List, ℕ, append_assoc, length, map, refl, sym, ap, ◌∙◌, subst, arith}
use Rattle.std.proofs.lemmas.List.{length-append, length-map}
use Rattle.desk_lock.specs.Passes.{IsNew}
use Rattle.desk_lock.specs.Sharing.{given_of}
use Rattle.desk_seat.specs.Seats.{DeskPass, IsDeskPass, SharedDesk}
use Rattle.duty_workers.specs.declared.lane.Lane.{Lane}
use Rattle.serve_run.specs.Seating.{AreNew, lane_end}
use Rattle.serve_run.specs.declared.lanes.LaneEnd.{LaneEnd}
use Rattle.serve_run.proofs.ShareLemmas.{map_push, new_push}
use Rattle.serve_run.proofs.seats.give_passes.Goals as goal

pub ends-preserved : goal.ends-preserved
ends-preserved g c =
    let moment = g.D.Disk.moment in
    let leaves = g.D.Disk.leaves in
    let faults = g.D.Disk.faults in
    let D : Type 0 = g.row.D.Denot in
    let L : Type 0 = Lane (DeskPass D) g.row.S.Denot g.row.N.Denot in
    let E : Type 0 = LaneEnd g.row.S.Denot g.row.N.Denot in
    let i = c.ends.invariant in
    let e = c.in-Some-pass.ensures in
    let p : DeskPass D = c.in-Some-pass.pass in
    let shared : SharedDesk D = c.args.owner.now.shared in
    let first : ℕ = given_of c.args.owner.now in
    let lanes : List L = c.ends.lanes.items in
    let lane : L = c.new.result in
    let items : c.push_reserved.new.self.items ≡ lanes ++ lane ∷ [] = c.push_reserved.ensures.items in
    let done : List E = c.ends.yielded in
    let taken : E = c.in-Some.end in
    let rest : c.ends.end-iterator.rest.items ≡ taken ∷ c.next.new.self.rest.items = c.in-Some.ensures.steps.0 in
    let given_before = i.given in
    let given_now = e.some.2 in
    let len_before = i.len in
    let longer = length-append done (taken ∷ []) in
    let capacity = c.push_reserved.ensures.capacity in
    let room = i.room in
    let is : IsDeskPass moment leaves faults shared p = subst (λ (s : SharedDesk D). IsDeskPass moment leaves faults s p) (e.same.0 ∙ i.same.0) e.some.0 in
    let passes : List (DeskPass D) = map (λ (l : L). l.desk) lanes in
    let size : length passes ≡ length lanes = length-map lanes (λ (l : L). l.desk) in
    let new : IsNew (first + length passes) p = subst (λ (n : ℕ). IsNew n p) (omega (arith, given_before, len_before, size)) e.some.1 in
    let grown : map (λ (l : L). l.desk) c.push_reserved.new.self.items ≡ passes ++ p ∷ [] = map_push (λ (l : L). l.desk) lanes c.push_reserved.new.self.items passes lane p refl items c.new.ensures.0 in
    record {
      next = tt;
      finite = tt;
      rest = append_assoc done (taken ∷ []) c.next.new.self.rest.items ∙ ap (λ (l : List E). done ++ l) (sym rest) ∙ i.rest;
      same = (e.same.0 ∙ i.same.0, e.same.1 ∙ i.same.1);
      given = omega (arith, given_before, given_now, longer);
      len = ap (λ (l : List L). length l) items ∙ length-append lanes (lane ∷ []) ∙ ap (λ (n : ℕ). n + 1) len_before ∙ sym longer;
      room = omega (arith, room, capacity);
      ends = map_push lane_end lanes c.push_reserved.new.self.items done lane taken i.ends items
          (ap (λ (s : g.row.S.Denot). record { signer = s; nodes = lane.nodes }) c.new.ensures.1 ∙ ap (λ n. record { signer = taken.signer; nodes = n }) c.new.ensures.2);
      new = subst (λ (l : List (DeskPass D)). AreNew moment leaves faults shared first l) (sym grown) (new_push moment leaves faults shared first passes p i.new is new);
    }

pub returns-clause-new : goal.returns-clause-new
returns-clause-new g c =
    let i = c.ends.invariant in
    subst (λ (s : SharedDesk g.row.D.Denot). AreNew g.D.Disk.moment g.D.Disk.leaves g.D.Disk.faults s (given_of c.args.owner.now) (map (λ lane. lane.desk) c.ends.lanes.items)) (sym i.same.0) i.new
