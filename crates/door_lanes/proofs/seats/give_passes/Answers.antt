use Rattle.std.proofs.Common.{◌≡◌, ◌+◌, ◌∷◌, ◌++◌, [], All, List, ℕ, append_assoc, length, map, refl, sym, ap, ◌∙◌, None, subst, arith}
use Rattle.std.proofs.lemmas.List.{length-append, length-map}
use Rattle.std.proofs.lemmas.List.Elements.{All-push}
use Rattle.desk_lock.specs.Passes.{IsNew}
use Rattle.desk_lock.specs.Sharing.{given_of}
use Rattle.door_lanes.specs.Runs.{AreNew}
use Rattle.door_lanes.specs.Seats.{DoorPass, IsDoorPass, SharedDoor}
use Rattle.door_lanes.specs.declared.lane.Lane.{Lane}
use Rattle.door_lanes.proofs.ListLemmas.{map_push, new_push}
use Rattle.door_lanes.proofs.seats.give_passes.Goals as goal

pub servants-preserved : goal.servants-preserved
servants-preserved g c =
    let C : Type 0 = g.row.R-Conn.Denot in
    let E : Type 0 = g.row.V.Denot in
    let L : Type 0 = Lane (DoorPass C) E C in
    let i = c.servants.invariant in
    let e = c.in-Some-pass.ensures in
    let p : DoorPass C = c.in-Some-pass.pass in
    let shared : SharedDoor C = c.args.owner.now.shared in
    let first : ℕ = given_of c.args.owner.now in
    let lanes : List L = c.servants.lanes.items in
    let lane : L = c.new_lane.result in
    let items : c.push_reserved.new.self.items ≡ lanes ++ lane ∷ [] = c.push_reserved.ensures.items in
    let done : List E = c.servants.yielded in
    let taken : E = c.in-Some.servant in
    let rest : c.servants.servant-iterator.rest.items ≡ taken ∷ c.next.new.self.rest.items = c.in-Some.ensures.steps.0 in
    let given_before = i.given in
    let given_now = e.some.2 in
    let len_before = i.len in
    let longer = length-append done (taken ∷ []) in
    let capacity = c.push_reserved.ensures.capacity in
    let room = i.room in
    let is : IsDoorPass shared p = subst (λ (s : SharedDoor C). IsDoorPass s p) (e.same.0 ∙ i.same.0) e.some.0 in
    let passes : List (DoorPass C) = map (λ (l : L). l.taker) lanes in
    let size : length passes ≡ length lanes = length-map lanes (λ (l : L). l.taker) in
    let new : IsNew (first + length passes) p = subst (λ (n : ℕ). IsNew n p) (omega (arith, given_before, len_before, size)) e.some.1 in
    let grown : map (λ (l : L). l.taker) c.push_reserved.new.self.items ≡ passes ++ p ∷ [] = map_push (λ (l : L). l.taker) lanes c.push_reserved.new.self.items passes lane p refl items c.new_lane.ensures.parts.0 in
    let Empty : L → Type 0 = λ l. l.kept ≡ None in
    record {
      next = tt;
      finite = tt;
      rest = append_assoc done (taken ∷ []) c.next.new.self.rest.items ∙ ap (λ (l : List E). done ++ l) (sym rest) ∙ i.rest;
      same = (e.same.0 ∙ i.same.0, e.same.1 ∙ i.same.1);
      given = omega (arith, given_before, given_now, longer);
      len = ap (λ (l : List L). length l) items ∙ length-append lanes (lane ∷ []) ∙ ap (λ (n : ℕ). n + 1) len_before ∙ sym longer;
      room = omega (arith, room, capacity);
      servants = map_push (λ (l : L). l.servant) lanes c.push_reserved.new.self.items done lane taken i.servants items c.new_lane.ensures.parts.1;
      empty = subst (λ (l : List L). All Empty l) (sym items) (All-push Empty lanes lane i.empty c.new_lane.ensures.empty);
      new = subst (λ (l : List (DoorPass C)). AreNew shared first l) (sym grown) (new_push shared first passes p i.new is new);
    }

pub returns-clause-new : goal.returns-clause-new
returns-clause-new g c =
    let i = c.servants.invariant in
    subst (λ (s : SharedDoor g.row.R-Conn.Denot). AreNew s (given_of c.args.owner.now) (map (λ lane. lane.taker) c.servants.lanes.items)) (sym i.same.0) i.new
