use Rattle.std.proofs.Common.{◌≡◌, ◌+◌, ◌∷◌, ◌++◌, [], List, ℕ, append_assoc, length, map, refl, sym, ap, ◌∙◌, subst, arith}
use Rattle.std.proofs.lemmas.List.{length-append, length-map}
use Rattle.desk_lock.specs.Passes.{IsNew}
use Rattle.desk_lock.specs.Sharing.{given_of}
use Rattle.desk_seat.specs.Seats.{DeskPass, IsDeskPass, SharedDesk}
use Rattle.door_lanes.proofs.ListLemmas.{map_push}
use Rattle.proxy_lanes.specs.Seating.{AreNew}
use Rattle.proxy_lanes.specs.declared.seats.Place.{Place}
use Rattle.proxy_lanes.proofs.PassLemmas.{new_push}
use Rattle.proxy_lanes.proofs.seats.give_passes.Goals as goal

pub signers-preserved : goal.signers-preserved
signers-preserved g c =
    let moment = g.D.Disk.moment in
    let leaves = g.D.Disk.leaves in
    let faults = g.D.Disk.faults in
    let D : Type 0 = g.row.D.Denot in
    let S : Type 0 = g.row.S.Denot in
    let L : Type 0 = Place (DeskPass D) S in
    let i = c.signers.invariant in
    let e = c.in-Some-pass.ensures in
    let p : DeskPass D = c.in-Some-pass.pass in
    let shared : SharedDesk D = c.args.owner.now.shared in
    let first : ℕ = given_of c.args.owner.now in
    let places : List L = c.signers.places.items in
    let done : List S = c.signers.yielded in
    let taken : S = c.in-Some.signer in
    let place : L = record { pass = p; signer = taken } in
    let items : c.push_reserved.new.self.items ≡ places ++ place ∷ [] = c.push_reserved.ensures.items in
    let rest : c.signers.signer-iterator.rest.items ≡ taken ∷ c.next.new.self.rest.items = c.in-Some.ensures.steps.0 in
    let given_before = i.given in
    let given_now = e.some.2 in
    let len_before = i.len in
    let longer = length-append done (taken ∷ []) in
    let capacity = c.push_reserved.ensures.capacity in
    let room = i.room in
    let is : IsDeskPass moment leaves faults shared p = subst (λ (s : SharedDesk D). IsDeskPass moment leaves faults s p) (e.same.0 ∙ i.same.0) e.some.0 in
    let passes : List (DeskPass D) = map (λ (l : L). l.pass) places in
    let size : length passes ≡ length places = length-map places (λ (l : L). l.pass) in
    let new : IsNew (first + length passes) p = subst (λ (n : ℕ). IsNew n p) (omega (arith, given_before, len_before, size)) e.some.1 in
    let grown : map (λ (l : L). l.pass) c.push_reserved.new.self.items ≡ passes ++ p ∷ [] = map_push (λ (l : L). l.pass) places c.push_reserved.new.self.items passes place p refl items refl in
    record {
      next = tt;
      finite = tt;
      rest = append_assoc done (taken ∷ []) c.next.new.self.rest.items ∙ ap (λ (l : List S). done ++ l) (sym rest) ∙ i.rest;
      same = (e.same.0 ∙ i.same.0, e.same.1 ∙ i.same.1);
      given = omega (arith, given_before, given_now, longer);
      len = ap (λ (l : List L). length l) items ∙ length-append places (place ∷ []) ∙ ap (λ (n : ℕ). n + 1) len_before ∙ sym longer;
      room = omega (arith, room, capacity);
      signers = map_push (λ (l : L). l.signer) places c.push_reserved.new.self.items done place taken i.signers items refl;
      new = subst (λ (l : List (DeskPass D)). AreNew moment leaves faults shared first l) (sym grown) (new_push moment leaves faults shared first passes p i.new is new);
    }

pub returns-clause-new : goal.returns-clause-new
returns-clause-new g c =
    let i = c.signers.invariant in
    subst (λ (s : SharedDesk g.row.D.Denot). AreNew g.D.Disk.moment g.D.Disk.leaves g.D.Disk.faults s (given_of c.args.owner.now) (map (λ place. place.pass) c.signers.places.items)) (sym i.same.0) i.new
