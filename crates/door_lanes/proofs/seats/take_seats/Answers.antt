use Rattle.std.proofs.Common.{◌≡◌, ◌∷◌, ◌++◌, [], List, append_assoc, length, map, refl, sym, ap, ◌∙◌, arith}
use Rattle.std.proofs.lemmas.List.{map-append}
use Rattle.door_lanes.specs.Seats.{DoorPass}
use Rattle.door_lanes.specs.declared.lane.Lane.{Lane}
use Rattle.door_lanes.proofs.ListLemmas.{all_more, map_push}
use Rattle.door_lanes.proofs.seats.take_seats.Goals as goal

pub lanes-preserved : goal.lanes-preserved
lanes-preserved g c =
    let C : Type 0 = g.row.R-Conn.Denot in
    let L : Type 0 = Lane (DoorPass C) g.row.V.Denot C in
    let i = c.lanes.invariant in
    let done : List L = c.lanes.yielded in
    let taken : L = c.in-Some.lane in
    let later : List L = c.next.new.self.rest.items in
    let rest : c.lanes.lane-iterator.rest.items ≡ taken ∷ later = c.in-Some.ensures.steps.0 in
    let left = ap (λ (l : List L). length l) rest in
    let items = c.push_reserved.ensures.items in
    let len = c.push_reserved.ensures.len in
    let capacity = c.push_reserved.ensures.capacity in
    let room = i.room in
    record {
      next = tt;
      finite = tt;
      rest = append_assoc done (taken ∷ []) later ∙ ap (λ (l : List L). done ++ l) (sym rest) ∙ i.rest;
      room = omega (arith, room, capacity, len, left);
      passes = map_push (λ lane. lane.taker.pass) c.lanes.seats.items c.push_reserved.new.self.items (map (λ (l : L). l.taker) done) _ taken.taker i.passes items c.new.ensures.1 ∙ sym (map-append (λ (l : L). l.taker) done (taken ∷ []));
      servants = map_push (λ lane. lane.servant) c.lanes.seats.items c.push_reserved.new.self.items (map (λ (l : L). l.servant) done) _ taken.servant i.servants items refl ∙ sym (map-append (λ (l : L). l.servant) done (taken ∷ []));
      kept = map_push (λ lane. lane.kept) c.lanes.seats.items c.push_reserved.new.self.items (map (λ (l : L). l.kept) done) _ taken.kept i.kept items refl ∙ sym (map-append (λ (l : L). l.kept) done (taken ∷ []));
      shared = all_more (λ lane. lane.taker.shared.now ≡ c.args.shared.now) c.lanes.seats.items c.push_reserved.new.self.items _ i.shared items (ap (λ s. s.now) c.new.ensures.0);
    }
