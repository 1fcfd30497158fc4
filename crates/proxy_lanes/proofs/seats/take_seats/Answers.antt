use Rattle.std.proofs.Common.{◌≡◌, ◌∷◌, ◌++◌, [], List, append_assoc, length, map, refl, sym, ap, ◌∙◌, subst, arith}
use Rattle.std.proofs.lemmas.List.{map-append}
use Rattle.desk_seat.specs.Seats.{DeskPass, IsDeskPass, SharedDesk}
use Rattle.door_lanes.proofs.ListLemmas.{all_more, map_push, next_of}
use Rattle.proxy_api.specs.Attending.{terms_of}
use Rattle.proxy_lanes.specs.declared.seats.Place.{Place}
use Rattle.proxy_lanes.proofs.seats.take_seats.Goals as goal

pub new-requires : goal.new-requires
new-requires g c =
    let D : Type 0 = g.row.D.Denot in
    let L : Type 0 = Place (DeskPass D) g.row.S.Denot in
    let Is : DeskPass D → Type 0 = λ p. IsDeskPass g.D.Disk.moment g.D.Disk.leaves g.D.Disk.faults c.args.shared.now p in
    let rest : c.places.place-iterator.rest.items ≡ c.in-Some.place ∷ c.next.new.self.rest.items = c.in-Some.ensures.steps.0 in
    next_of (λ (l : L). Is l.pass) c.args.places.items c.places.yielded c.next.new.self.rest.items c.in-Some.place c.requires.passes
    (ap (λ (l : List L). c.places.yielded ++ l) (sym rest) ∙ c.places.invariant.rest)

pub places-preserved : goal.places-preserved
places-preserved g c =
    let moment = g.D.Disk.moment in
    let leaves = g.D.Disk.leaves in
    let faults = g.D.Disk.faults in
    let D : Type 0 = g.row.D.Denot in
    let L : Type 0 = Place (DeskPass D) g.row.S.Denot in
    let i = c.places.invariant in
    let done : List L = c.places.yielded in
    let taken : L = c.in-Some.place in
    let later : List L = c.next.new.self.rest.items in
    let rest : c.places.place-iterator.rest.items ≡ taken ∷ later = c.in-Some.ensures.steps.0 in
    let left = ap (λ (l : List L). length l) rest in
    let items = c.push_reserved.ensures.items in
    let len = c.push_reserved.ensures.len in
    let capacity = c.push_reserved.ensures.capacity in
    let room = i.room in
    let Is : SharedDesk D → DeskPass D → Type 0 = λ s p. IsDeskPass moment leaves faults s p in
    let at : Is c.args.shared.now taken.pass = next_of (λ (l : L). Is c.args.shared.now l.pass) c.args.places.items done later taken c.requires.passes (ap (λ (l : List L). done ++ l) (sym rest) ∙ i.rest) in
    let shared : c.new.result.shared.now ≡ c.args.shared.now = ap (λ s. s.now) c.new.ensures.0 in
    let ready : Is c.new.result.shared.now c.new.result.pass =
    subst (λ (s : SharedDesk D). Is s c.new.result.pass) (sym shared) (subst (λ (p : DeskPass D). Is c.args.shared.now p) (sym c.new.ensures.1) at) in
    record {
      next = tt;
      finite = tt;
      rest = append_assoc done (taken ∷ []) later ∙ ap (λ (l : List L). done ++ l) (sym rest) ∙ i.rest;
      room = omega (arith, room, capacity, len, left);
      passes = map_push (λ servant. servant.desk.pass) c.places.servants.items c.push_reserved.new.self.items (map (λ (l : L). l.pass) done) _ taken.pass i.passes items c.new.ensures.1 ∙ sym (map-append (λ (l : L). l.pass) done (taken ∷ []));
      signers = map_push (λ servant. servant.signer) c.places.servants.items c.push_reserved.new.self.items (map (λ (l : L). l.signer) done) _ taken.signer i.signers items refl ∙ sym (map-append (λ (l : L). l.signer) done (taken ∷ []));
      shared = all_more (λ servant. servant.desk.shared.now ≡ c.args.shared.now) c.places.servants.items c.push_reserved.new.self.items _ i.shared items shared;
      ready = all_more (λ servant. Is servant.desk.shared.now servant.desk.pass) c.places.servants.items c.push_reserved.new.self.items _ i.ready items ready;
      terms = all_more (λ servant. terms_of (g.C.Clock.start servant.clock.now) servant.token.now servant.genesis servant.genesis_time ≡ terms_of (g.C.Clock.start c.args.clock.now) c.args.wanted.token.now c.args.wanted.genesis c.args.wanted.genesis_time)
          c.places.servants.items c.push_reserved.new.self.items _ i.terms items refl;
    }
