use Rattle.std.proofs.Common.{◌≡◌, ◌++◌, ◌+◌, ◌≤◌, All, length, map}
use Rattle.std.specs.Prelude.{vec_capacity}
use Rattle.desk_seat.specs.Seats.{IsDeskPass}
use Rattle.proxy_api.specs.Attending.{terms_of}
use Rattle.proxy_lanes.proofs.seats.take_seats.Given as goal

abbrev pub invariant-places : goal.invariant-places
invariant-places g l = record {
  next : (goal.iterator-places g).can_next l.place-iterator;
  finite : (goal.iterator-places g).is_finite l.place-iterator;
  rest : l.yielded ++ l.place-iterator.rest.items ≡ l.fn.places.items;
  room : length l.servants.items + length l.place-iterator.rest.items ≤ vec_capacity l.servants;
  passes : map (λ servant. servant.desk.pass) l.servants.items ≡ map (λ place. place.pass) l.yielded;
  signers : map (λ servant. servant.signer) l.servants.items ≡ map (λ place. place.signer) l.yielded;
  shared : All (λ servant. servant.desk.shared.now ≡ l.shared) l.servants.items;
  ready : All (λ servant. IsDeskPass g.D.Disk.moment g.D.Disk.leaves g.D.Disk.faults servant.desk.shared.now servant.desk.pass) l.servants.items;
  terms : All (λ servant. terms_of (g.C.Clock.start servant.clock.now) servant.token.now servant.genesis servant.genesis_time ≡ terms_of (g.C.Clock.start l.clock) l.wanted.token.now l.wanted.genesis l.wanted.genesis_time) l.servants.items;
}
