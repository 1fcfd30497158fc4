use Rattle.std.proofs.Common.{◌≡◌, ◌++◌, ◌+◌, ◌≤◌, length, map}
use Rattle.std.specs.Prelude.{vec_capacity}
use Rattle.desk_lock.specs.Sharing.{IsSame, given_of}
use Rattle.proxy_lanes.specs.Seating.{AreNew}
use Rattle.proxy_lanes.proofs.seats.give_passes.Given as goal

abbrev pub invariant-signers : goal.invariant-signers
invariant-signers g l = record {
  next : (goal.iterator-signers g).can_next l.signer-iterator;
  finite : (goal.iterator-signers g).is_finite l.signer-iterator;
  rest : l.yielded ++ l.signer-iterator.rest.items ≡ l.fn.signers.items;
  same : IsSame l.fn.owner l.owner;
  given : given_of l.owner ≡ given_of l.fn.owner + length l.yielded;
  len : length l.places.items ≡ length l.yielded;
  room : length l.fn.signers.items ≤ vec_capacity l.places;
  signers : map (λ place. place.signer) l.places.items ≡ l.yielded;
  new : AreNew g.D.Disk.moment g.D.Disk.leaves g.D.Disk.faults l.fn.owner.shared (given_of l.fn.owner) (map (λ place. place.pass) l.places.items);
}
