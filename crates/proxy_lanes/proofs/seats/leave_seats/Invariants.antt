use Rattle.std.proofs.Common.{◌≡◌, ◌++◌, ◌+◌, ◌≤◌, length, map}
use Rattle.std.specs.Prelude.{vec_capacity}
use Rattle.proxy_lanes.proofs.seats.leave_seats.Given as goal

abbrev pub invariant-servants : goal.invariant-servants
invariant-servants g l = record {
  next : (goal.iterator-servants g).can_next l.servant-iterator;
  finite : (goal.iterator-servants g).is_finite l.servant-iterator;
  rest : l.yielded ++ l.servant-iterator.rest.items ≡ l.fn.servants.items;
  room : length l.passes.items + length l.servant-iterator.rest.items ≤ vec_capacity l.passes;
  signers_room : length l.signers.items + length l.servant-iterator.rest.items ≤ vec_capacity l.signers;
  passes : l.passes.items ≡ map (λ servant. servant.desk.pass) l.yielded;
  signers : l.signers.items ≡ map (λ servant. servant.signer) l.yielded;
}
