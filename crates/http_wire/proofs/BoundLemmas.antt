-- A body within its limit.
use Rattle.std.proofs.Common.{ℕ, ◌≤◌, List, Option, arith}
use Rattle.http_wire.specs.declared.framing.Framing.{Framing}
use Rattle.http_wire.specs.declared.framing.Framing.TheVariants.{Unsaid, Sized, Chunked, Bad}
use Rattle.http_wire.specs.Bounds.{framed_limit, chunked_limit}
use Rattle.http_wire.specs.Steps.{TookAtMost}
use Rattle.http_wire.proofs.TakeLemmas.{at_most_within}

framed_within : (f : Framing) → framed_limit f ≤ chunked_limit
framed_within Unsaid = omega arith
framed_within (Sized n) = omega arith
framed_within Chunked = omega arith
framed_within Bad = omega arith

pub body_bound : (a b : Option (List ℕ)) (f : Framing) → TookAtMost a b (framed_limit f) → TookAtMost a b chunked_limit
body_bound a b f body = at_most_within a b (framed_limit f) chunked_limit body (framed_within f)
