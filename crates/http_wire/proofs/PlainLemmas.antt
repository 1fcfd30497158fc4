-- A body in no coding, and one in another.
use Rattle.std.proofs.Common.{◌≡◌, ℕ, Bool, List, [], Option, Some, None, Result, Ok, Err, refl, sym, ap, ◌∙◌}
use Rattle.edge_kit.proofs.TellingLemmas.{Consumes-nil}
use Rattle.http_wire.specs.declared.message.WireFault.{WireFault}
use Rattle.http_wire.specs.declared.message.WireFault.TheVariants as fault
use Rattle.http_wire.specs.Framings.{Pair, encoding_of, framing_of}
use Rattle.http_wire.specs.Codings.{IsEncodedBy}
use Rattle.http_wire.specs.Steps.{Took, BodyStep}
use Rattle.http_wire.specs.Plain.{PlainStep}

-- a body in another coding, of which nothing was taken
pub plain_encoded : (to_end : Bool) (fields : List Pair) (left : Option (List ℕ)) (body value : List ℕ) (f : WireFault) → IsEncodedBy value f → encoding_of fields ≡ Some value → Took left left (PlainStep to_end fields left (Err f) body)
plain_encoded to_end fields left body value fault.BadHead is e = absurd is
plain_encoded to_end fields left body value fault.BadBody is e = absurd is
plain_encoded to_end fields left body value (fault.TooLong n) is e = absurd is
plain_encoded to_end fields left body value (fault.Encoded v) is e = record { bytes = []; taken = Consumes-nil left; holds = (e ∙ ap Some (sym is), refl) }
plain_encoded to_end fields left body value fault.Link is e = absurd is
plain_encoded to_end fields left body value fault.OutOfMemory is e = record { bytes = []; taken = Consumes-nil left; holds = tt }

-- a body in no coding
pub plain_body : (to_end : Bool) (fields : List Pair) (before left : Option (List ℕ)) (body : List ℕ) (r : Result (Unit {0}) WireFault) → encoding_of fields ≡ None
    → Took before left (BodyStep to_end (framing_of fields) left r body) → Took before left (PlainStep to_end fields left r body)
plain_body to_end fields before left body (Ok u) plain took = record { bytes = took.bytes; taken = took.taken; holds = (plain, took.holds) }
plain_body to_end fields before left body (Err fault.BadHead) plain took = absurd took.holds
plain_body to_end fields before left body (Err fault.BadBody) plain took = record { bytes = took.bytes; taken = took.taken; holds = (plain, took.holds) }
plain_body to_end fields before left body (Err (fault.TooLong n)) plain took = record { bytes = took.bytes; taken = took.taken; holds = (took.holds.0, plain, took.holds.1) }
plain_body to_end fields before left body (Err (fault.Encoded v)) plain took = absurd took.holds
plain_body to_end fields before left body (Err fault.Link) plain took = record { bytes = took.bytes; taken = took.taken; holds = tt }
plain_body to_end fields before left body (Err fault.OutOfMemory) plain took = record { bytes = took.bytes; taken = took.taken; holds = tt }
