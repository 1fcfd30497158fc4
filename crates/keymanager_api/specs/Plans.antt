-- What is done for a request, and the reply that comes of it.
use Rattle.std.specs.Prelude.{ℕ, List, Result, Ok, Err}
use Rattle.call_plans.specs.Plans.{Done, Stop, bind}
use Rattle.client_calls.specs.Steps.{ClientPlan}
use Rattle.key_custody.specs.Plans.{list_plan, import_plan, deletion_plan}
use Rattle.http_wire.specs.declared.message.Request.{Request}
use Rattle.http_wire.specs.declared.message.WireFault.{WireFault}
use Rattle.http_wire.specs.declared.message.WireFault.TheVariants as fault
use Rattle.keymanager_routes.specs.Refusals.{refusal_reply}
use Rattle.keymanager_routes.specs.declared.refusal.Refusal.{Refusal}
use Rattle.keymanager_routes.specs.declared.refusal.Refusal.TheVariants as refusal
use Rattle.keymanager_routes.specs.declared.reply.Reply.{Reply}
use Rattle.keymanager_bodies.specs.Asking.{asked_of}
use Rattle.keymanager_bodies.specs.Bodies.{listed_reply, import_reply, deletion_reply}
use Rattle.keymanager_bodies.specs.declared.asked.Asked.{Asked}
use Rattle.keymanager_bodies.specs.declared.asked.Asked.TheVariants as asked

-- of a request that passed the checks
abbrev pub asked_plan : ℕ → Asked → ClientPlan Reply
asked_plan now asked.List = bind list_plan (λ keys. Done (listed_reply keys))
asked_plan now (asked.Import file keystores) = bind (import_plan file now keystores) (λ ending. Done (import_reply ending))
asked_plan now (asked.Delete keys) = bind (deletion_plan keys) (λ deletion. Done (deletion_reply deletion))

-- a request that is refused calls nothing
abbrev pub checked_plan : ℕ → Result Asked Refusal → ClientPlan Reply
checked_plan now (Ok a) = asked_plan now a
checked_plan now (Err r) = Done (refusal_reply r)

-- where this token is wanted, at this epoch
abbrev pub answer_plan : List ℕ → ℕ → Request → ClientPlan Reply
answer_plan token now request = checked_plan now (asked_of token request)

-- what was no request calls nothing; there is no reply of its own where the link failed or memory ran out
abbrev pub faulty_plan : WireFault → ClientPlan Reply
faulty_plan fault.BadHead = Done (refusal_reply refusal.BadHead)
faulty_plan (fault.Encoded value) = Done (refusal_reply (refusal.Encoded value.items))
faulty_plan (fault.TooLong limit) = Done (refusal_reply refusal.BodyTooLong)
faulty_plan fault.BadBody = Done (refusal_reply refusal.BadBody)
faulty_plan fault.Link = Stop
faulty_plan fault.OutOfMemory = Stop

-- of what was read of a connection
abbrev pub message_plan : List ℕ → ℕ → Result Request WireFault → ClientPlan Reply
message_plan token now (Ok request) = answer_plan token now request
message_plan token now (Err f) = faulty_plan f
