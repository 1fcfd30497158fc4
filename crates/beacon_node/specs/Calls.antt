-- A call of a beacon node, by what its link tells.
use Rattle.std.specs.Prelude.{◌≡◌, ◌⊎◌, ◌<◌, ℕ, List, [], Option, Some, None, Result, Err, codes, option_map, vec_len, vec_capacity, ⊤}
use Rattle.std.specs.Global.{Vec}
use Rattle.service_url.specs.Services.{Service}
use Rattle.http_wire.specs.declared.message.Response.{Response}
use Rattle.http_wire.specs.declared.message.WireFault.{WireFault}
use Rattle.http_call.specs.Calls.{IsCall, called_text}
use Rattle.node_calls.specs.declared.ask.Ask.{Ask}
use Rattle.node_calls.specs.declared.answer.Answer.{Answer}
use Rattle.node_calls.specs.declared.answer.NodeFault.{NodeFault}
use Rattle.node_calls.specs.declared.answer.NodeFault.TheVariants as fault
use Rattle.node_calls.specs.declared.post.Post.{Post}
use Rattle.node_calls.specs.declared.told.NodeCall.{NodeCall}
use Rattle.node_calls.specs.declared.told.PostCall.{PostCall}
use Rattle.node_calls.specs.Asking.{told_post}
use Rattle.beacon_node.specs.Requests.{ask_method, ask_path, ask_body, post_path, post_body}
use Rattle.beacon_node.specs.Said.{reply_said}
use Rattle.beacon_node.specs.Readings.{ask_reading, post_reading}

-- One HTTP call with this request, whose response, or the lack of one, has the meaning of this reply, unless memory ran
-- out. What was sent, what the peer says over the next connections and the count of faults stand before and now.
pub record IsNodeCall {Value Meaning : Type 0} (meaning : Result Value NodeFault → Result Meaning NodeFault) (reading : Result Response WireFault → Result Meaning NodeFault) (text : List ℕ) (held_before held_now : Option (List ℕ)) (coming_before coming_now : Option (List (List ℕ))) (faults_before faults_now : ℕ) (reply : Result Value NodeFault) : Type 0 where
  pub response : Result Response WireFault
  pub call : IsCall text held_before held_now coming_before coming_now faults_before faults_now response
  pub means : (meaning reply ≡ reading response) ⊎ (reply ≡ Err fault.OutOfMemory)

-- a question
abbrev pub IsAsked : Service → Ask → Option (List ℕ) → Option (List ℕ) → Option (List (List ℕ)) → Option (List (List ℕ)) → ℕ → ℕ → Result Answer NodeFault → Type 0
IsAsked url question = IsNodeCall reply_said (ask_reading question) (called_text url (ask_method question) (ask_path question) (ask_body question))

-- a post
abbrev pub IsPosted : Service → Post → Option (List ℕ) → Option (List ℕ) → Option (List (List ℕ)) → Option (List (List ℕ)) → ℕ → ℕ → Result (Unit {0}) NodeFault → Type 0
IsPosted url given = IsNodeCall (λ reply. reply) post_reading (called_text url (codes "POST") (post_path given) (post_body given))

-- the calls that were kept, where any are
abbrev pub kept : Option (Vec NodeCall) → Option (List NodeCall)
kept told = option_map (λ calls. calls.items) told

-- there is room for one more
abbrev pub HasRoom : Option (Vec NodeCall) → Type 0
HasRoom None = ⊤
HasRoom (Some told) = vec_len told < vec_capacity told

-- a node that tells none goes on telling none
abbrev pub IsSilent : Option (List NodeCall) → Option (List NodeCall) → Type 0
IsSilent before now = before ≡ None → now ≡ None

-- what is to be kept of a post: nothing where no calls are kept
abbrev pub IsReady : Option (Vec NodeCall) → Option PostCall → PostCall → Type 0
IsReady None call given = call ≡ None
IsReady (Some told) call given = call ≡ Some given

-- what is told of it with its reply
abbrev pub told_ready : Option PostCall → Result (Unit {0}) NodeFault → List NodeCall
told_ready None reply = []
told_ready (Some call) reply = told_post call reply
