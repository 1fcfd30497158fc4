-- What a node tells of its calls.
use Rattle.std.specs.Prelude.{List, [], ◌∷◌, Bool, true, false, Option, Result, Ok, Err}
use Rattle.edge_kit.specs.declared.bytes.PubKey.{PubKey}
use Rattle.slash_defs.specs.declared.message.Message.{Message}
use Rattle.node_calls.specs.declared.ask.Ask.{Ask}
use Rattle.node_calls.specs.declared.answer.Answer.{Answer}
use Rattle.node_calls.specs.declared.answer.NodeFault.{NodeFault}
use Rattle.node_calls.specs.declared.answer.NodeFault.TheVariants as fault
use Rattle.node_calls.specs.declared.post.Post.{Post}
use Rattle.node_calls.specs.declared.told.PostCall.{PostCall}
use Rattle.node_calls.specs.declared.told.NodeCall.{NodeCall}
use Rattle.node_calls.specs.declared.told.NodeCall.TheVariants as told

-- what was posted under a grant for this key and message
abbrev pub posted : PubKey → Option Message → Post → PostCall
posted key message post = record { key = key; message = message; post = post }

-- a question with its reply; where memory ran out nothing is told
abbrev pub told_ask : Ask → Result Answer NodeFault → List NodeCall
told_ask ask (Err fault.OutOfMemory) = []
told_ask ask (Err fault.Fault) = told.Asked ask (Err fault.Fault) ∷ []
told_ask ask (Err (fault.Status status)) = told.Asked ask (Err (fault.Status status)) ∷ []
told_ask ask (Err (fault.Unreadable body)) = told.Asked ask (Err (fault.Unreadable body)) ∷ []
told_ask ask (Ok answer) = told.Asked ask (Ok answer) ∷ []

-- similarly for a post
abbrev pub told_post : PostCall → Result (Unit {0}) NodeFault → List NodeCall
told_post call (Err fault.OutOfMemory) = []
told_post call (Err fault.Fault) = told.Posted call (Err fault.Fault) ∷ []
told_post call (Err (fault.Status status)) = told.Posted call (Err (fault.Status status)) ∷ []
told_post call (Err (fault.Unreadable body)) = told.Posted call (Err (fault.Unreadable body)) ∷ []
told_post call (Ok done) = told.Posted call (Ok done) ∷ []

-- the fault says something of the node
abbrev pub is_given : NodeFault → Bool
is_given fault.OutOfMemory = false
is_given _ = true
