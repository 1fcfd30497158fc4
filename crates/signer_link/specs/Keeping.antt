-- What a signer keeps of its calls, where it keeps any.
use Rattle.std.specs.Prelude.{◌≡◌, ◌<◌, List, [], Option, Some, None, option_map, vec_len, vec_capacity, ⊤}
use Rattle.std.specs.Global.{Vec}
use Rattle.signer_link.specs.declared.request.SignCall.{SignCall}
use Rattle.signer_link.specs.declared.request.PlainCall.{PlainCall}
use Rattle.signer_link.specs.declared.reply.SignReply.{SignReply}
use Rattle.signer_link.specs.declared.reply.Told.{Told}
use Rattle.signer_link.specs.Signing.{told_sign, told_plain}

-- the calls with their answers
abbrev pub kept : Option (Vec Told) → Option (List Told)
kept told = option_map (λ v. v.items) told

-- there is room for one more
abbrev pub HasRoom : Option (Vec Told) → Type 0
HasRoom None = ⊤
HasRoom (Some told) = vec_len told < vec_capacity told

-- what is to be kept of a call for a signature: nothing where no calls are kept
abbrev pub IsReady : {C : Type 0} → Option (Vec Told) → Option C → C → Type 0
IsReady None call given = call ≡ None
IsReady (Some told) call given = call ≡ Some given

-- what is told of it with its answer
abbrev pub told_by : {C : Type 0} → (C → SignReply → List Told) → Option C → SignReply → List Told
told_by told None answer = []
told_by told (Some call) answer = told call answer

-- of a call for the signature of a message, and of one for another signature
abbrev pub told_ready : Option SignCall → SignReply → List Told
told_ready call answer = told_by told_sign call answer

abbrev pub told_plain_ready : Option PlainCall → SignReply → List Told
told_plain_ready call answer = told_by told_plain call answer
